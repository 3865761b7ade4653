pub mod Blocks
pub mod Ordered
pub mod Lists
pub mod Loaded
pub mod Pages
pub mod PageTables
pub mod Paged
pub mod Wholes
