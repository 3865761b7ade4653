pub mod Stores
pub mod Missing
pub mod Reading
pub mod Keeping
pub mod Following
pub mod Coding
pub mod Levels
