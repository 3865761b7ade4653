pub mod Words
pub mod Dot
pub mod Counts
