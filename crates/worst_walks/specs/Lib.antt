pub mod Tallies
pub mod Explained
pub mod Fitted
pub mod Owned
pub mod Known
pub mod Whole
