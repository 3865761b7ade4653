pub mod Marks
pub mod Weights
pub mod Counters
pub mod Sites
pub mod Forms
pub mod Marked
