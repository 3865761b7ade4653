pub mod Notes
pub mod Addresses
pub mod Loops
pub mod Kept
