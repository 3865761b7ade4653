pub mod Notes
pub mod Jumps
