pub mod Simulated
pub mod Seen
pub mod Progress
pub mod Tallied
