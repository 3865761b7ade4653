pub mod Stretches
pub mod Recorded
