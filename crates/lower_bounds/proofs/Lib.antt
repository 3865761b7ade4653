mod Naming
mod Transitions
mod Modes
mod Counts
mod Keeping
mod Bounds
mod Seen
mod Cases
mod Whole
pub mod Laws
