pub mod Worst
pub mod Needs
pub mod Solved
pub mod Visits
pub mod Rests
pub mod Lefts
pub mod Planned
