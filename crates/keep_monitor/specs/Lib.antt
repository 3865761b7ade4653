pub mod Watch
pub mod Headers
pub mod Steps
pub mod Laws
pub mod Slots
pub mod Counted
pub mod Reached
