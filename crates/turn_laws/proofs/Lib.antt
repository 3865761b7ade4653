mod Relations
mod Inputs
mod Facts
mod Turns
mod Steps
mod Counts
mod Bounds
pub mod Laws
