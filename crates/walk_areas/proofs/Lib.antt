mod Traces
mod Grounds
mod Facts
mod Turns
mod Steps
mod Starts
mod Counts
pub mod Laws
