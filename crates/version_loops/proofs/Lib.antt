mod Bounds
mod Covered
mod Law
mod Stops
pub mod Laws
