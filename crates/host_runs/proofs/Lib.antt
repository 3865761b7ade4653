pub mod Given
pub mod Laws
pub mod Limits
mod Loads
mod Storing
