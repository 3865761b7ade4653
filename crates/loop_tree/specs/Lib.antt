pub mod Backs
pub mod Trips
pub mod Passes
