pub mod Words
pub mod Steps
pub mod Runs
pub mod Fixed
pub mod Laws
