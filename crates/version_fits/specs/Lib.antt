pub mod Given
pub mod Chosen
pub mod Goals
