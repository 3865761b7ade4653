pub mod Endings
pub mod Fitting
pub mod Least
pub mod Finding
