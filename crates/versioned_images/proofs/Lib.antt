pub mod Fit
pub mod Parts
pub mod Found
