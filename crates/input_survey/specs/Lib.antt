pub mod Most
pub mod Surveyed
pub mod Totals
pub mod Bounds
pub mod Promised
pub mod Agreeing
pub mod Said
