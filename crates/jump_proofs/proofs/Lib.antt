pub mod Shown
pub mod Keeping
pub mod Laws
