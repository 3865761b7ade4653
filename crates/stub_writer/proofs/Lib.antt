pub mod Reach
pub mod SiteLaws
mod Vectors
pub mod Laws
