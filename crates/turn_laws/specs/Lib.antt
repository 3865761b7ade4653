pub mod Relating
pub mod Laws
