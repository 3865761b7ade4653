pub mod Answering
pub mod Parts
pub mod Laws
