pub mod Seen
pub mod Words
pub mod Along
pub mod Making
pub mod Laws
