pub mod Copies
pub mod Meanings
pub mod Laws
