pub mod Booleans
pub mod Places
pub mod Names
pub mod Stored
pub mod Laws
