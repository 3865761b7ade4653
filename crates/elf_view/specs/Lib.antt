pub mod Beside
pub mod Refused
