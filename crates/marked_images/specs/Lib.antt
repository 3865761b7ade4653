pub mod Wanted
pub mod Refused
pub mod Stored
pub mod Markings
pub mod Scalings
pub mod Promise
