pub mod Tree
pub mod Stored
pub mod Arcs
pub mod Noted
pub mod Found
pub mod Refused
