pub mod Stopping
pub mod Left
pub mod Listed
pub mod Proved
