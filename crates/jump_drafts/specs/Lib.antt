pub mod Jumps
pub mod Texts
pub mod Drafted
