pub mod Shown
pub mod Proved
