pub mod Fragments
pub mod Stubs
pub mod Sites
pub mod Block
