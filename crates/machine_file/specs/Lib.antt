pub mod Machine
pub mod Pairs
pub mod Place
pub mod Top
