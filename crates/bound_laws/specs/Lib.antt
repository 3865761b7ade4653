pub mod Registers
pub mod Turning
pub mod Values
pub mod Laws
