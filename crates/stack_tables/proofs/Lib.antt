pub mod Seen
mod Public
pub mod Laws
mod Fixing
mod Numbers
pub mod Doubts
