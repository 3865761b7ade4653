pub mod Answer
pub mod Command
pub mod Numbers
pub mod Passing
pub mod Promise
pub mod Scaled
pub mod Tool
pub mod Views
