pub mod Answer
pub mod Command
pub mod Delivered
pub mod Loaded
pub mod Loading
pub mod Promise
pub mod Views
pub mod Words
