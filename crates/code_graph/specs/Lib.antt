pub mod Reach
pub mod Steps
pub mod Outside
pub mod Flow
pub mod Marks
pub mod Building
pub mod Finding
pub mod Assembling
