pub mod Candidates
pub mod Spending
pub mod Choice
pub mod Finding
pub mod Agreeing
pub mod Safe
