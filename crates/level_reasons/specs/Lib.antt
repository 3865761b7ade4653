pub mod Reasons
pub mod Kept
pub mod Ways
pub mod Program
pub mod ReasonTexts
