pub mod Explained
pub mod ExplainedTexts
