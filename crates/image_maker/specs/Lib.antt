pub mod Assembling
pub mod Drawing
pub mod HoldsWords
pub mod Made
pub mod MadeTexts
pub mod Making
pub mod Places
pub mod PlainImage
