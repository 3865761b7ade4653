pub mod Pictures
pub mod Places
pub mod PictureTexts
