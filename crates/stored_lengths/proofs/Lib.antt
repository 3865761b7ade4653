pub mod TextEnd
pub mod Blocks
pub mod Files
pub mod Programs
pub mod Laws
