pub mod Versioned
pub mod Versions
