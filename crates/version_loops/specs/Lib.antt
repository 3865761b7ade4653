pub mod VersionFile
pub mod Checked
