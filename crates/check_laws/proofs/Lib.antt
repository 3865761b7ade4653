pub mod PassedFiles
pub mod PassedOnly
