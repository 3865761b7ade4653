pub mod Made
pub mod Stopping
