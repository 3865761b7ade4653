pub mod StoredView
pub mod Held
