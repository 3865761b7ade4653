pub mod Besides
pub mod Laws
