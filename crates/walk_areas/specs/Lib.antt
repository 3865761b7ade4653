pub mod Walking
pub mod Laws
