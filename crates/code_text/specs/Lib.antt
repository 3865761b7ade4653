pub mod Walk
pub mod Table
pub mod Text
pub mod EdgeCosts
pub mod TextGraph
pub mod Laws
