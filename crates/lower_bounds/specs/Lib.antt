pub mod LowerBounds
pub mod Laws
pub mod LowerTables
