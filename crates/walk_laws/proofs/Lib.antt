pub mod Joined
pub mod Filled
pub mod Functions
pub mod Sums
pub mod Balance
pub mod Exact
pub mod Laws
