pub mod Prices
pub mod Stubs
pub mod Promise
pub mod FilePromise
pub mod Followed
pub mod Laws
