pub mod Pairs
pub mod Helds
pub mod SameMarks
pub mod SameFragments
pub mod SameSites
pub mod Counted
pub mod Rewrites
