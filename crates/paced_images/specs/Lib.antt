pub mod Wanted
pub mod Flags
pub mod Paced
pub mod Programs
pub mod Useful
pub mod Proposed
