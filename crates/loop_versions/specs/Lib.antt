pub mod Pieces
pub mod Fitting
pub mod Made
pub mod GuardRuns
pub mod MovedSteps
pub mod Follows
