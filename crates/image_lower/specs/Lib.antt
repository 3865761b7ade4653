pub mod FarJumps
pub mod Entered
pub mod Trees
pub mod Block
pub mod Lowered
pub mod Meets
pub mod TreeRuns
pub mod Promise
