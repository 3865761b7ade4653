pub mod FlowGraph
pub mod Refused
pub mod Blocks
pub mod Ends
pub mod Stored
