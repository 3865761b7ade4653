pub mod Beside
pub mod FewOnce
pub mod Entries
pub mod Causes
pub mod Graphs
pub mod WeightLists
pub mod Laws
