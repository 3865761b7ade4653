pub mod Listing
pub mod NestLaws
pub mod BlockLoops
pub mod BlockFacts
pub mod ProgramFacts
pub mod FileFacts
