pub mod FoundLaws
pub mod FileFacts
pub mod ProgramFacts
pub mod HeldFacts
pub mod Laws
