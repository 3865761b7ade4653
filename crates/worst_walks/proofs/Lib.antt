pub mod Passes
pub mod PartLaws
pub mod EnterLaws
pub mod WalkLaws
pub mod WholeLaws
pub mod Laws
