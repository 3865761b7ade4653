mod Lists
mod ArcLaws
mod BackLaws
mod RoundLaws
pub mod OrderLaws
mod NestLaws
mod TreeLaws
pub mod TripLaws
pub mod EndLaws
pub mod ExtentLaws
pub mod WalkLaws
pub mod HeaderLaws
pub mod SortLaws
pub mod EntryLaws
pub mod ReadyLaws
pub mod FoundLaws
pub mod GroupLaws
