pub mod ChainLaws
pub mod Laws
mod DepthFirstLaws
mod OrderLaws
mod ArcChainLaws
pub mod CycleLaws
pub mod EdgeLaws
pub mod BodyLaws
pub mod EntryLaws
pub mod BitLaws
pub mod InsideLaws
pub mod SweepLaws
pub mod GroupLaws
pub mod SpanLaws
pub mod NestingLaws
pub mod NestingPassLaws
pub mod RankLaws
