pub mod AmongLaws
mod ArcLaws
pub mod NodeLaws
pub mod BodyLaws
pub mod Laws
