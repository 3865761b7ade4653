-- The lemmas of this crate that crates above may cite.
pub use Rattle.worst_reports.proofs.HeldFacts.{explained_held}
