-- The lemmas of this crate that crates above may cite.
pub use Rattle.level_reasons.proofs.HeldFacts.{shown_held}
