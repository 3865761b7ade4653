-- The lemmas of this crate that crates above may cite.
pub use Rattle.image_check.proofs.Agreed.{checked_answers}
pub use Rattle.image_check.proofs.SafeChecks.{checked_safe}
pub use Rattle.image_check.proofs.StoredSafe.{rewritten_safe}
