-- The lemmas of this crate that crates above may cite.
pub use Rattle.version_loops.proofs.Law.{files_are_kept}
