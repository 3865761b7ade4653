-- The lemmas of this crate that crates above may cite.
pub use Rattle.stored_lengths.proofs.Programs.{held_short, rewritten_as_short, rewritten_short, stubbed_short, tuned_short}
