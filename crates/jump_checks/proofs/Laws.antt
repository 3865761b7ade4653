-- The lemmas of this crate that crates above may cite.
pub use Rattle.jump_checks.proofs.Seen.{known_number, read_seen}
