-- The lemmas of this crate that crates above may cite.
pub use Rattle.worst_walks.proofs.EnterLaws.{header_address, loop_below, loop_within}
