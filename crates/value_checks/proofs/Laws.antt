-- The lemmas of this crate that crates above may cite.
pub use Rattle.value_checks.proofs.Besides.{at_is, beside_is, beside_node, live_is, once}
