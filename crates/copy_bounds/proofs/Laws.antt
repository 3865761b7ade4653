-- The lemmas of this crate that crates above may cite.
pub use Rattle.copy_bounds.proofs.Law.{exits_kept as versioned_exits_are_kept, keep_bounds as versioned_runs_keep_bounds}
