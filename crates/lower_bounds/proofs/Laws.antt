-- The laws of lower bounds, for the proofs of crates above.
pub use Rattle.lower_bounds.proofs.Bounds.{lower_kept}
