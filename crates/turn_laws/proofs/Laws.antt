-- The laws of turns, for the proofs of crates above.
pub use Rattle.turn_laws.proofs.Bounds.{bounded, shown_kept, shown_by_returns}
