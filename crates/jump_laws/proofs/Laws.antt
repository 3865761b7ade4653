-- The laws of tables of targets, for the proofs of crates above.
pub use Rattle.jump_laws.proofs.Fixed.{fixed_stay}
