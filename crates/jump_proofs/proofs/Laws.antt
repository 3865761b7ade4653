-- The laws of proved jumps, for the proofs of crates above.
pub use Rattle.jump_proofs.proofs.Keeping.{all_keep_lists, keep_lists}
pub use Rattle.jump_proofs.proofs.Shown.{none_proved}
