-- The laws of stacks, for the proofs of crates above.
pub use Rattle.stack_laws.proofs.Returning.{runs_come_back}
pub use Rattle.stack_laws.proofs.Bounds.{image_laid, image_told, shown_kept, shown_by_returns}
pub use Rattle.stack_laws.proofs.Counts.{stacks_bound_turns}
pub use Rattle.stack_laws.proofs.Keeping.{kept_while}
pub use Rattle.stack_laws.proofs.Tidy.{activations_of, certain_step, certain_tidy, tidy_before, tidy_up_to, tidy_step, open_first, open_over, open_call, open_back}
pub use Rattle.stack_laws.proofs.Inductions.{along}
pub use Rattle.stack_laws.proofs.Runs.{Holds, Returned, over_holds, call_holds, back_holds}
pub use Rattle.stack_laws.proofs.Stepping.{gets, puts, misses}
pub use Rattle.stack_laws.proofs.Cells.{one_byte, two_bytes, four_bytes, reads}
pub use Rattle.stack_laws.proofs.Areas.{usable, disjoint}
pub use Rattle.stack_laws.proofs.Fixed.{bytes_kept, reads_aligned}
pub use Rattle.stack_laws.proofs.Written.{numbers, results}
