-- The lemmas of this crate that crates above may cite.
pub use Rattle.paid_runs.proofs.Energies.{energy_sum, switches_save}
pub use Rattle.paid_runs.proofs.Paid.{runs_paid, runs_within, stubs_bounded}
pub use Rattle.paid_runs.proofs.Tables.{tables_keep_budgets, tables_of_keep_time}
pub use Rattle.paid_runs.proofs.Tuned.{budgeted_safe, tuned_budgeted, tuned_safe}
pub use Rattle.paid_runs.proofs.Aligned.{AreAligned, IsFirst, counted_after, extra_sum, first_of_both, stored_at, stored_sum}
pub use Rattle.paid_runs.proofs.Graphs.{loops_are_countable, targets_are_words, weights_of_calls}
pub use Rattle.paid_runs.proofs.Kept.{kept_followed, kept_patched}
pub use Rattle.paid_runs.proofs.Shown.{counts_shown}
pub use Rattle.paid_runs.proofs.Words.{countable_of, counted_of, counters_of, is_word, word_of_loop}
