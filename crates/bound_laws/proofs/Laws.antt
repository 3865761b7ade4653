-- The laws of loop bounds, for the proofs of crates above.
pub use Rattle.bound_laws.proofs.Arcs.{IsBetween, below_top, in_covers, in_exactly, in_word, meet_in, meet_of_in, negated_in, of_biased, of_plain, only_one, scaled_in, sum_in, sum_with_in, without_in}
pub use Rattle.bound_laws.proofs.Before.{kept_before}
pub use Rattle.bound_laws.proofs.Differences.{compared_in}
pub use Rattle.bound_laws.proofs.Effects.{step_of, steps_add, steps_leave}
pub use Rattle.bound_laws.proofs.Inductions.{KeptStep, along}
pub use Rattle.bound_laws.proofs.Keeping.{all_returns, found_kept, kept_by_returns, kept_too, not_broken, returns_kept}
pub use Rattle.bound_laws.proofs.Lines.{held_of, line_in, measured_small, not_shift, solved_in, word_of}
pub use Rattle.bound_laws.proofs.LoadedBytes.{loaded_small}
pub use Rattle.bound_laws.proofs.Memory.{step_bytes}
pub use Rattle.bound_laws.proofs.Modes.{AreOutside}
pub use Rattle.bound_laws.proofs.Moduli.{kept_sum, measure_adds, no_turns, nothing_more, one_turn, small_sum, sum_of_products}
pub use Rattle.bound_laws.proofs.Transfers.{IsSo, first_between, first_in, passed_in, possible, second_between, second_in, seen, seen_in, so_behind}
pub use Rattle.bound_laws.proofs.TurningRuns.{site_back}
pub use Rattle.bound_laws.proofs.Ways.Way.{back_to, into_call, over_edge}
pub use Rattle.bound_laws.proofs.Ways.{At, Onward, Way, fetched, onward, site_small}
