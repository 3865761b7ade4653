-- The lemmas of this crate that crates above may cite.
pub use Rattle.rewritten_runs.proofs.CallWeights.{extra_are_weights, stored_are_weights}
pub use Rattle.rewritten_runs.proofs.Edges.{branch_kind, call_goes_on, edge_is, jump_kind, led_class}
pub use Rattle.rewritten_runs.proofs.Ended.{over_stays, taken, taken_within}
pub use Rattle.rewritten_runs.proofs.FewMarks.{depth, few_marks}
pub use Rattle.rewritten_runs.proofs.Grows.{worst_grows}
pub use Rattle.rewritten_runs.proofs.Law.{budgeted_follow, chosen_follow, rewritten_follow, storable, supplied}
pub use Rattle.rewritten_runs.proofs.MarkLists.{at_set, counter_through, counts_are, effect, marks_all, others_through, resets_are, through}
pub use Rattle.rewritten_runs.proofs.MarkOrder.{IsQuietMark, in_get, set_distinct}
pub use Rattle.rewritten_runs.proofs.Marked.{countable, counted_at, counted_is, graph_program, IsCounter, IsMarkOf, limited, loop_count, loop_is, marked_led, marks_are}
pub use Rattle.rewritten_runs.proofs.Marked.{marks_of_edge, program_is, shadow_of}
pub use Rattle.rewritten_runs.proofs.PlainMarks.{IsPlainMark, plain_marks, rule_marks}
pub use Rattle.rewritten_runs.proofs.Programs.{kept_by_tree, listed_weights, numbers_listed, program_of, weights_count, weights_hold, weights_listed}
pub use Rattle.rewritten_runs.proofs.Ranges.{rest_in_range, slack_in_range, turns_in_range}
pub use Rattle.rewritten_runs.proofs.Short.{block_bytes_len, block_short}
pub use Rattle.rewritten_runs.proofs.Supplied.{IsSupplied}
pub use Rattle.rewritten_runs.proofs.TableLaws.{rows_count, shift_fits, tally_fits}
pub use Rattle.rewritten_runs.proofs.Weighed.{placed, tail_is}
pub use Rattle.rewritten_runs.proofs.SafeSites.{branch_fits, place_of_site}
