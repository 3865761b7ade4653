-- The lemmas of this crate that crates above may cite.
pub use Rattle.cost_theory.proofs.Acyclic.{any-some}
pub use Rattle.cost_theory.proofs.Agreeing.{edge_node, one_graph}
pub use Rattle.cost_theory.proofs.Append.{count_anew, count_same, leads_to_header}
pub use Rattle.cost_theory.proofs.AtLeast.{charge_none, charge_one, kept-charged, no_numbers, peel}
pub use Rattle.cost_theory.proofs.Basics.{and_both, and_false, and_left, and_right, below_suc, find-holds, find-some, not_true, ones-le, only_false}
pub use Rattle.cost_theory.proofs.Basics.{only_true, search_below, some_value, sum-le, sum-none, sum-one, sum-same, term-le-sum}
pub use Rattle.cost_theory.proofs.Closings.{header_closes}
pub use Rattle.cost_theory.proofs.Contexts.{numbers_exist}
pub use Rattle.cost_theory.proofs.Equation.{left-plain}
pub use Rattle.cost_theory.proofs.Example.{no_callee, small, small_accepted, small_extent, small_loop, small_program}
pub use Rattle.cost_theory.proofs.Exists.{any-none, none-any}
pub use Rattle.cost_theory.proofs.Law.{IsChain, IsSound, Stands, next-is, worst_equation}
pub use Rattle.cost_theory.proofs.Least.{least_reached, least_up_to}
pub use Rattle.cost_theory.proofs.Nesting.{IsAtHeader, accepted_entered, accepted_with, body_node, entered_at_headers, entry_at_header, entry_header}
pub use Rattle.cost_theory.proofs.Nesting.{extent-body, header_held, headers-distinct, held_within, nested, one_within, side_header, some_same}
pub use Rattle.cost_theory.proofs.Nesting.{step_at_header}
pub use Rattle.cost_theory.proofs.Orders.{entered-accepted, function-worst, left-worst, order-no_cycle, stable_least, turns-worst}
pub use Rattle.cost_theory.proofs.OrdersExist.{call_order, plain_order}
pub use Rattle.cost_theory.proofs.Overruns.{closing-worst, iteration-worst}
pub use Rattle.cost_theory.proofs.Programs.{back-word, back_ends, callee-call, callee-is, callee_word, edge_leads, edge_word, end_edge, is_program}
pub use Rattle.cost_theory.proofs.Programs.{reached_node, returns_word, same_owner, some_get, source_reached}
pub use Rattle.cost_theory.proofs.Reaching.{Within, edge_of_word, edges-at, flat_within, get_within, within_flat, within_get, word_edge}
pub use Rattle.cost_theory.proofs.Rest.{first_uncalled, plain_from_entry, rest-worst}
pub use Rattle.cost_theory.proofs.Runs.{left_start, run-worst, sound_after, sound_run, sound_start, step_law}
pub use Rattle.cost_theory.proofs.Slack.{closing_present, slack-le}
pub use Rattle.cost_theory.proofs.StepLaws.{along_at, behind-rest, behind-turns, run-within}
pub use Rattle.cost_theory.proofs.Turns.{AreNested, back_charged, charged_entering, entered-header}
pub use Rattle.cost_theory.proofs.Unique.{greatest_some, same_numbers}
