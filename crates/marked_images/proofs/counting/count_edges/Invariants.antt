use Rattle.std.proofs.Common.{◌≡◌, ◌≤◌}
use Rattle.std.specs.List.{list_any}
use Rattle.cost_theory.specs.Graph.{sum_below, only}
use Rattle.scale_sites.specs.Sites.{marks_at_edge}
use Rattle.rewritten_runs.specs.Stubs.{is_switch, is_exit_mark, is_count}
use Rattle.marked_images.proofs.counting.count_edges.Given as goal

abbrev pub invariant-loop-e : goal.invariant-loop-e
invariant-loop-e l =
    (l.counts.switch ≡ sum_below l.e (λ e. only (list_any is_switch (marks_at_edge l.sites e)) 1)) × (l.counts.exit ≡ sum_below l.e (λ e. only (list_any is_exit_mark (marks_at_edge l.sites e)) 1))
    × (l.counts.count ≡ sum_below l.e (λ e. only (list_any is_count (marks_at_edge l.sites e)) 1)) × (l.counts.switch ≤ l.e) × (l.counts.exit ≤ l.e) × (l.counts.count ≤ l.e)
