-- The marks that a rule gives an edge are switches, exits, resets and counts, and none is a Lowest or a Tally.
use Rattle.std.proofs.Common.{ℕ, Bool, true, false, not, ◌&&◌, nat_le, List, [], ◌++◌, Option, sym, subst}
use Rattle.std.specs.Prelude.{All}
use Rattle.std.proofs.lemmas.List.Elements.{All-nil, All-cons, All-append}
use Rattle.cost_theory.specs.Graph.{Loops, leaves, goes_back}
use Rattle.flow_graph.specs.FlowGraph.{FlowGraph, graph}
use Rattle.loop_forest.specs.Tree.{LoopView, loops}
use Rattle.scale_base.specs.declared.fragments.Mark.{Mark}
use Rattle.scale_base.specs.declared.fragments.Mark.TheVariants as marks
use Rattle.scale_sites.specs.Counters.{counted_loops}
use Rattle.scale_sites.specs.Marks.{first_counter, leaves_any, is_outermost, mark_if, switch_of, exits_from, resets_from, counts_from, marks_at}
use Rattle.scale_sites.specs.Sites.{is_branch}
use Rattle.rewritten_runs.specs.Stubs.{Rule, marks_by}
use Rattle.rewritten_runs.proofs.MarkLists.{marks_all, exits_are, resets_are, counts_are}

-- a switch, an exit, a reset or a count
abbrev pub IsPlainMark : Mark → Type 0
IsPlainMark marks.Switch = Unit {0}
IsPlainMark (marks.Exit c) = Unit {0}
IsPlainMark (marks.Reset c) = Unit {0}
IsPlainMark (marks.Count c) = Unit {0}
IsPlainMark marks.Lowest = ⊥
IsPlainMark (marks.Tally c) = ⊥

plain_switch : (b : Bool) → All IsPlainMark (mark_if b marks.Switch)
plain_switch true = All-cons IsPlainMark marks.Switch [] tt (All-nil IsPlainMark)
plain_switch false = All-nil IsPlainMark

-- so are all marks of a step
pub plain_marks : (l : Loops) (counted : List ℕ) (branch : Bool) (slack min_gain u : ℕ) (p : Option ℕ) → All IsPlainMark (marks_at l counted branch slack min_gain u p)
plain_marks l counted branch slack min_gain u p =
    let s = switch_of l u p counted branch slack min_gain in
    let e = exits_from l u p counted first_counter counted in
    let r = resets_from l u p counted first_counter counted in
    let c = counts_from l u p first_counter counted in
    let one : All IsPlainMark s = plain_switch (branch && (not (leaves_any l u p counted) && nat_le min_gain slack)) in
    let two : All IsPlainMark e = subst (All IsPlainMark) (sym (exits_are l u p counted first_counter counted)) (marks_all IsPlainMark (λ k. is_outermost l u p k counted) marks.Exit first_counter counted (λ j k at on. tt)) in
    let three : All IsPlainMark r = subst (All IsPlainMark) (sym (resets_are l u p counted first_counter counted)) (marks_all IsPlainMark (λ k. leaves l k u p && not (is_outermost l u p k counted)) marks.Reset first_counter counted (λ j k at on. tt)) in
    let four : All IsPlainMark c = subst (All IsPlainMark) (sym (counts_are l u p first_counter counted)) (marks_all IsPlainMark (λ k. goes_back l k u p) marks.Count first_counter counted (λ j k at on. tt)) in
    All-append IsPlainMark s (e ++ (r ++ c)) one (All-append IsPlainMark e (r ++ c) two (All-append IsPlainMark r c three four))

-- and those of an edge by a rule
pub rule_marks : (v : FlowGraph) (t : LoopView) (rule : Rule) (e : ℕ) → All IsPlainMark (marks_by v t rule e)
rule_marks v t rule e = plain_marks (loops v t) (counted_loops t) (is_branch v e) (rule.gain e) rule.least_gain ((graph v).source e) ((graph v).target e)
