-- The marks by slack are those that are wanted by slack, in no other form; and where each budget is the deadline, the test of levels is that of time.
use Rattle.std.proofs.Common.{◌≡◌, ℕ, Bool, true, false, List, [], ◌∷◌, ◌++◌, map, slice_get, Option, Some, None, refl, ap, ◌∙◌}
use Rattle.std.specs.Prelude.{◌&&◌, not, nat_le}
use Rattle.std.proofs.Math.Path.{fun_ext}
use Rattle.std.proofs.lemmas.Bool.{and_parts}
use Rattle.scale_base.specs.declared.edges.Edge.{Edge}
use Rattle.scale_base.specs.declared.edges.EdgeKind.{EdgeKind}
use Rattle.scale_base.specs.declared.edges.EdgeKind.TheVariants.{Taken, Untaken, Jump, Next, CallNext, End}
use Rattle.scale_base.specs.declared.fragments.Mark.{Mark}
use Rattle.scale_base.specs.declared.fragments.Mark.TheVariants as marks
use Rattle.scale_base.specs.Image.{Image}
use Rattle.power_model.specs.Numbers.{PowerModel}
use Rattle.cost_theory.specs.Worst.{Numbers}
use Rattle.flow_graph.specs.FlowGraph.{FlowGraph, graph}
use Rattle.loop_forest.specs.Tree.{LoopView, loops}
use Rattle.level_tables.specs.Budgets.{meets_in_budget, budget_at}
use Rattle.level_tables.specs.Tables.{meets_both}
use Rattle.level_tables.proofs.Laws.{budgets_alike}
use Rattle.scale_sites.specs.Counters.{counted_loops}
use Rattle.scale_sites.specs.Forms.{first_tally, formed, formed_by, plain_form}
use Rattle.scale_sites.specs.Marks.{exits_from, resets_from, counts_from, first_counter, leaves_any, mark_if}
use Rattle.scale_sites.specs.Sites.{is_branch, is_branch_kind, edge_branches, marks_where}
use Rattle.worst_cycles.specs.Worst.{slack_at}
use Rattle.rewritten_runs.specs.Stubs.{marks_by_slack, plain_weights}
use Rattle.marked_images.specs.declared.stubs.Marking.{Marking}
use Rattle.marked_images.specs.Markings.{test_of}
use Rattle.marked_images.specs.Stored.{by_deadline}
use Rattle.marked_images.specs.Wanted.{ChoosesSites, IsSitesKind, marked_where}
use Rattle.scaler.specs.Scalings.{wanted_by_slack}

-- ---- no other form

none_tallied : (ms : List Mark) → first_tally (λ i. false) ms ≡ None
none_tallied [] = refl
none_tallied (marks.Switch ∷ ms) = none_tallied ms
none_tallied (marks.Exit i ∷ ms) = none_tallied ms
none_tallied (marks.Reset i ∷ ms) = none_tallied ms
none_tallied (marks.Count i ∷ ms) = none_tallied ms
none_tallied (marks.Lowest ∷ ms) = none_tallied ms
none_tallied (marks.Tally i ∷ ms) = none_tallied ms

as_they_are : (ms : List Mark) → map (plain_form false (λ i. false)) ms ≡ ms
as_they_are [] = refl
as_they_are (marks.Switch ∷ ms) = ap (λ rest. marks.Switch ∷ rest) (as_they_are ms)
as_they_are (marks.Exit i ∷ ms) = ap (λ rest. marks.Exit i ∷ rest) (as_they_are ms)
as_they_are (marks.Reset i ∷ ms) = ap (λ rest. marks.Reset i ∷ rest) (as_they_are ms)
as_they_are (marks.Count i ∷ ms) = ap (λ rest. marks.Count i ∷ rest) (as_they_are ms)
as_they_are (marks.Lowest ∷ ms) = ap (λ rest. marks.Lowest ∷ rest) (as_they_are ms)
as_they_are (marks.Tally i ∷ ms) = ap (λ rest. marks.Tally i ∷ rest) (as_they_are ms)

unformed : (ms : List Mark) → formed false (λ i. false) ms ≡ ms
unformed ms = ap (λ o. formed_by false (λ i. false) o ms) (none_tallied ms) ∙ as_they_are ms

-- ---- the switch of an edge

both_enough : (branch off enough : Bool) → ((branch && enough) && (off && true)) ≡ (branch && (off && enough))
both_enough true true true = refl
both_enough true true false = refl
both_enough true false true = refl
both_enough true false false = refl
both_enough false off enough = refl

module _ (power : PowerModel) (image : Image) (v : FlowGraph) (t : LoopView) (plain : Numbers) where
  pub marks_at_are : (e : ℕ) → marked_where v t (wanted_by_slack power image v t plain) e ≡ marks_by_slack power image v t plain e
  marks_at_are e =
      let l = loops v t in
      let u = (graph v).source e in
      let p = (graph v).target e in
      let counted = counted_loops t in
      let enough = nat_le power.min_gain (slack_at (graph v) (loops v t) (plain_weights power image v) plain e) in
      let rest = exits_from l u p counted first_counter counted ++ (resets_from l u p counted first_counter counted ++ counts_from l u p first_counter counted) in
      unformed (marks_where v t counted (λ d. is_branch v d && nat_le power.min_gain (slack_at (graph v) (loops v t) (plain_weights power image v) plain d)) e)
      ∙ ap (λ b. mark_if b marks.Switch ++ rest) (both_enough (is_branch v e) (not (leaves_any l u p counted)) enough)

  pub marks_are : marked_where v t (wanted_by_slack power image v t plain) ≡ marks_by_slack power image v t plain
  marks_are = fun_ext marks_at_are

  -- only edges of branches have a switch
  pub chooses : ChoosesSites v (wanted_by_slack power image v t plain).switch
  chooses e on = by (slice_get v.code.edges e) refl (and_parts (is_branch v e) _ on).0
    where
      kind_of : (k : EdgeKind) → is_branch_kind k ≡ true → IsSitesKind k
      kind_of Taken h = tt
      kind_of Untaken h = tt
      kind_of Jump h = tt
      kind_of Next h = cc
      kind_of CallNext h = cc
      kind_of End h = cc

      by : (o : Option Edge) → slice_get v.code.edges e ≡ o → edge_branches o ≡ true → (edge : Edge) × (slice_get v.code.edges e ≡ Some edge) × IsSitesKind edge.kind
      by None get h = let never : ⊥ = cc in absurd never
      by (Some edge) get h = (edge, get, kind_of edge.kind h)

-- ---- the test of levels

pub test_is : (power : PowerModel) (start worst : ℕ) → meets_in_budget power (by_deadline power start worst) ≡ meets_both power
test_is power start worst = budgets_alike power (by_deadline power start worst) (λ i. refl)

pub test_of_is : (power : PowerModel) (m : Marking) → ((i : ℕ) → budget_at m.budgets i ≡ power.deadline) → test_of power m ≡ meets_both power
test_of_is power m alike = budgets_alike power (budget_at m.budgets) alike
