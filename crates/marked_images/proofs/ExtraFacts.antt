-- The cycles that stubs add, under the extra weights.
use Rattle.std.proofs.Common.{◌≡◌, ℕ, ◌<◌, ◌≤◌, true, false, List, length, slice_get, Some, Ok, Err, sym, ap, ◌∙◌, subst, arith, ⊎_elim}
use Rattle.std.specs.Prelude.{slice_index, nat_lt}
use Rattle.std.proofs.Math.Path.{fun_ext}
use Rattle.std.proofs.lemmas.Bool.{cases_lt}
use Rattle.std.proofs.lemmas.Bool.Decides.{nat_tests}
use Rattle.scale_base.specs.declared.refusal.Stop.{Stop}
use Rattle.scale_base.specs.declared.refusal.Stop.TheVariants.{Refused, Memory}
use Rattle.scale_base.specs.Answer.{AnswersBy}
use Rattle.power_model.specs.declared.power.Costs.{Costs}
use Rattle.power_model.specs.Numbers.{PowerModel}
use Rattle.cost_theory.specs.Accepted.{AreWeights}
use Rattle.cost_theory.specs.Graph.{Graph, only}
use Rattle.cost_theory.specs.Worst.{AreNumbers}
use Rattle.flow_graph.specs.FlowGraph.{FlowGraph, graph}
use Rattle.loop_forest.specs.Tree.{LoopView, loops}
use Rattle.worst_cycles.specs.Worst.{WorstView, by_edge, IsWorstFound}
use Rattle.scale_sites.specs.Sites.{SitesView, is_branch, marks_at_edge}
use Rattle.scale_sites.specs.Weights.{extra_of, extra_weight}
use Rattle.rewritten_runs.specs.Stubs.{extra_weights, stored_weights}
use Rattle.rewritten_runs.proofs.Laws.{worst_grows}
use Rattle.marked_images.proofs.Lists.{past_end}
use Rattle.marked_images.proofs.CallWeights.{extra_are_weights}
use Rattle.marked_images.specs.Wanted.{Wanted, marked_where}
use Rattle.marked_images.specs.Scalings.{HasMarks, IsInRange, IsExtraFound}

module _ (power : PowerModel) (v : FlowGraph) (t : LoopView) (s : SitesView) (ws : List ℕ) (size : length ws ≡ length v.code.edges)
    (costs : Costs) (same_costs : costs ≡ power.costs) (given : (e : ℕ) → e < length v.code.edges → slice_index ws e ≡ extra_of costs (slice_index s.jumps e) (marks_at_edge s e)) where
  each : (e : ℕ) → e < length v.code.edges → slice_index ws e ≡ extra_of power.costs (slice_index s.jumps e) (marks_at_edge s e)
  each e lt = given e lt ∙ ap (λ k. extra_of k (slice_index s.jumps e) (marks_at_edge s e)) same_costs

  pub extra_is : (wanted : Wanted) → HasMarks v t wanted s → by_edge ws ≡ extra_weights power v (marked_where v t wanted)
  extra_is wanted has = fun_ext (λ e. ⊎_elim
      (λ (lt : e < length v.code.edges).
      let test : nat_lt e (length v.code.edges) ≡ true = grind (arith, nat_tests) in
      each e lt ∙ (ap (λ n. extra_of power.costs n (marks_at_edge s e)) (has.jumps e lt)
      ∙ (ap (extra_of power.costs (Rattle.scale_sites.specs.Weights.jumps_of (graph v) (is_branch v) (marked_where v t wanted) e)) (has.marks e lt)
      ∙ sym (ap (λ b. only b (extra_weight (graph v) power.costs (is_branch v) (marked_where v t wanted) e)) test))))
      (λ (ge : length v.code.edges ≤ e).
      let test : nat_lt e (length v.code.edges) ≡ false = grind (arith, nat_tests) in
      past_end ws e (omega (arith, size, ge)) ∙ sym (ap (λ b. only b (extra_weight (graph v) power.costs (is_branch v) (marked_where v t wanted) e)) test))
      (cases_lt e (length v.code.edges)))

  pub extra_calls : IsInRange power v t s → AreWeights (graph v) (by_edge ws)
  extra_calls r =
      let w = r.4 in
      subst (λ (x : ℕ → ℕ). AreWeights (graph v) x) (sym (extra_is r.2 r.5))
      (subst (λ (q : Graph). AreWeights q (extra_weights power v (marked_where v t r.2))) w.code_is.graph_is (extra_are_weights power r.0 r.1 v t r.2 r.3 w r.5.kinds))

  -- a refusal can't come
  pub extra_stop : IsInRange power v t s → (wanted : Wanted) (stop : Stop) → AnswersBy {X = WorstView} {Y = WorstView} (λ n. n) (Err stop) (IsWorstFound (graph v) (loops v t) (by_edge ws)) → AnswersBy {X = ℕ} {Y = ℕ} (λ n. n) (Err stop) (IsExtraFound power v t wanted)
  extra_stop r wanted Memory h = tt
  extra_stop r wanted (Refused refusal) h =
      let w = r.4 in
      let n = h.1.0 in
      let numbers = subst (λ (x : ℕ → ℕ). AreNumbers (graph v) (loops v t) x n) (extra_is r.2 r.5) h.1.1 in
      let le = worst_grows (graph v) (loops v t) w.code_is.flow.program (extra_weights power v (marked_where v t r.2)) (stored_weights power r.0 v (marked_where v t r.2)) n r.3 numbers.worst w.stored_are.worst (λ e lt. omega arith) 0 w.code_is.flow.program.main in
      let long = h.1.2 in
      let short = r.6 in
      let bad : ⊥ = omega (arith, le, long, short) in bad

  pub extra_found : (wanted : Wanted) → HasMarks v t wanted s → (x : WorstView) (total : ℕ) → IsInRange power v t s → IsWorstFound (graph v) (loops v t) (by_edge ws) (Ok x) → slice_get x.worst 0 ≡ Some total → IsExtraFound power v t wanted (Ok total)
  extra_found wanted has x total r found here =
      let n = found.numbers.0 in
      let e : slice_get x.worst 0 ≡ Some (n.worst 0) = found.numbers.2 0 r.4.code_is.flow.program.main in
      (n, subst (λ (w : ℕ → ℕ). AreNumbers (graph v) (loops v t) w n) (extra_is wanted has) found.numbers.1, (let q : total ≡ n.worst 0 = cc in q))
