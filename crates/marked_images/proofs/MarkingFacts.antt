-- The numbers of a program under the stored weights, and their ranges.
use Rattle.std.proofs.Common.{◌≡◌, ℕ, ◌+◌, ◌<◌, ◌≤◌, true, false, List, length, map, slice_get, Option, Some, None, Ok, Err, refl, sym, ap, ◌∙◌, subst, arith, ⊎_elim, inl, inr}
use Rattle.std.specs.Prelude.{slice_index, nat_lt}
use Rattle.std.proofs.Math.Path.{fun_ext}
use Rattle.std.proofs.lemmas.Bool.{cases_lt}
use Rattle.std.proofs.lemmas.Bool.Decides.{nat_tests}
use Rattle.std.proofs.lemmas.List.{length-map}
use Rattle.std.proofs.lemmas.Option.{get_or_from_slice_get}
use Rattle.scale_base.specs.declared.refusal.Refusal.{Refusal}
use Rattle.scale_base.specs.declared.refusal.Stop.{Stop}
use Rattle.scale_base.specs.declared.refusal.Stop.TheVariants.{Refused, Memory}
use Rattle.scale_base.specs.Answer.{AnswersBy}
use Rattle.scale_base.specs.Image.{Image}
use Rattle.power_model.specs.declared.power.Costs.{Costs}
use Rattle.power_model.specs.Numbers.{PowerModel}
use Rattle.power_model.specs.Price.{cycles_of}
use Rattle.power_model.specs.Slowest.{slowest_of}
use Rattle.rewritten_runs.proofs.Laws.{rest_in_range, slack_in_range, turns_in_range, listed_weights, weights_count, weights_listed}
use Rattle.marked_images.proofs.Numbered.{numbers_of}
use Rattle.marked_images.proofs.Lists.{past_end}
use Rattle.cost_theory.specs.Accepted.{AreWeights}
use Rattle.cost_theory.specs.Graph.{Graph, only}
use Rattle.cost_theory.specs.Laws.{IsAnalyzed}
use Rattle.graph_algorithms.specs.Arcs.{number_in_place}
use Rattle.cycle_laws.specs.Charged.{AreCharged}
use Rattle.least_cycles.specs.Found.{LeastView, HasWorstInRange, IsLeastOf, AreSmallLeast, HoldsLeast}
use Rattle.cost_theory.specs.Worst.{Numbers, AreNumbers}
use Rattle.code_text.specs.EdgeCosts.{cost_of}
use Rattle.code_text.specs.Text.{text_of}
use Rattle.flow_graph.specs.FlowGraph.{FlowGraph, graph, IsGraphOf}
use Rattle.loop_file.specs.declared.notes.LoopNote.{LoopNote}
use Rattle.loop_file.specs.Kept.{noted_loops}
use Rattle.loop_forest.specs.Noted.{node_address}
use Rattle.loop_forest.specs.Tree.{LoopView, loops, IsTreeOf}
use Rattle.worst_cycles.specs.Worst.{WorstView, by_edge, HoldsLeft, HasLeftSizes, IsLeftOf, IsWorstFound}
use Rattle.scale_sites.specs.Counters.{AreCounters, counted_loops}
use Rattle.scale_sites.specs.Sites.{SitesView, is_branch, marks_at_edge}
use Rattle.scale_sites.specs.Weights.{extra_of, extra_weight, jumps_of}
use Rattle.rewritten_runs.specs.Stubs.{IsWeighedWith, plain_weights, extra_weights, stored_weights}
use Rattle.level_tables.specs.declared.by_level.LevelBudgets.{LevelBudgets}
use Rattle.level_tables.specs.Budgets.{budget_at}
use Rattle.marked_images.specs.Scalings.{chosen_level, starting_of, HasMarks, IsMarkedAt, IsMarkingFound}
use Rattle.marked_images.specs.declared.stubs.Marking.{Marking}
use Rattle.marked_images.specs.Markings.{IsMarking}
use Rattle.marked_images.specs.Wanted.{ChoosesSites, Wanted, marked_where}
use Rattle.marked_images.specs.Stored.{BudgetRule}
use Rattle.marked_images.proofs.CallWeights.{stored_are_weights}

-- ---- the program

module _ (power : PowerModel) (image : Image) (notes : List LoopNote) (v : FlowGraph) (t : LoopView) (is : IsGraphOf (text_of image) v) (tree : IsTreeOf v notes t) (counts : AreCounters v t (Ok (counted_loops t))) where
  pub by_marks : (wanted : Wanted) (stored : Numbers) → AreNumbers (graph v) (loops v t) (stored_weights power image v (marked_where v t wanted)) stored → IsWeighedWith power image notes v t (marked_where v t wanted) stored
  by_marks wanted stored s = record { code_is = is; tree_is = tree; counters = counts; stored_are = s }

  pub calls_alike : (wanted : Wanted) → ChoosesSites v wanted.switch → AreWeights (graph v) (stored_weights power image v (marked_where v t wanted))
  calls_alike wanted kinds =
      let s = numbers_of power image notes v t is tree counts (stored_weights power image v (marked_where v t wanted)) in
      subst (λ (q : Graph). AreWeights q (stored_weights power image v (marked_where v t wanted))) is.graph_is
      (stored_are_weights power image notes v t wanted s.0 (by_marks wanted s.0 s.1) kinds)

  -- ---- the weights

  module _ (rule : BudgetRule) (s : SitesView) (wanted : Wanted) (has : HasMarks v t wanted s) (ws : List ℕ) (size : length ws ≡ length v.code.edges) (costs : Costs) (same_costs : costs ≡ power.costs)
      (given : (e : ℕ) → e < length v.code.edges → slice_index ws e ≡ slice_index (map (cost_of (cycles_of costs)) v.classes) e + extra_of costs (slice_index s.jumps e) (marks_at_edge s e))
      (small : (e : ℕ) → e < length v.code.edges → slice_index ws e ≤ 4294967295) where
    abbrev w : ℕ → ℕ
    w = stored_weights power image v (marked_where v t wanted)

    each : (e : ℕ) → e < length v.code.edges → slice_index ws e ≡ slice_index (map (cost_of (cycles_of power.costs)) v.classes) e + extra_of power.costs (slice_index s.jumps e) (marks_at_edge s e)
    each e lt = given e lt ∙ ap (λ (k : Costs). slice_index (map (cost_of (cycles_of k)) v.classes) e + extra_of k (slice_index s.jumps e) (marks_at_edge s e)) same_costs

    listed : (e : ℕ) → by_edge (listed_weights v (cycles_of power.costs)) e ≡ plain_weights power image v e
    listed e = ap (λ (f : ℕ → ℕ). f e) (weights_listed (text_of image) v (cycles_of power.costs) is)

    extra_at : (e : ℕ) → e < length v.code.edges → extra_of power.costs (slice_index s.jumps e) (marks_at_edge s e) ≡ extra_weights power v (marked_where v t wanted) e
    extra_at e lt =
        let test : nat_lt e (length v.code.edges) ≡ true = grind (arith, nat_tests) in
        ap (λ n. extra_of power.costs n (marks_at_edge s e)) (has.jumps e lt)
        ∙ (ap (extra_of power.costs (jumps_of (graph v) (is_branch v) (marked_where v t wanted) e)) (has.marks e lt)
        ∙ sym (ap (λ b. only b (extra_weight (graph v) power.costs (is_branch v) (marked_where v t wanted) e)) test))

    at_edge : (e : ℕ) → e < length v.code.edges → by_edge ws e ≡ w e
    at_edge e lt = let a = each e lt in let b = listed e in let c = extra_at e lt in omega (arith, a, b, c)

    behind_edges : (e : ℕ) → length v.code.edges ≤ e → by_edge ws e ≡ w e
    behind_edges e ge =
        let test : nat_lt e (length v.code.edges) ≡ false = grind (arith, nat_tests) in
        let none : extra_weights power v (marked_where v t wanted) e ≡ 0 = ap (λ b. only b (extra_weight (graph v) power.costs (is_branch v) (marked_where v t wanted) e)) test in
        let count = weights_count (text_of image) v (cycles_of power.costs) is in
        let a = past_end ws e (omega (arith, size, ge)) in
        let b = past_end (listed_weights v (cycles_of power.costs)) e (omega (arith, count, ge)) in
        let c = listed e in omega (arith, none, a, b, c)

    pub stored_is : by_edge ws ≡ w
    stored_is = fun_ext (λ e. ⊎_elim (λ (lt : e < length v.code.edges). at_edge e lt) (λ (ge : length v.code.edges ≤ e). behind_edges e ge) (cases_lt e (length v.code.edges)))

    pub stored_calls : AreWeights (graph v) (by_edge ws)
    stored_calls = subst (λ (x : ℕ → ℕ). AreWeights (graph v) x) (sym stored_is) (calls_alike wanted has.kinds)

    stored_numbers : (n : Numbers) → AreNumbers (graph v) (loops v t) (by_edge ws) n → AreNumbers (graph v) (loops v t) w n
    stored_numbers n h = subst (λ (x : ℕ → ℕ). AreNumbers (graph v) (loops v t) x n) stored_is h

    light : (e : ℕ) → e < (graph v).edges → w e ≤ 4294967295
    light e lt = let a = at_edge e lt in let b = small e lt in omega (arith, a, b)

    pub worst_stopped : (stop : Stop) → AnswersBy {X = WorstView} {Y = WorstView} (λ n. n) (Err stop) (IsWorstFound (graph v) (loops v t) (by_edge ws)) → AnswersBy {X = Marking × ℕ} {Y = Marking × ℕ} (λ x. x) (Err stop) (IsMarkingFound power image v t wanted rule)
    worst_stopped Memory h = tt
    worst_stopped (Refused refusal) h = (h.1.0, record { stored_are = stored_numbers h.1.0 h.1.1; why = inl ((omega (arith, h.1.2)), h.0) })

    -- ---- the numbers

    module _ (x : WorstView) (total : ℕ) (found : IsWorstFound (graph v) (loops v t) (by_edge ws) (Ok x)) (total_is : slice_get x.worst 0 ≡ Some total) where
      abbrev n : Numbers
      n = found.numbers.0

      are : AreNumbers (graph v) (loops v t) w n
      are = stored_numbers n found.numbers.1

      here : slice_get x.worst 0 ≡ Some (n.worst 0)
      here = found.numbers.2 0 is.flow.program.main

      total_worst : total ≡ n.worst 0
      total_worst = let a = here in let b = total_is in cc

      short : n.worst 0 ≤ 281474976710656
      short = let e = get_or_from_slice_get x.worst 0 (n.worst 0) 0 here in let s = found.small in omega (arith, e, s)

      pub least_in_range : HasWorstInRange v (loops v t) (number_in_place ws)
      least_in_range = (n, found.numbers.1, short)

      late_by : (o : Option ℕ) → slowest_of power total ≡ o → (refusal : Refusal) → Err refusal ≡ starting_of power total o → IsMarkingFound power image v t wanted rule (Err refusal)
      late_by None slow refusal e =
          (n, record { stored_are = are; why = inr (short, subst (λ k. slowest_of power k ≡ None) total_worst slow, (let q : refusal ≡ Rattle.scale_base.specs.declared.refusal.Refusal.TheVariants.DeadlineMissed (Rattle.power_model.specs.Price.time_at power (Rattle.power_model.specs.Slowest.fastest power) total) power.deadline = cc in subst (λ k. refusal ≡ Rattle.scale_base.specs.declared.refusal.Refusal.TheVariants.DeadlineMissed (Rattle.power_model.specs.Price.time_at power (Rattle.power_model.specs.Slowest.fastest power) k) power.deadline) total_worst q)) })
      late_by (Some start) slow refusal e = let never : ⊥ = cc in absurd never

      pub late : (refusal : Refusal) → Err refusal ≡ chosen_level power total → IsMarkingFound power image v t wanted rule (Err refusal)
      late refusal e = late_by (slowest_of power total) refl refusal e

      slow_by : (o : Option ℕ) → slowest_of power total ≡ o → (start : ℕ) → Ok start ≡ starting_of power total o → slowest_of power (n.worst 0) ≡ Some start
      slow_by None slow start e = let never : ⊥ = cc in absurd never
      slow_by (Some i) slow start e = let q : start ≡ i = cc in subst (λ k. slowest_of power k ≡ Some start) total_worst (slow ∙ ap Some (sym q))

      analyzed : IsAnalyzed (graph v) (loops v t) (noted_loops notes).inside w n
      analyzed = record { program = is.flow.program; accepted = tree.tree.accepted; weights = calls_alike wanted has.kinds; numbers = are }

      pub marking_found : (start : ℕ) → Ok start ≡ chosen_level power total → HasLeftSizes v x → IsLeftOf v (loops v t) (by_edge ws) x → (counted : List ℕ) → counted ≡ counted_loops t → (ends : LeastView) → IsLeastOf v (loops v t) (number_in_place ws) ends → AreSmallLeast v ends
          → (b : LevelBudgets) → ((i : ℕ) → budget_at b i ≡ rule start total i) → (m : Marking) → m ≡ record { counters = counted; sites = s; worst = x; least = ends; budgets = b } → IsMarkingFound power image v t wanted rule (Ok (m, start))
      marking_found start started sizes left counted counted_is ends found_least ends_small b budgets m m_is =
          (n, found_least.0, subst (λ (q : Marking). IsMarkedAt power image v t wanted rule n found_least.0 q start) (sym m_is) whole)
        where
          holds : HoldsLeast v (loops v t) found_least.0 ends
          holds = found_least.2

          least_are : AreCharged (graph v) (loops v t) w found_least.0
          least_are = subst (λ (f : ℕ → ℕ). AreCharged (graph v) (loops v t) f found_least.0) stored_is found_least.1

          count : (loops v t).loops ≡ length t.headers
          count = length-map t.headers (node_address v)

          marking : IsMarking power image v t wanted n found_least.0 (record { counters = counted; sites = s; worst = x; least = ends; budgets = b })
          marking = record {
            code = is;
            tree = ((noted_loops notes).inside, tree.tree);
            counters = counted_is;
            few = counts.2;
            kinds = has.kinds;
            size = has.size;
            marks = has.marks;
            slacks_size = sizes.slacks;
            rests_size = sizes.rests;
            iterations_size = found.loops_size ∙ count;
            left = subst (λ (f : ℕ → ℕ). HoldsLeft v (loops v t) f n x) stored_is (left n found.numbers.1);
            iteration = λ k kl. found.numbers.3 k (let c = count in omega (arith, c, kl));
            after_size = ends_small.after_size;
            after = holds.after;
            slack_small = λ e lt. (let r = slack_in_range (graph v) (loops v t) (noted_loops notes).inside w n analyzed 4294967295 light e lt in let c = short in omega (arith, r, c));
            rest_small = λ e lt. (let r = rest_in_range (graph v) (loops v t) (noted_loops notes).inside w n analyzed e lt in let c = short in omega (arith, r, c));
            turns_small = λ k kl. (let c = count in let r = turns_in_range (graph v) (loops v t) (noted_loops notes).inside w n analyzed k (omega (arith, c, kl)) in let d = short in omega (arith, r, d));
            after_small = λ e z lt to. ends_small.after e z (holds.after e lt ∙ ap Some to);
          }

          whole : IsMarkedAt power image v t wanted rule n found_least.0 (record { counters = counted; sites = s; worst = x; least = ends; budgets = b }) start
          whole = record {
            stored_are = are;
            least_are = least_are;
            marks = has;
            marking = marking;
            short = short;
            worst = here;
            budgets = λ i. budgets i ∙ ap (λ k. rule start k i) total_worst;
            slow = slow_by (slowest_of power total) refl start started;
          }
