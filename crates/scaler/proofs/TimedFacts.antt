-- The worst case of a program, and what stops it.
use Rattle.std.proofs.Common.{◌≡◌, ℕ, ◌<◌, ◌≤◌, true, cond, List, length, slice_get, Option, Some, None, Result, Ok, Err, inr, refl, sym, ap, ◌∙◌, subst, arith}
use Rattle.std.specs.Prelude.{nat_lt}
use Rattle.std.proofs.lemmas.Bool.{lt-ltb, le-ltb}
use Rattle.std.proofs.lemmas.Option.{get_or_from_slice_get}
use Rattle.scale_base.specs.declared.refusal.Refusal.{Refusal}
use Rattle.scale_base.specs.declared.refusal.Refusal.TheVariants.{DeadlineMissed, TooLong}
use Rattle.scale_base.specs.declared.refusal.Stop.{Stop}
use Rattle.scale_base.specs.declared.refusal.Stop.TheVariants.{Refused, Memory}
use Rattle.scale_base.specs.declared.summary.Summary.{Summary}
use Rattle.scale_base.specs.Answer.{AnswersBy}
use Rattle.scale_base.specs.Image.{Image}
use Rattle.power_model.specs.Numbers.{PowerModel}
use Rattle.power_model.specs.Price.{cycles_of, time_at}
use Rattle.power_model.specs.Slowest.{slowest_of, fastest, is_in_time}
use Rattle.cost_theory.specs.Accepted.{AreWeights}
use Rattle.cost_theory.specs.Graph.{Graph}
use Rattle.cost_theory.specs.Worst.{Numbers, AreNumbers}
use Rattle.code_text.specs.Text.{text_of}
use Rattle.flow_graph.specs.FlowGraph.{FlowGraph, graph, IsGraphOf}
use Rattle.loop_file.specs.declared.notes.LoopNote.{LoopNote}
use Rattle.loop_forest.specs.Tree.{LoopView, loops, IsTreeOf}
use Rattle.worst_cycles.specs.Worst.{WorstView, by_edge, IsWorstFound}
use Rattle.rewritten_runs.specs.Stubs.{plain_weights}
use Rattle.rewritten_runs.proofs.Laws.{listed_weights, weights_listed, weights_hold, weights_count, numbers_listed}
use Rattle.marked_images.specs.Scalings.{chosen_level, starting_of}
use Rattle.marked_images.proofs.Laws.{found_below}
use Rattle.scaler.specs.declared.timing.TimedProgram.{TimedProgram}
use Rattle.scaler.specs.Held.{IsHeldProgram, held_at, held_file, held_from, held_summary, held_within}
use Rattle.scaler.specs.Timed.{IsTimed, IsTimedFound}

-- where the numbers stop, the whole does
pub numbers_stop : (power : PowerModel) (image : Image) (notes : List LoopNote) (meant : Result WorstView Refusal → Type 0) → ((refusal : Refusal) → meant (Err refusal) → IsHeldProgram power image notes (Err refusal))
    → (stop : Stop) → AnswersBy {X = WorstView} {Y = WorstView} (λ n. n) (Err stop) meant → AnswersBy {X = TimedProgram} {Y = TimedProgram} (λ p. p) (Err stop) (IsTimedFound power image notes)
numbers_stop power image notes meant up (Refused refusal) h = up refusal h
numbers_stop power image notes meant up Memory h = tt

module _ (power : PowerModel) (image : Image) (notes : List LoopNote) (v : FlowGraph) (t : LoopView) (is : IsGraphOf (text_of image) v) (tree : IsTreeOf v notes t) (ws : List ℕ) (listed : ws ≡ listed_weights v (cycles_of power.costs)) where
  -- ---- the weights

  plain_is : by_edge ws ≡ plain_weights power image v
  plain_is = ap by_edge listed ∙ weights_listed (text_of image) v (cycles_of power.costs) is

  pub calls : AreWeights (graph v) (by_edge ws)
  calls = subst (λ (l : List ℕ). AreWeights (graph v) (by_edge l)) (sym listed) (weights_hold (text_of image) v (cycles_of power.costs) is)

  pub plain_numbers : (n : Numbers) → AreNumbers (graph v) (loops v t) (by_edge ws) n → AreNumbers (graph v) (loops v t) (plain_weights power image v) n
  plain_numbers n h = subst (λ (f : ℕ → ℕ). AreNumbers (graph v) (loops v t) f n) plain_is h

  -- ---- refusals

  held : (n : Numbers) → AreNumbers (graph v) (loops v t) (by_edge ws) n → (refusal : Refusal) → Err refusal ≡ held_within power image (n.worst 0) → IsHeldProgram power image notes (Err refusal)
  held n h refusal a = inr (inr (record {
    code = v;
    tree = t;
    numbers = n;
    code_is = is;
    tree_is = tree;
    numbers_are = numbers_listed (text_of image) v (cycles_of power.costs) (loops v t) n is (subst (λ (l : List ℕ). AreNumbers (graph v) (loops v t) (by_edge l) n) listed h);
    answer_is = a;
  }))

  pub too_long : (refusal : Refusal) → IsWorstFound (graph v) (loops v t) (by_edge ws) (Err refusal) → IsHeldProgram power image notes (Err refusal)
  too_long refusal h =
      let over : nat_lt 281474976710656 (h.1.0.worst 0) ≡ true = lt-ltb 281474976710656 (h.1.0.worst 0) h.1.2 in
      held h.1.0 h.1.1 refusal (ap (λ r. Err r) h.0 ∙ sym (ap (λ b. cond b (Err TooLong) (held_at power image (h.1.0.worst 0))) over))

  -- ---- the numbers

  module _ (x : WorstView) (total : ℕ) (found : IsWorstFound (graph v) (loops v t) (by_edge ws) (Ok x)) (total_is : slice_get x.worst 0 ≡ Some total) where
    abbrev n : Numbers
    n = found.numbers.0

    here : slice_get x.worst 0 ≡ Some (n.worst 0)
    here = found.numbers.2 0 is.flow.program.main

    pub total_worst : total ≡ n.worst 0
    total_worst = let a = here in let b = total_is in cc

    pub short : n.worst 0 ≤ 281474976710656
    short = let e = get_or_from_slice_get x.worst 0 (n.worst 0) 0 here in let s = found.small in omega (arith, e, s)

    within : held_within power image (n.worst 0) ≡ held_at power image total
    within = ap (λ b. cond b (Err TooLong) (held_at power image (n.worst 0))) (le-ltb 281474976710656 (n.worst 0) short) ∙ ap (held_at power image) (sym total_worst)

    late_at : (o : Option ℕ) → slowest_of power total ≡ o → (refusal : Refusal) → Err refusal ≡ starting_of power total o → Err refusal ≡ held_at power image total
    unfolding held_at
    late_at None slow refusal e = let same : refusal ≡ DeadlineMissed (time_at power (fastest power) total) power.deadline = cc in ap (λ r. Err r) same ∙ sym (ap (held_from power image total) slow)
    late_at (Some start) slow refusal e = let never : ⊥ = cc in absurd never

    pub late : (refusal : Refusal) → Err refusal ≡ chosen_level power total → IsHeldProgram power image notes (Err refusal)
    late refusal e = held n found.numbers.1 refusal (late_at (slowest_of power total) refl refusal e ∙ sym within)

slow_by : (power : PowerModel) (total : ℕ) (o : Option ℕ) → slowest_of power total ≡ o → (start : ℕ) → Ok start ≡ starting_of power total o → slowest_of power total ≡ Some start
slow_by power total None slow start e = let never : ⊥ = cc in absurd never
slow_by power total (Some i) slow start e = let q : start ≡ i = cc in slow ∙ ap Some (sym q)

pub slow_of : (power : PowerModel) (total start : ℕ) → Ok start ≡ chosen_level power total → slowest_of power total ≡ Some start
slow_of power total start e = slow_by power total (slowest_of power total) refl start e

-- ---- what is in time is held

held_is : (power : PowerModel) (image : Image) (worst start : ℕ) → slowest_of power worst ≡ Some start → held_at power image worst ≡ Ok ((held_file image start, held_summary power worst start))
unfolding held_at
held_is power image worst start slow = ap (held_from power image worst) slow

pub held_by : (power : PowerModel) (image : Image) (notes : List LoopNote) (v : FlowGraph) (t : LoopView) (n : Numbers) (start : ℕ) → IsGraphOf (text_of image) v → IsTreeOf v notes t
    → AreNumbers (graph v) (loops v t) (plain_weights power image v) n → n.worst 0 ≤ 281474976710656 → slowest_of power (n.worst 0) ≡ Some start
    → IsHeldProgram power image notes (Ok ((held_file image start, held_summary power (n.worst 0) start)))
held_by power image notes v t n start is tree are short slow = inr (inr (record {
  code = v;
  tree = t;
  numbers = n;
  code_is = is;
  tree_is = tree;
  numbers_are = subst (λ (g : Graph). AreNumbers g (loops v t) (plain_weights power image v) n) (sym is.graph_is) are;
  answer_is = sym (ap (λ b. cond b (Err TooLong) (held_at power image (n.worst 0))) (le-ltb 281474976710656 (n.worst 0) short) ∙ held_is power image (n.worst 0) start slow);
}))

module _ (power : PowerModel) (image : Image) (notes : List LoopNote) (p : TimedProgram) (h : IsTimed power image notes p) where
  abbrev pub timed_numbers : Numbers
  timed_numbers = h.worst_is.numbers.0

  pub timed_plain : by_edge p.weights ≡ plain_weights power image p.graph
  timed_plain = plain_is power image notes p.graph p.tree h.code_is h.tree_is p.weights h.weights_are

  pub timed_calls : AreWeights (graph p.graph) (by_edge p.weights)
  timed_calls = calls power image notes p.graph p.tree h.code_is h.tree_is p.weights h.weights_are

  pub timed_count : length p.weights ≡ length p.graph.code.edges
  timed_count = ap length h.weights_are ∙ weights_count (text_of image) p.graph (cycles_of power.costs) h.code_is

  pub timed_total : (total : ℕ) → slice_get p.worst.worst 0 ≡ Some total → total ≡ timed_numbers.worst 0
  timed_total total e = total_worst power image notes p.graph p.tree h.code_is h.tree_is p.weights h.weights_are p.worst total h.worst_is e

  pub timed_are : AreNumbers (graph p.graph) (loops p.graph p.tree) (plain_weights power image p.graph) timed_numbers
  timed_are = plain_numbers power image notes p.graph p.tree h.code_is h.tree_is p.weights h.weights_are timed_numbers h.worst_is.numbers.1

  pub timed_short : timed_numbers.worst 0 ≤ 281474976710656
  timed_short = short power image notes p.graph p.tree h.code_is h.tree_is p.weights h.weights_are p.worst h.total h.worst_is h.total_is

  pub timed_slow : slowest_of power (timed_numbers.worst 0) ≡ Some p.start
  timed_slow = subst (λ k. slowest_of power k ≡ Some p.start) (timed_total h.total h.total_is) h.in_time

  pub timed_low : p.start < length power.levels
  timed_low = let below = found_below (is_in_time power (timed_numbers.worst 0)) 0 (length power.levels) p.start timed_slow in omega (arith, below)

  pub timed_held : (total : ℕ) → slice_get p.worst.worst 0 ≡ Some total → (bytes : List ℕ) (summary : Summary) → bytes ≡ held_file image p.start → summary ≡ held_summary power total p.start → IsHeldProgram power image notes (Ok ((bytes, summary)))
  timed_held total e bytes summary file text =
      let whole = held_by power image notes p.graph p.tree timed_numbers p.start h.code_is h.tree_is timed_are timed_short timed_slow in
      let given : (bytes, summary) ≡ (held_file image p.start, held_summary power (timed_numbers.worst 0) p.start) =
      ap (λ b. (b, summary)) file ∙ ap (λ s. (held_file image p.start, s)) (text ∙ ap (λ k. held_summary power k p.start) (timed_total total e)) in
      subst (λ (g : List ℕ × Summary). IsHeldProgram power image notes (Ok g)) (sym given) whole
