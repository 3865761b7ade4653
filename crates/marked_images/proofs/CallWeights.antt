-- The edges of calls have no marks, so the stored and the extra weights give all edges of one call the same.
use Rattle.std.proofs.Common.{◌≡◌, ◌≢◌, ℕ, zero, suc, ◌+◌, ◌*◌, ◌<◌, Bool, true, false, cond, ◌&&◌, nat_eq, List, [], ◌∷◌, length, Some, refl, sym, ap, ◌∙◌, subst, arith, eqb-true}
use Rattle.std.specs.Prelude.{All, nat_lt}
use Rattle.std.proofs.lemmas.Bool.{and_parts, false_from_ne_true}
use Rattle.std.proofs.lemmas.Bool.Decides.{nat_tests}
use Rattle.scale_base.specs.Image.{Image}
use Rattle.power_model.specs.Numbers.{PowerModel}
use Rattle.power_model.specs.Price.{cycles_of}
use Rattle.cost_theory.specs.Graph.{Graph, Loops, any_below, only, leaves, goes_back}
use Rattle.cost_theory.specs.Accepted.{AreWeights}
use Rattle.cost_theory.specs.Worst.{Numbers}
use Rattle.scale_base.specs.declared.edges.EdgeKind.{EdgeKind}
use Rattle.scale_base.specs.declared.edges.EdgeKind.TheVariants as kind
use Rattle.code_text.specs.TextGraph.{text_graph}
use Rattle.code_text.specs.Text.{Text, text_of}
use Rattle.code_text.proofs.Laws.{weights_are}
use Rattle.flow_graph.specs.FlowGraph.{FlowGraph, graph}
use Rattle.loop_file.specs.declared.notes.LoopNote.{LoopNote}
use Rattle.loop_forest.specs.Tree.{LoopView, loops}
use Rattle.scale_base.specs.declared.fragments.Mark.{Mark}
use Rattle.scale_base.specs.declared.fragments.Mark.TheVariants as marks
use Rattle.scale_sites.specs.Counters.{counted_loops, edge_goes_on, goes_on}
use Rattle.scale_sites.specs.Sites.{is_branch}
use Rattle.scale_sites.specs.Weights.{some_mark, is_patched, jumps_of, extra_of, extra_weight}
use Rattle.rewritten_runs.specs.Stubs.{IsWeighed, IsWeighedWith, extra_weights, stored_weights}
use Rattle.rewritten_runs.proofs.Laws.{IsCounter, IsMarkOf, call_goes_on, countable, counted_is, graph_program, program_is}
use Rattle.marked_images.specs.Wanted.{Wanted, marked_where, ChoosesSites, IsSitesKind}
use Rattle.marked_images.proofs.WantedKinds.{marks_of_edge, marked_led}
use Rattle.marked_images.proofs.WantedKinds as Kinds

none_below : (n : ℕ) (p : ℕ → Bool) → ((k : ℕ) → k < n → p k ≡ false) → any_below n p ≡ false
none_below zero p h = refl
none_below (suc n) p h = Rattle.std.proofs.lemmas.Bool.or_from (any_below n p) (p n) (none_below n p (λ k lt2. h k (omega arith))) (h n (omega arith))

module _ (power : PowerModel) (image : Image) (notes : List LoopNote) (v : FlowGraph) (tree : LoopView) (wanted : Wanted) (stored : Numbers) (by_marks : IsWeighedWith power image notes v tree (marked_where v tree wanted) stored) (kinds_are : ChoosesSites v wanted.switch) where
  abbrev plain : Numbers
  plain = Kinds.plain power image notes v tree wanted stored by_marks kinds_are

  abbrev other : Numbers
  other = Kinds.other power image notes v tree wanted stored by_marks kinds_are

  abbrev weighed : IsWeighed power image notes v tree plain other
  weighed = Kinds.weighed power image notes v tree wanted stored by_marks kinds_are

  abbrev t : Text
  t = text_of image

  abbrev l : Loops
  l = loops v tree

  abbrev g : Graph
  g = text_graph (text_of image) v.code

  abbrev marked : ℕ → List Mark
  marked = marked_where v tree wanted

  pub calls_unmarked : (e f : ℕ) → e < length v.code.edges → g.callee e ≡ Some f → marked e ≡ []
  calls_unmarked e f lt callee = by (marked e) refl (marks_of_edge power image notes v tree wanted stored by_marks kinds_are e)
    where
      off : (k : EdgeKind) → goes_on k ≡ true → IsSitesKind k → ⊥
      off kind.Taken a b = cc
      off kind.Untaken a b = cc
      off kind.Jump a b = cc
      off kind.Next a b = b
      off kind.CallNext a b = b
      off kind.End a b = b

      no_site : (w : ℕ) → g.target e ≡ Some w → wanted.switch e ≡ true → ⊥
      no_site w to is = let x = kinds_are e is in off x.0.kind (sym (ap edge_goes_on x.1) ∙ call_goes_on t v.code (program_is power image notes v tree plain other weighed).reached e f w lt callee to) x.2

      no_count : (c w : ℕ) → g.target e ≡ Some w → IsCounter (counted_loops tree) c (λ k. goes_back l k (g.source e) (g.target e) ≡ true) → ⊥
      no_count c w to is =
          let k = counted_is power image notes v tree plain other weighed is.place is.loop is.get in
          let off : goes_back l is.loop (g.source e) (g.target e) ≡ false = ((countable power image notes v tree plain other weighed).calls is.loop e f w k.loop k.flag lt callee to).0 in
          let on = is.holds in let never : ⊥ = cc in never

      by_mark : (m : Mark) (w : ℕ) → g.target e ≡ Some w → IsMarkOf l (counted_loops tree) (wanted.switch e) (g.source e) (g.target e) m → ⊥
      by_mark marks.Switch w to is = no_site w to is
      by_mark (marks.Exit c) w to is =
          let k = counted_is power image notes v tree plain other weighed is.place is.loop is.get in
          let off = ((countable power image notes v tree plain other weighed).calls is.loop e f w k.loop k.flag lt callee to).1 in
          let on = subst (λ p. leaves l is.loop (g.source e) p ≡ true) to is.holds in let never : ⊥ = cc in never
      by_mark (marks.Reset c) w to is =
          let k = counted_is power image notes v tree plain other weighed is.place is.loop is.get in
          let off = ((countable power image notes v tree plain other weighed).calls is.loop e f w k.loop k.flag lt callee to).1 in
          let on = subst (λ p. leaves l is.loop (g.source e) p ≡ true) to is.holds in let never : ⊥ = cc in never
      by_mark (marks.Count c) w to is = no_count c w to is
      by_mark marks.Lowest w to is = no_site w to is
      by_mark (marks.Tally c) w to is = no_count c w to is

      by : (ms : List Mark) → marked e ≡ ms → All (IsMarkOf l (counted_loops tree) (wanted.switch e) (g.source e) (g.target e)) ms → marked e ≡ []
      by [] same all = same
      by (m ∷ ms) same all =
          let some : marked e ≢ [] = λ q. (let never : ⊥ = cc in never) in
          let to = marked_led power image notes v tree wanted stored by_marks kinds_are e lt some in
          absurd (by_mark m to.0 to.1 (all 0 m (omega arith)))

  calls_unpatched : (e f : ℕ) → e < length v.code.edges → g.callee e ≡ Some f → is_patched g marked (g.source e) ≡ false
  calls_unpatched e f lt callee = none_below g.edges (λ d. nat_eq (g.source d) (g.source e) && some_mark (marked d))
      (λ d dl. false_from_ne_true (nat_eq (g.source d) (g.source e) && some_mark (marked d)) (λ on.
      let parts = and_parts (nat_eq (g.source d) (g.source e)) (some_mark (marked d)) on in
      let same = (graph_program power image notes v tree plain other weighed).one_callee d e dl lt (eqb-true (g.source d) (g.source e) parts.0) in
      let none = calls_unmarked d f dl (same ∙ callee) in
      let off : some_mark (marked d) ≡ false = ap some_mark none in let two = parts.1 in let never : ⊥ = cc in never))

  call_extra : (e f : ℕ) → e < length v.code.edges → g.callee e ≡ Some f → extra_weights power v marked e ≡ 0
  call_extra e f lt callee =
      let test : nat_lt e (length v.code.edges) ≡ true = grind (arith, nat_tests) in
      let jumps : jumps_of g (is_branch v) marked e ≡ 0 = ap (λ b. cond b (cond (is_branch v e) 2 1) 0) (calls_unpatched e f lt callee) in
      let none = calls_unmarked e f lt callee in
      let zero_is : extra_weight (graph v) power.costs (is_branch v) marked e ≡ 0 = ap (λ n. extra_of power.costs n (marked e)) jumps ∙ (ap (extra_of power.costs 0) none ∙ (let z : 0 * power.costs.jump + 0 ≡ 0 = omega arith in z)) in
      ap (λ b. only b (extra_weight (graph v) power.costs (is_branch v) marked e)) test ∙ zero_is

  pub extra_are_weights : AreWeights g (extra_weights power v marked)
  extra_are_weights d e f dl el same callee =
      let other = (graph_program power image notes v tree plain other weighed).one_callee d e dl el same in
      call_extra d f dl callee ∙ sym (call_extra e f el (sym other ∙ callee))

  pub stored_are_weights : AreWeights g (stored_weights power image v marked)
  stored_are_weights d e f dl el same callee =
      let one = weights_are t v.code (cycles_of power.costs) d e f dl el same callee in
      let two = extra_are_weights d e f dl el same callee in
      omega (arith, one, two)
