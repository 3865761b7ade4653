-- Over two graphs of a program, with the loops of the same notes, the same loops can be counted.
use Rattle.std.proofs.Common.{◌≡◌, ℕ, ◌+◌, ◌<◌, ◌≤◌, List, length, slice_get, sym, ap, ◌∙◌, subst, arith, ◌⊎◌, inl, inr}
use Rattle.scale_base.specs.declared.refusal.Refusal.{Refusal}
use Rattle.scale_base.specs.declared.refusal.Refusal.TheVariants.{Uncountable, TooManyCounters}
use Rattle.scale_base.specs.Image.{Image}
use Rattle.cost_theory.specs.Graph.{Loops, goes_back}
use Rattle.cost_theory.specs.Reached.{edge_at, edge_to}
use Rattle.scale_base.specs.declared.edges.Edge.{Edge}
use Rattle.code_text.specs.Text.{text_of}
use Rattle.flow_graph.specs.FlowGraph.{FlowGraph, IsGraphOf}
use Rattle.loop_file.specs.declared.notes.LoopNote.{LoopNote}
use Rattle.loop_forest.specs.Tree.{LoopView, loops, IsTreeOf}
use Rattle.scale_sites.specs.Counters.{counted_loops, set_from, edge_goes_on, IsUncountable, HasNone, AreRefused}
use Rattle.answer_laws.proofs.Laws.{trees_agree}
use Rattle.scaler.proofs.agree.Pairs.{renumbered}

module _ (image : Image) (notes : List LoopNote) where
  pub record IsLooped (v : FlowGraph) (t : LoopView) : Type 0 where
    pub code_is : IsGraphOf (text_of image) v
    pub tree_is : IsTreeOf v notes t

  pub uncountable_there : (v v' : FlowGraph) (t t' : LoopView) → IsLooped v t → IsLooped v' t' → (k e : ℕ) → IsUncountable v t k e → IsUncountable v' t' k e
  uncountable_there v v' t t' one other k e u =
      let same = renumbered image v v' one.code_is other.code_is in
      let trees = trees_agree v v' notes t t' same one.code_is.flow one.tree_is other.tree_is in
      record {
        edge = subst (λ (es : List Edge). e < length es) same.edges u.edge;
        within = subst (λ (hs : List ℕ). k < length hs) trees.headers u.within;
        back = sym (ap (λ (l : Loops). goes_back l k (edge_at (slice_get v.code.edges e)) (edge_to (slice_get v.code.edges e))) trees.loops
            ∙ ap (λ (es : List Edge). goes_back (loops v' t') k (edge_at (slice_get es e)) (edge_to (slice_get es e))) same.edges) ∙ u.back;
        counted = sym (ap (λ cs. slice_get cs k) trees.counted) ∙ u.counted;
        on = sym (ap (λ (es : List Edge). edge_goes_on (slice_get es e)) same.edges) ∙ u.on;
      }

  pub count_same : (v v' : FlowGraph) (t t' : LoopView) → IsLooped v t → IsLooped v' t' → counted_loops t ≡ counted_loops t'
  count_same v v' t t' one other = ap (set_from 0) (trees_agree v v' notes t t' (renumbered image v v' one.code_is other.code_is) one.code_is.flow one.tree_is other.tree_is).counted

  pub counters_not_refused : (v v' : FlowGraph) (t t' : LoopView) (refusal : Refusal) → IsLooped v t → IsLooped v' t' → HasNone v t → length (counted_loops t) ≤ 509 → AreRefused v' t' refusal → ⊥
  counters_not_refused v v' t t' refusal one other none few (inl (k, e, first, is)) = none k e (uncountable_there v' v t' t other one k e first.is)
  counters_not_refused v v' t t' refusal one other none few (inr (none', many, is)) =
      let size : length (counted_loops t) ≡ length (counted_loops t') = ap length (count_same v v' t t' one other) in
      omega (arith, size, few, many)

  -- the first that can't be counted is the same
  first_same : (k e k' e' : ℕ) → (k' < k) ⊎ ((k' ≡ k) × (e' ≤ e)) → (k < k') ⊎ ((k ≡ k') × (e ≤ e')) → (k ≡ k') × (e ≡ e')
  first_same k e k' e' (inl lt) (inl gt) = let bad : ⊥ = omega arith in absurd bad
  first_same k e k' e' (inl lt) (inr at) = let q = at.0 in let bad : ⊥ = omega arith in absurd bad
  first_same k e k' e' (inr at) (inl gt) = let q = at.0 in let bad : ⊥ = omega arith in absurd bad
  first_same k e k' e' (inr at) (inr at') = let low = at.1 in let high = at'.1 in (at'.0, omega arith)

  pub counter_refusals_same : (v v' : FlowGraph) (t t' : LoopView) (refusal refusal' : Refusal) → IsLooped v t → IsLooped v' t' → AreRefused v t refusal → AreRefused v' t' refusal' → refusal ≡ refusal'
  counter_refusals_same v v' t t' refusal refusal' one other (inl (k, e, first, is)) (inl (k', e', first', is')) =
      let here = first_same k e k' e' (first'.least k e (uncountable_there v v' t t' one other k e first.is)) (first.least k' e' (uncountable_there v' v t' t other one k' e' first'.is)) in
      is ∙ (ap (λ (x : ℕ). Uncountable (x + 1) (edge_at (slice_get v.code.edges e))) here.0 ∙ (ap (λ (x : ℕ). Uncountable (k' + 1) (edge_at (slice_get v.code.edges x))) here.1
      ∙ (ap (λ (es : List Edge). Uncountable (k' + 1) (edge_at (slice_get es e'))) (renumbered image v v' one.code_is other.code_is).edges ∙ sym is')))
  counter_refusals_same v v' t t' refusal refusal' one other (inl (k, e, first, is)) (inr (none', many', is')) = absurd (none' k e (uncountable_there v v' t t' one other k e first.is))
  counter_refusals_same v v' t t' refusal refusal' one other (inr (none, many, is)) (inl (k', e', first', is')) = absurd (none k' e' (uncountable_there v' v t' t other one k' e' first'.is))
  counter_refusals_same v v' t t' refusal refusal' one other (inr (none, many, is)) (inr (none', many', is')) = is ∙ (ap (λ (xs : List ℕ). TooManyCounters (length xs)) (count_same v v' t t' one other) ∙ sym is')
