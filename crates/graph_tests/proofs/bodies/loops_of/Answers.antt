use Rattle.std.proofs.Common.{rules, arith, ◌≡◌, ◌∙◌, ℕ, zero, suc, ◌<◌, ◌≤◌, true, false, ◌&&◌, ◌||◌, nat_lt, List, [], ◌∷◌, ◌++◌, length, length-append, ap, sym, subst, Some, ◌⊎◌, inl, inr, ⊎_elim}
use Rattle.std.specs.Prelude.{slice_get}
use Rattle.std.proofs.lemmas.Bool.{le-leb, lt-ltb}
use Rattle.graph_algorithms.specs.declared.bodies.extent.LoopExtent.{LoopExtent}
use Rattle.graph_algorithms.specs.declared.bodies.extent.NodeRange.{NodeRange}
use Rattle.graph_algorithms.specs.Bodies.{in_node_ranges}
use Rattle.graph_algorithms.specs.Groups.{IsInside, AreLoopExtents}
use Rattle.graph_tests.proofs.bodies.loops_of.Goals as goal

push_cases : (xs : List LoopExtent) (x v : LoopExtent) (p : ℕ) → slice_get (xs ++ x ∷ []) p ≡ Some v → (slice_get xs p ≡ Some v) ⊎ (x ≡ v)
push_cases [] x v zero h = let same : x ≡ v = cc in inr same
push_cases [] x v (suc p) h = let bad : ⊥ = cc in absurd bad
push_cases (y ∷ ys) x v zero h = inl h
push_cases (y ∷ ys) x v (suc p) h = push_cases ys x v p h

loops_none : (count : ℕ) (loops : List LoopExtent) → loops ≡ [] → AreLoopExtents count loops
loops_none count loops e = record {
  few = (let l = ap length e in omega arith);
  header = λ i loop h. let none : slice_get [] i ≡ Some loop = ap (λ xs. slice_get xs i) (sym e) ∙ h in let bad : ⊥ = cc in absurd bad;
}

loops_push : (count : ℕ) (loops longer : List LoopExtent) (loop : LoopExtent) → longer ≡ loops ++ loop ∷ [] → length loops < 64 → loop.header < count → IsInside loop.header loop → AreLoopExtents count loops → AreLoopExtents count longer
loops_push count loops longer loop e few low inside was = record {
  few = (let l = ap length e in let a = length-append loops (loop ∷ []) in omega arith);
  header = λ i x h. ⊎_elim (λ old. was.header i x old) (λ (same : loop ≡ x). subst (λ y. (y.header < count) × IsInside y.header y) same (low, inside))
      (push_cases loops loop x i (ap (λ xs. slice_get xs i) (sym e) ∙ h));
}

one_range : (r : NodeRange) (v : ℕ) (front ranges : List NodeRange) → ranges ≡ front ++ r ∷ [] → front ≡ [] → r.from ≤ v → v < r.to → in_node_ranges ranges v ≡ true
one_range r v front ranges e none le lt = ap (λ xs. in_node_ranges xs v) (e ∙ ap (λ xs. xs ++ r ∷ []) none) ∙ (ap (λ x. (x && nat_lt v r.to) || false) (le-leb r.from v le) ∙ ap (λ x. x || false) (lt-ltb v r.to lt))

pub loop-header-init : goal.loop-header-init
loop-header-init c = loops_none c.args.count c.new-loops.result.items (search rules)

pub loop-header-preserved : goal.loop-header-preserved
loop-header-preserved c =
    let few : length c.loop-header.loops.items < 64 = search rules in
    loops_push c.args.count c.loop-header.loops.items c.push-in-loop-header.new.self.items _ c.in_ok-push-2.ensures.items few c.if-header-count.false
    (one_range _ _ c.new-ranges.result.items c.push.new.self.items c.in_ok-push.ensures.items (search rules) c.if-header-range.false c.if-header-range-2.false) c.loop-header.invariant
