use Rattle.std.proofs.Common.{◌≡◌, ◌+◌, ◌<◌, ◌≤◌, ◌⊎◌, ℕ, suc, List, length, slice_get, Some, refl, sym, ap, ◌∙◌, subst, arith, ⊎_elim}
use Rattle.std.proofs.lemmas.Option.{slice_get_read, slice_get_within, same_Some}
use Rattle.cost_theory.proofs.Laws.{below_suc}
use Rattle.plan_graphs.specs.declared.plan.DrawnEdge.{DrawnEdge}
use Rattle.plan_graphs.proofs.blocks.most_left.Goals.{then-edge-most, else-edge-most}
use Rattle.plan_graphs.proofs.blocks.most_left.Goals as goal

pub loop-edge-init : goal.loop-edge-init
loop-edge-init c = (
  (λ k x lt at. let bad : ⊥ = omega (arith, lt) in absurd bad),
  (0, c.index-edges-0.result, slice_get_read c.args.edges.now (length c.args.edges.now) 0 c.index-edges-0.result refl c.requires c.index-edges-0.is, ap (λ (e : DrawnEdge). e.left) c.index-edges-0.is),
)

-- all so far are at most so much
above_more : (xs : List DrawnEdge) (i old now : ℕ) (item : DrawnEdge) → slice_get xs i ≡ Some item → old ≤ now → item.left ≤ now
    → ((k : ℕ) (x : DrawnEdge) → k < i → slice_get xs k ≡ Some x → x.left ≤ old) → (k : ℕ) (x : DrawnEdge) → k < i + 1 → slice_get xs k ≡ Some x → x.left ≤ now
above_more xs i old now item at more here above k x lt is = ⊎_elim
    (λ (low : k < i). let before : x.left ≤ old = above k x low is in let r : x.left ≤ now = omega (arith, before, more) in r)
    (λ (last : k ≡ i).
    let same : item ≡ x = same_Some item x (sym at ∙ (ap (λ (j : ℕ). slice_get xs j) (sym last) ∙ is)) in
    subst (λ (e : DrawnEdge). e.left ≤ now) same here)
    (below_suc k i (let r : k < suc i = omega (arith, lt) in r))

pub loop-edge-preserved : goal.loop-edge-preserved
loop-edge-preserved c =
    let at = slice_get_read c.args.edges.now (length c.args.edges.now) c.loop-edge.edge-index c.edge-item.result refl c.loop-edge-test.true c.edge-item.is in
    let left = ap (λ (e : DrawnEdge). e.left) c.edge-item.is in
    elim c.if-edge-most.branch [
      | then-edge-most w ↦ (
        above_more c.args.edges.now c.loop-edge.edge-index c.loop-edge.most c.if-edge-most.most c.edge-item.result at (omega (arith, w.most-is, w.if-edge-most, left)) (omega (arith, w.most-is, left)) c.loop-edge.invariant.0,
        (c.loop-edge.edge-index, c.edge-item.result, at, sym w.most-is),
      )
      | else-edge-most w ↦ (
        above_more c.args.edges.now c.loop-edge.edge-index c.loop-edge.most c.if-edge-most.most c.edge-item.result at (omega (arith, w.most-is)) (omega (arith, w.most-is, w.if-edge-most, left)) c.loop-edge.invariant.0,
        (c.loop-edge.invariant.1.0, c.loop-edge.invariant.1.1, c.loop-edge.invariant.1.2, c.loop-edge.invariant.1.3 ∙ sym w.most-is),
      )
    ]

pub returns : goal.returns
returns c = record {
  above = λ k x at.
      let lt : k < length c.args.edges.now = slice_get_within c.args.edges.now k x at in
      let end : length c.args.edges.now ≤ c.loop-edge.edge-index = c.loop-edge-test.false in
      c.loop-edge.invariant.0 k x (let r : k < c.loop-edge.edge-index = omega (arith, lt, end) in r) at;
  one = c.loop-edge.invariant.1;
}
