use Rattle.std.proofs.Common.{◌≡◌, ◌+◌, ◌≤◌, ◌<◌, ℕ, [], ◌∷◌, ◌++◌, List, length, refl, sym, ap, ◌∙◌, subst, arith, length-append}
use Rattle.plan_graphs.specs.declared.plan.DrawnEdge.{DrawnEdge}
use Rattle.plan_graphs.specs.Drawn.{AreDrawn, IsEdgeDrawn}
use Rattle.plan_graphs.proofs.Listing.{drawn_none, drawn_more}
use Rattle.plan_graphs.proofs.edges.draw_edges.Goals as goal

pub loop-e-init : goal.loop-e-init
loop-e-init c = (
  omega arith,
  λ told holds. subst (λ (xs : List DrawnEdge). AreDrawn (λ k. IsEdgeDrawn c.args.sketch.now.graph.now c.args.sketch.now.tree.now told (c.edges_of-first.result.0 + k)) (length xs) xs) (sym c.new-edges.ensures.items)
      (drawn_none (λ k. IsEdgeDrawn c.args.sketch.now.graph.now c.args.sketch.now.tree.now told (c.edges_of-first.result.0 + k))),
)

pub loop-e-preserved : goal.loop-e-preserved
loop-e-preserved c =
    let items = c.in_ok-push.ensures.items in
    let one : length (c.in_ok-draw_edge.field-0 ∷ []) ≡ 1 = refl in
    let longer : length c.push.new.self.items ≡ length c.loop-e.edges.items + 1 = ap (λ (xs : List DrawnEdge). length xs) items ∙ (let a = length-append c.loop-e.edges.items (c.in_ok-draw_edge.field-0 ∷ []) in let r : length (c.loop-e.edges.items ++ c.in_ok-draw_edge.field-0 ∷ []) ≡ length c.loop-e.edges.items + 1 = omega (arith, a, one) in r) in
    let at = c.loop-e.invariant.0 in (
      (let r : c.edges_of-first.result.0 + length c.push.new.self.items ≡ c.loop-e.e + 1 = omega (arith, longer, at) in r),
      λ told holds.
          subst (λ (n : ℕ). AreDrawn (λ k. IsEdgeDrawn c.args.sketch.now.graph.now c.args.sketch.now.tree.now told (c.edges_of-first.result.0 + k)) n c.push.new.self.items) (sym longer)
          (drawn_more (λ k. IsEdgeDrawn c.args.sketch.now.graph.now c.args.sketch.now.tree.now told (c.edges_of-first.result.0 + k)) (length c.loop-e.edges.items) c.loop-e.edges.items c.push.new.self.items c.in_ok-draw_edge.field-0 items
          (c.loop-e.invariant.1 told holds)
          (subst (λ (e : ℕ). IsEdgeDrawn c.args.sketch.now.graph.now c.args.sketch.now.tree.now told e c.in_ok-draw_edge.field-0) (sym at) (c.in_ok-draw_edge.ensures told holds))),
    )

pub returns-clause-edges : goal.returns-clause-edges
returns-clause-edges c = λ told holds. record {
  first = c.edges_of-first.result.0;
  each = (c.loop-e.invariant.1 told holds).each;
  all = λ e lt.
      let here = c.edges_of-first.ensures.edges e lt in
      let done = c.loop-e.invariant.0 in (
        (λ at. let r = here.0 at in (r.0, (let high = r.1 in let q : e < c.edges_of-first.result.0 + length c.loop-e.edges.items = omega arith in q))),
        (λ r. here.1 (r.0, (let high = r.1 in let q : e < c.edges_of-first.result.1 = omega arith in q))),
      );
}
