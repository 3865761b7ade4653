use Rattle.std.proofs.Common.{ℕ, ◌<◌, ◌≡◌, ◌⊎◌, subst, sym, ⊎_elim, arith, refl}
use Rattle.flow_graph.proofs.Laws.{less_same_more}
use Rattle.jump_checks.specs.Claimed.{IsEdgeSo}
use Rattle.jump_checks.proofs.edges.are_edges_read.Goals as goal

pub loop-e-preserved : goal.loop-e-preserved
loop-e-preserved c e lt = ⊎_elim
    (λ (before : e < c.loop-e.e). c.loop-e.invariant e before)
    (λ (rest : (e ≡ c.loop-e.e) ⊎ (c.loop-e.e < e)). ⊎_elim
    (λ (same : e ≡ c.loop-e.e). subst (λ (x : ℕ). IsEdgeSo c.args.claim.now x) (sym same) (c.if-not-is_edge_read.ensures refl))
    (λ (after : c.loop-e.e < e). let bad : ⊥ = omega (arith, lt, after) in absurd bad)
    rest)
    (less_same_more e c.loop-e.e)

pub returns : goal.returns
returns c so e lt = c.loop-e.invariant e (let count = c.edge_count-e-end.ensures.count in let test = c.loop-e-test.false in omega (arith, lt, count, test))
