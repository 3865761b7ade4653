use Rattle.std.proofs.Common.{◌<◌, ◌≡◌, ◌⊎◌, ap, ◌∙◌, sym, ⊎_elim, arith, refl}
use Rattle.std.specs.Prelude.{slice_get}
use Rattle.std.proofs.lemmas.Option.{slice_get_within}
use Rattle.flow_graph.proofs.Laws.{less_same_more}
use Rattle.shown_bounds.proofs.returning.are_linked.Goals as goal

pub loop-k-preserved : goal.loop-k-preserved
loop-k-preserved c k a lt at = ⊎_elim
    (λ (before : k < c.loop-k.k). c.loop-k.invariant k a before at)
    (λ (rest : (k ≡ c.loop-k.k) ⊎ (c.loop-k.k < k)). ⊎_elim
    (λ (same : k ≡ c.loop-k.k). c.if-not-is_linked.ensures refl a (sym (ap (slice_get c.args.claim.now.graph.now.code.nodes) same) ∙ at))
    (λ (after : c.loop-k.k < k). let bad : ⊥ = omega (arith, lt, after) in absurd bad)
    rest)
    (less_same_more k c.loop-k.k)

pub returns : goal.returns
returns c so k a at = c.loop-k.invariant k a
    (let count = c.node_count-k-end.ensures.count in let test = c.loop-k-test.false in let within = slice_get_within c.args.claim.now.graph.now.code.nodes k a at in omega (arith, within, count, test)) at
