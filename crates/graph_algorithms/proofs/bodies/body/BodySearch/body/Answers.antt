use Rattle.std.proofs.Common.{sym, subst}
use Rattle.graph_algorithms.specs.BodySearch.{AreUnmarked}
use Rattle.graph_algorithms.proofs.BodyLaws.{marked_none}
use Rattle.graph_algorithms.proofs.bodies.body.BodySearch.body.Goals as goal

pub fill_body-filled-requires-clause-marked : goal.fill_body-filled-requires-clause-marked
fill_body-filled-requires-clause-marked c =
    marked_none c.deref_mut.result.now c.new-body.result.items (subst (λ xs. AreUnmarked xs) (sym c.deref_mut.ensures.value) c.self.invariant.1) c.new-body.ensures.items
