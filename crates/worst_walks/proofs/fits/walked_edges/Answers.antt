use Rattle.std.proofs.Common.{List, ℕ, subst}
use Rattle.graph_algorithms.specs.Nesting.{bodies_of}
use Rattle.worst_walks.specs.Fitted.{AreCalled, AreEntered}
use Rattle.worst_walks.proofs.WalkLaws.{walked}
use Rattle.worst_walks.proofs.fits.walked_edges.Goals as goal

pub returns : goal.returns
returns c =
    let parts = rw c.in-Some.is at c.in_ok-taken.ensures in
    walked c.args.graph.now c.args.tree.now c.requires.tree.0 c.node_count-nodes.ensures.graph c.requires.tree.1 (bodies_of c.args.parts.now.paths.items) (bodies_of c.args.parts.now.turns.items)
    c.args.times.now.calls.now c.args.times.now.entries.now c.in-Some.taken.items parts
    (subst (λ (xs : List ℕ). AreCalled c.args.graph.now xs c.args.times.now.calls.now) c.deref-2.ensures.value (c.in_ok-called.ensures c.if-not-called.false))
    (subst (λ (xs : List ℕ). AreEntered c.args.graph.now c.args.tree.now xs c.args.times.now.calls.now c.args.times.now.entries.now) c.deref-4.ensures.value (c.in_ok-entered.ensures c.if-not-entered.false))
