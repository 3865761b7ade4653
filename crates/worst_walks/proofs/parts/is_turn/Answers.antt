use Rattle.std.proofs.Common.{Some, refl, sym, eqb-true}
use Rattle.flow_graph.specs.FlowGraph.{graph as graph_seen}
use Rattle.loop_forest.specs.Tree.{loops}
use Rattle.worst_walks.specs.Tallies.{place_of}
use Rattle.worst_walks.proofs.PartLaws.{within_more, closed_at, leads_to}
use Rattle.worst_walks.proofs.EnterLaws.{header_address}
use Rattle.worst_walks.proofs.parts.is_turn.Goals as goal

pub loop-j-init : goal.loop-j-init
loop-j-init c = record { path = tt; ends = sym (header_address c.args.graph.now c.args.tree.now c.requires.tree.0 c.requires.tree.1 c.args.l c.header.result c.header.ensures) }

pub loop-j-preserved : goal.loop-j-preserved
loop-j-preserved c =
    within_more (graph_seen c.args.graph.now) (loops c.args.graph.now c.args.tree.now) c.args.l (Some ((loops c.args.graph.now c.args.tree.now).header c.args.l)) c.args.turn.now c.loop-j.j _
    (place_of c.args.graph.now c.loop-j.at) (place_of c.args.graph.now c.target-at.result) c.loop-j.invariant c.loop-j-test.true refl
    (c.is_within.ensures.edge c.if-not-is_within.false) (c.is_within.ensures.starts c.if-not-is_within.false) (c.is_within.ensures.plain c.if-not-is_within.false) (c.is_within.ensures.stays c.if-not-is_within.false)
    (leads_to c.args.graph.now _ c.target-at.result c.target-at.ensures.some c.target-at.ensures.none)

pub returns-then-is_last : goal.returns-then-is_last
returns-then-is_last c = λ full.
    closed_at (graph_seen c.args.graph.now) (loops c.args.graph.now c.args.tree.now) c.args.l (Some ((loops c.args.graph.now c.args.tree.now).header c.args.l)) c.args.turn.now c.loop-j.j _
    (place_of c.args.graph.now c.loop-j.at) c.loop-j.invariant c.loop-j-test.true refl
    (c.is_last.ensures.edge c.if-is_last.true) (c.is_last.ensures.starts c.if-is_last.true) (c.is_last.ensures.back c.if-is_last.true) (eqb-true _ _ full)
