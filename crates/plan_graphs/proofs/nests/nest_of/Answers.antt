use Rattle.std.proofs.Common.{◌≡◌, ◌<◌, ℕ, List, Option, Some, None, sym, ap, ◌∙◌, subst, arith, length}
use Rattle.std.proofs.lemmas.List.{length-map}
use Rattle.cost_theory.proofs.Laws.{accepted_entered}
use Rattle.flow_graph.specs.FlowGraph.{graph}
use Rattle.loop_forest.specs.Noted.{node_address}
use Rattle.loop_forest.specs.Tree.{loops, IsParent}
use Rattle.plan_graphs.proofs.NestLaws.{AreRoundTo, round_start, round_more, round_end, outer_left, outer_less}
use Rattle.plan_graphs.proofs.nests.nest_of.Goals as goal

pub loop-next-init : goal.loop-next-init
loop-next-init c = λ at is.
    subst (λ (ks : List ℕ). AreRoundTo (loops c.args.graph.now c.args.tree.now) at ks c.args.inner) (sym c.new-nest.ensures.items) (round_start (loops c.args.graph.now c.args.tree.now) at c.args.inner is)

pub parent-next-requires : goal.parent-next-requires
parent-next-requires c =
    let are : AreRoundTo (loops c.args.graph.now c.args.tree.now) c.requires.inner.0 c.loop-next.nest.items (Some c.in-Some.l) =
    subst (λ (o : Option ℕ). AreRoundTo (loops c.args.graph.now c.args.tree.now) c.requires.inner.0 c.loop-next.nest.items o) c.in-Some.is (c.loop-next.invariant c.requires.inner.0 c.requires.inner.1) in
    let low = are.next.0 in
    let count = length-map c.args.tree.now.headers (node_address c.args.graph.now) in
    let size = c.requires.tree.1.parent_size in
    omega (arith, low, count, size)

pub loop-next-preserved : goal.loop-next-preserved
loop-next-preserved c = λ at is.
    let are : AreRoundTo (loops c.args.graph.now c.args.tree.now) at c.loop-next.nest.items (Some c.in-Some.l) =
    subst (λ (o : Option ℕ). AreRoundTo (loops c.args.graph.now c.args.tree.now) at c.loop-next.nest.items o) c.in-Some.is (c.loop-next.invariant at is) in
    let par : IsParent (loops c.args.graph.now c.args.tree.now) c.in-Some.l c.parent-next.result = c.requires.tree.1.parents c.in-Some.l c.parent-next.result c.parent-next.ensures in
    subst (λ (ks : List ℕ). AreRoundTo (loops c.args.graph.now c.args.tree.now) at ks c.parent-next.result) (sym c.in_ok-insert.ensures.items)
    (round_more (graph c.args.graph.now) (loops c.args.graph.now c.args.tree.now) c.requires.tree.0 c.node_count-nodes.ensures.graph.program (accepted_entered c.requires.tree.1.accepted) at c.in-Some.l c.loop-next.nest.items c.parent-next.result par are)

pub loop-next-smaller : goal.loop-next-smaller
loop-next-smaller c =
    let are : AreRoundTo (loops c.args.graph.now c.args.tree.now) c.requires.inner.0 c.loop-next.nest.items (Some c.in-Some.l) =
    subst (λ (o : Option ℕ). AreRoundTo (loops c.args.graph.now c.args.tree.now) c.requires.inner.0 c.loop-next.nest.items o) c.in-Some.is (c.loop-next.invariant c.requires.inner.0 c.requires.inner.1) in
    let par : IsParent (loops c.args.graph.now c.args.tree.now) c.in-Some.l c.parent-next.result = c.requires.tree.1.parents c.in-Some.l c.parent-next.result c.parent-next.ensures in
    let less = outer_less (graph c.args.graph.now) (loops c.args.graph.now c.args.tree.now) c.requires.tree.0 c.node_count-nodes.ensures.graph.program (accepted_entered c.requires.tree.1.accepted) c.in-Some.l c.parent-next.result are.next.0 par in
    subst (λ (o : Option ℕ). outer_left (graph c.args.graph.now) (loops c.args.graph.now c.args.tree.now) c.parent-next.result < outer_left (graph c.args.graph.now) (loops c.args.graph.now c.args.tree.now) o) (sym c.in-Some.is) less

pub returns : goal.returns
returns c = λ at is.
    round_end (loops c.args.graph.now c.args.tree.now) at c.loop-next.nest.items
    (subst (λ (o : Option ℕ). AreRoundTo (loops c.args.graph.now c.args.tree.now) at c.loop-next.nest.items o) c.in_default.is (c.loop-next.invariant at is))
