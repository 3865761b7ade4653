use Rattle.std.proofs.Common.{arith, ◌≡◌, ◌+◌, length, subst, sym}
use Rattle.graph_algorithms.specs.Nesting.{bodies_of}
use Rattle.loop_tree.specs.Backs.{AreBacks}
use Rattle.loop_tree.proofs.BackLaws.{backs_more}
use Rattle.loop_tree.proofs.backs.back_loops.Goals as goal

pub loop-e-preserved : goal.loop-e-preserved
loop-e-preserved c =
    subst (AreBacks c.args.graph.now c.args.headers.now (bodies_of c.args.bodies.now) (c.loop-e.e + 1)) (sym c.in_ok-push.ensures.items)
    (backs_more c.args.graph.now c.args.headers.now (bodies_of c.args.bodies.now) c.loop-e.e c.loop-e.backs.items c.back_loop.result c.loop-e.invariant c.back_loop.ensures)

pub returns : goal.returns
returns c =
    let e : c.loop-e.e ≡ length c.args.graph.now.code.edges = omega arith in
    subst (λ n. AreBacks c.args.graph.now c.args.headers.now (bodies_of c.args.bodies.now) n c.loop-e.backs.items) e c.loop-e.invariant
