use Rattle.std.proofs.Common.{ℕ, ◌<◌, Some, arith, ap, ◌∙◌}
use Rattle.loop_forest.specs.Tree.{loops}
use Rattle.worst_cycles.specs.Worst.{by_edge}
use Rattle.worst_cycles.proofs.BodyLaws.{loop_count}
use Rattle.worst_cycles.proofs.FallLaws.{plain_by}
use Rattle.worst_cycles.proofs.RestLaws.{back_rest, other_rest, plain_rest}
use Rattle.worst_cycles.proofs.rests.rest_over.Goals as goal

pub returns-then-j-l-clause-rest : goal.returns-then-j-l-clause-rest
returns-then-j-l-clause-rest c = λ n s known rests.
    back_rest c.args.e c.args.l c.cost_of.result c.requires.planned.tree.1 s c.requires.edge
    (c.in-Some.ensures ∙ ap (λ (j : ℕ). Some (Some j)) c.if-j-l.true) (c.cost_of.ensures.cost n known.called)

pub returns-else-j-l-clause-rest : goal.returns-else-j-l-clause-rest
returns-else-j-l-clause-rest c = λ n s known rests.
    other_rest (by_edge c.args.planned.now.weights.now) n c.args.e c.in-Some.j c.args.l c.requires.planned.tree.1 c.requires.edge c.in-Some.ensures c.requires.within c.if-j-l.false

pub returns-in-None-clause-rest : goal.returns-in-None-clause-rest
returns-in-None-clause-rest c = λ n s known rests.
    let count = loop_count c.args.planned.now.graph.now c.args.planned.now.tree.now in
    let within = c.requires.within in
    let lt : c.args.l < (loops c.args.planned.now.graph.now c.args.planned.now.tree.now).loops = omega arith in
    plain_rest c.args.rests.now c.args.l c.rest_past.result s c.requires.edge lt
    (plain_by c.args.planned.now.graph.now c.args.planned.now.tree.now c.requires.planned.tree.0 c.requires.planned.tree.1 c.args.e c.requires.edge c.in-None.ensures) known rests c.rest_past.ensures.rest
