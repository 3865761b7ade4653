use Rattle.std.proofs.Common.{arith, ap, ◌∙◌}
use Rattle.std.proofs.lemmas.Option.{slice_get_within, get_or_from_slice_get}
use Rattle.flow_graph.specs.FlowGraph.{graph}
use Rattle.worst_cycles.specs.Worst.{by_edge}
use Rattle.worst_cycles.proofs.ContextLaws.{left_around_small}
use Rattle.worst_cycles.proofs.SlackLaws.{rest_there, rest_value, context_small}
use Rattle.worst_cycles.proofs.slacks.rest_of.Goals as goal

pub overflow_add-result : goal.overflow_add-result
overflow_add-result c =
    let small = left_around_small c.in-Some.to c.requires.visited.planned.flow c.requires.visited.solved c.requires.left c.requires.around (c.target.ensures.within c.in-Some.to c.in-Some.is) in
    omega arith

pub owner-requires : goal.owner-requires
owner-requires c = slice_get_within c.args.visited.now.planned.graph.now.code.nodes c.source.result _ c.source.ensures.node

pub overflow_add-result-in-Some : goal.overflow_add-result-in-Some
overflow_add-result-in-Some c =
    let small = left_around_small c.in-Some.to c.requires.visited.planned.flow c.requires.visited.solved c.requires.left c.requires.around (c.target.ensures.within c.in-Some.to c.in-Some.is) in
    let context = context_small c.args.visited.now.planned.graph.now c.args.visited.now.planned.tree.now (by_edge c.args.visited.now.planned.weights.now) c.args.context.now c.owner.result c.requires.visited.solved c.requires.context c.owner.ensures.within in
    omega arith

pub returns-in-Some : goal.returns-in-Some
returns-in-Some c = λ n s.
    let leads = c.target.ensures.some c.in-Some.to c.in-Some.is in
    let within = c.target.ensures.within c.in-Some.to c.in-Some.is in
    rest_value c.args.e c.in-Some.to c.owner.result c.requires.left c.requires.around c.requires.context s leads within
    (c.owner.ensures.owner ∙ ap (graph c.args.visited.now.planned.graph.now).owner (get_or_from_slice_get c.args.visited.now.planned.graph.now.code.nodes c.source.result _ 0 c.source.ensures.node)) c.owner.ensures.within
    ∙ rest_there c.args.visited.now.planned.graph.now c.args.visited.now.planned.tree.now n c.args.e c.in-Some.to leads within
