use Rattle.std.proofs.Common.{ℕ, Some, refl, ap, sym, subst, ◌∙◌}
use Rattle.std.specs.Prelude.{Option, IsSome}
use Rattle.std.proofs.lemmas.Option.{slice_get_within}
use Rattle.cost_theory.specs.Reached.{number_or_0}
use Rattle.flow_graph.specs.FlowGraph.{FlowGraph, graph}
use Rattle.flow_graph.proofs.graph.CodeGraph.entry_node.Goals as goal

pub unwrap-requires : goal.unwrap-requires
unwrap-requires c =
    let v : FlowGraph = c.args.self.now in
    let flow = c.node_count-nodes.ensures.graph in
    let k = (flow.nodes ((graph v).entry c.args.f)).1 (flow.program.entry_node c.args.f c.requires) in
    let found = (c.find.ensures k.0).1 (k.1 ∙ ap Some (ap number_or_0 c.function.ensures)) in
    subst (λ (o : Option ℕ). IsSome o) (sym found) refl

pub returns-clause-within : goal.returns-clause-within
returns-clause-within c = slice_get_within c.args.self.now.code.nodes c.unwrap.result c.function.result ((c.find.ensures c.unwrap.result).0 c.unwrap.ensures)
