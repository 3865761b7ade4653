use Rattle.std.proofs.Common.{◌<◌, length, refl, subst, arith}
use Rattle.std.proofs.lemmas.Option.{slice_get_read, slice_get_within}
use Rattle.flow_graph.specs.FlowGraph.{FlowGraph}
use Rattle.flow_graph.specs.Stored.{IsStoredGraph}
use Rattle.flow_graph.proofs.graph.CodeGraph.source.Goals as goal

pub returns-clause-node : goal.returns-clause-node
returns-clause-node c =
    let v : FlowGraph = c.args.self.now in
    let is : IsStoredGraph v c.self.inside.lists.callees.items c.self.inside.lists.firsts.items c.self.inside.lists.ends.sources.items c.self.inside.lists.ends.targets.items = subst (λ w. IsStoredGraph w c.self.inside.lists.callees.items c.self.inside.lists.firsts.items c.self.inside.lists.ends.sources.items c.self.inside.lists.ends.targets.items) c.self.view_is c.self.invariant in
    let within : c.args.e < length c.self.inside.lists.ends.sources.items = (let e = c.requires in let s = is.ends_are.sources_size in omega arith) in
    is.ends_are.source c.args.e c.index.result.now (slice_get_read c.self.inside.lists.ends.sources.items _ c.args.e c.index.result.now refl within c.index.ensures)

pub returns-clause-within : goal.returns-clause-within
returns-clause-within c = slice_get_within c.args.self.now.code.nodes c.index.result.now _ (returns-clause-node c)
