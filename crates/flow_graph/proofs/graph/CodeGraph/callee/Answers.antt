use Rattle.std.proofs.Common.{◌<◌, length, refl, subst, arith}
use Rattle.std.proofs.lemmas.Option.{slice_get_read, slice_get_within}
use Rattle.flow_graph.specs.FlowGraph.{FlowGraph}
use Rattle.flow_graph.specs.Stored.{IsStoredGraph}
use Rattle.flow_graph.proofs.Graphs.{stored_callee, callees_size}
use Rattle.flow_graph.proofs.graph.CodeGraph.callee.Goals as goal

pub returns : goal.returns
returns c =
    let v : FlowGraph = c.args.self.now in
    let is : IsStoredGraph v c.self.inside.lists.callees.items c.self.inside.lists.firsts.items c.self.inside.lists.ends.sources.items c.self.inside.lists.ends.targets.items = subst (λ w. IsStoredGraph w c.self.inside.lists.callees.items c.self.inside.lists.firsts.items c.self.inside.lists.ends.sources.items c.self.inside.lists.ends.targets.items) c.self.view_is c.self.invariant in
    let within : c.source.result < length c.self.inside.lists.callees.items = (let k = slice_get_within v.code.nodes c.source.result _ c.source.ensures.node in let s = callees_size v _ _ _ _ is in omega arith) in
    stored_callee v _ _ _ _ is c.args.e c.source.result c.index.result.now c.requires c.source.ensures.node (slice_get_read c.self.inside.lists.callees.items _ c.source.result c.index.result.now refl within c.index.ensures)
