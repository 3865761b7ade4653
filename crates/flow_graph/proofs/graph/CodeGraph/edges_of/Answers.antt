use Rattle.std.proofs.Common.{◌≡◌, ◌+◌, get_or, subst, arith}
use Rattle.std.proofs.lemmas.List.{get_or_read}
use Rattle.flow_graph.specs.FlowGraph.{FlowGraph}
use Rattle.flow_graph.specs.Stored.{IsStoredGraph}
use Rattle.flow_graph.proofs.Graphs.{edge_between, between_edge, between_within}
use Rattle.flow_graph.proofs.graph.CodeGraph.edges_of.Goals as goal

pub returns-clause-within : goal.returns-clause-within
returns-clause-within c =
    let v : FlowGraph = c.args.self.now in
    let is : IsStoredGraph v c.self.inside.lists.callees.items c.self.inside.lists.firsts.items c.self.inside.lists.ends.sources.items c.self.inside.lists.ends.targets.items = subst (λ w. IsStoredGraph w c.self.inside.lists.callees.items c.self.inside.lists.firsts.items c.self.inside.lists.ends.sources.items c.self.inside.lists.ends.targets.items) c.self.view_is c.self.invariant in
    let size = is.firsts_are.size in
    let lt = c.requires in
    between_within v _ _ _ _ is c.args.k c.index.result.now c.index-2.result.now c.requires
    (get_or_read c.self.inside.lists.firsts.items c.args.k _ (omega arith) c.index.ensures 0) (get_or_read c.self.inside.lists.firsts.items (c.args.k + 1) _ (omega arith) c.index-2.ensures 0)

pub returns-clause-edges : goal.returns-clause-edges
returns-clause-edges c =
    let v : FlowGraph = c.args.self.now in
    let is : IsStoredGraph v c.self.inside.lists.callees.items c.self.inside.lists.firsts.items c.self.inside.lists.ends.sources.items c.self.inside.lists.ends.targets.items = subst (λ w. IsStoredGraph w c.self.inside.lists.callees.items c.self.inside.lists.firsts.items c.self.inside.lists.ends.sources.items c.self.inside.lists.ends.targets.items) c.self.view_is c.self.invariant in
    let size = is.firsts_are.size in
    let lt = c.requires in
    let first : c.index.result.now ≡ get_or c.self.inside.lists.firsts.items c.args.k 0 = get_or_read c.self.inside.lists.firsts.items c.args.k _ (omega arith) c.index.ensures 0 in
    let next : c.index-2.result.now ≡ get_or c.self.inside.lists.firsts.items (c.args.k + 1) 0 = get_or_read c.self.inside.lists.firsts.items (c.args.k + 1) _ (omega arith) c.index-2.ensures 0 in
    λ e el. (
      edge_between v _ _ _ _ is c.args.k c.index.result.now c.index-2.result.now c.requires first next e el,
      between_edge v _ _ _ _ is c.args.k c.index.result.now c.index-2.result.now c.requires first next e,
    )
