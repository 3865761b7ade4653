use Rattle.std.proofs.Common.{◌≡◌, ◌<◌, length, ap, refl, subst, sym, ◌∙◌, arith}
use Rattle.std.specs.Prelude.{slice_get}
use Rattle.std.proofs.lemmas.Option.{slice_get_read, slice_get_within}
use Rattle.flow_graph.specs.FlowGraph.{FlowGraph}
use Rattle.flow_graph.specs.Stored.{IsStoredGraph}
use Rattle.flow_graph.proofs.Graphs.{stored_word}
use Rattle.flow_graph.proofs.graph.CodeGraph.word.Goals as goal

pub returns : goal.returns
returns c =
    let v : FlowGraph = c.args.self.now in
    let is : IsStoredGraph v c.self.inside.lists.callees.items c.self.inside.lists.firsts.items c.self.inside.lists.ends.sources.items c.self.inside.lists.ends.targets.items = subst (λ w. IsStoredGraph w c.self.inside.lists.callees.items c.self.inside.lists.firsts.items c.self.inside.lists.ends.sources.items c.self.inside.lists.ends.targets.items) c.self.view_is c.self.invariant in
    let kinds : c.self.inside.lists.kinds.items ≡ v.kinds = ap (λ g. g.kinds) c.self.view_is in
    let within : c.source.result < length c.self.inside.lists.kinds.items = (let k = slice_get_within v.code.nodes c.source.result _ c.source.ensures.node in let s = is.kinds in let t = ap length kinds in omega arith) in
    stored_word v _ _ _ _ is c.source.result _ c.index.result.now c.source.ensures.node
    (ap (λ xs. slice_get xs c.source.result) (sym kinds) ∙ slice_get_read c.self.inside.lists.kinds.items _ c.source.result c.index.result.now refl within c.index.ensures)
