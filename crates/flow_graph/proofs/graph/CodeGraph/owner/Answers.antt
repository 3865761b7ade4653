use Rattle.std.proofs.Common.{◌≡◌, ◌<◌, length, get_or, ap, refl, subst, sym, ◌∙◌, arith}
use Rattle.std.specs.Prelude.{slice_get}
use Rattle.std.proofs.lemmas.Option.{slice_get_read, slice_get-get_or}
use Rattle.flow_graph.specs.FlowGraph.{FlowGraph}
use Rattle.flow_graph.specs.Stored.{IsStoredGraph}
use Rattle.flow_graph.proofs.Graphs.{stored_owner, owner_within}
use Rattle.flow_graph.proofs.graph.CodeGraph.owner.Goals as goal

pub returns-clause-owner : goal.returns-clause-owner
returns-clause-owner c =
    let v : FlowGraph = c.args.self.now in
    let is : IsStoredGraph v c.self.inside.lists.callees.items c.self.inside.lists.firsts.items c.self.inside.lists.ends.sources.items c.self.inside.lists.ends.targets.items = subst (λ w. IsStoredGraph w c.self.inside.lists.callees.items c.self.inside.lists.firsts.items c.self.inside.lists.ends.sources.items c.self.inside.lists.ends.targets.items) c.self.view_is c.self.invariant in
    let owners : c.self.inside.lists.owners.items ≡ v.code.owners = ap (λ g. g.code.owners) c.self.view_is in
    let within : c.args.k < length c.self.inside.lists.owners.items = (let k = c.requires in let s = is.owners in let t = ap length owners in omega arith) in
    stored_owner v _ _ _ _ is c.args.k (get_or v.code.nodes c.args.k 0) c.index.result.now (slice_get-get_or v.code.nodes c.args.k 0 c.requires)
    (ap (λ xs. slice_get xs c.args.k) (sym owners) ∙ slice_get_read c.self.inside.lists.owners.items _ c.args.k c.index.result.now refl within c.index.ensures)

pub returns-clause-within : goal.returns-clause-within
returns-clause-within c =
    let v : FlowGraph = c.args.self.now in
    let is : IsStoredGraph v c.self.inside.lists.callees.items c.self.inside.lists.firsts.items c.self.inside.lists.ends.sources.items c.self.inside.lists.ends.targets.items = subst (λ w. IsStoredGraph w c.self.inside.lists.callees.items c.self.inside.lists.firsts.items c.self.inside.lists.ends.sources.items c.self.inside.lists.ends.targets.items) c.self.view_is c.self.invariant in
    subst (λ o. o < length v.code.functions) (sym (returns-clause-owner c)) (owner_within v _ _ _ _ is c.args.k (get_or v.code.nodes c.args.k 0) (slice_get-get_or v.code.nodes c.args.k 0 c.requires))
