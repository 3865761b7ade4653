use Rattle.std.proofs.Common.{◌≡◌, ◌<◌, length, Some, ap, refl, subst, arith, ◌∙◌}
use Rattle.std.specs.Prelude.{slice_get}
use Rattle.std.proofs.lemmas.Option.{slice_get_read}
use Rattle.flow_graph.specs.FlowGraph.{FlowGraph}
use Rattle.flow_graph.specs.Stored.{IsStoredGraph}
use Rattle.flow_graph.proofs.graph.CodeGraph.target.Goals as goal

pub returns : goal.returns
returns c =
    let v : FlowGraph = c.args.self.now in
    let is : IsStoredGraph v c.self.inside.lists.callees.items c.self.inside.lists.firsts.items c.self.inside.lists.ends.sources.items c.self.inside.lists.ends.targets.items = subst (λ w. IsStoredGraph w c.self.inside.lists.callees.items c.self.inside.lists.firsts.items c.self.inside.lists.ends.sources.items c.self.inside.lists.ends.targets.items) c.self.view_is c.self.invariant in
    let within : c.args.e < length c.self.inside.lists.ends.targets.items = (let e = c.requires in let s = is.ends_are.targets_size in omega arith) in
    let read : slice_get c.self.inside.lists.ends.targets.items c.args.e ≡ Some c.index.result.now = slice_get_read c.self.inside.lists.ends.targets.items _ c.args.e c.index.result.now refl within c.index.ensures in
    record {
      some = λ k e. (is.ends_are.target c.args.e k (read ∙ ap Some e)).0;
      within = λ k e. (is.ends_are.target c.args.e k (read ∙ ap Some e)).1;
      none = λ e. is.ends_are.end c.args.e (read ∙ ap Some e);
    }
