use Rattle.std.proofs.Common.{◌≡◌, ◌∙◌, true, false, refl, sym}
use Rattle.shown_bounds.specs.Certified.{case_graph, is_live_there}
use Rattle.value_checks.proofs.Laws.{live_is}
use Rattle.shown_bounds.proofs.edges.is_edge_certified.Goals as goal

pub returns-then-not-is_live : goal.returns-then-not-is_live
returns-then-not-is_live c so = record {
  quiet_along = c.if-not-is_quiet_along.ensures refl;
  quiet_calls = c.if-not-is_quiet_called.ensures refl;
  live = λ (live : is_live_there c.args.case.now ((case_graph c.args.case.now).source c.args.e) ≡ true).
      let no : true ≡ false = sym live ∙ (live_is c.args.case.now.claim.now.graph.now c.args.case.now.claim.now.table.now c.requires.case.claim.graph_is.flow c.requires.case.claim.sized c.source-k.result ((case_graph c.args.case.now).source c.args.e) c.source-k.ensures.node ∙ (sym c.is_live.ensures ∙ c.if-not-is_live.true)) in
      let bad : ⊥ = cc in absurd bad;
}

pub returns : goal.returns
returns c so = record {
  quiet_along = c.if-not-is_quiet_along.ensures refl;
  quiet_calls = c.if-not-is_quiet_called.ensures refl;
  live = λ (live : is_live_there c.args.case.now ((case_graph c.args.case.now).source c.args.e) ≡ true). c.is_live_so.ensures so;
}
