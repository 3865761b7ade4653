use Rattle.std.proofs.Common.{sym, ap, subst, List, ℕ}
use Rattle.std.proofs.lemmas.Result.{err_from_is_err_and}
use Rattle.cost_theory.specs.Accepted.{AreWeights}
use Rattle.code_text.specs.Text.{text_of}
use Rattle.power_model.specs.Numbers.{PowerModel}
use Rattle.power_model.specs.Price.{cycles_of}
use Rattle.flow_graph.specs.FlowGraph.{graph}
use Rattle.worst_cycles.specs.Worst.{by_edge}
use Rattle.rewritten_runs.proofs.Laws.{weights_hold}
use Rattle.scale_sites.specs.Sites.{AreSites}
use Rattle.scaler.proofs.SiteFacts.{sites_stop, sites_found}
use Rattle.scaler.proofs.rewriting.sites_of.Goals as goal

pub worst-requires-clause-calls : goal.worst-requires-clause-calls
worst-requires-clause-calls c =
    subst (λ (l : List ℕ). AreWeights (graph c.args.graph.now) (by_edge l)) (sym c.in_ok-weights.ensures)
    (weights_hold (text_of c.requires.code.0) c.args.graph.now (cycles_of c.args.power.now.costs) c.requires.code.1)

pub returns-in_err-plain : goal.returns-in_err-plain
returns-in_err-plain c = λ image is.
    let p = err_from_is_err_and c.from_residual-in_err-plain.result c.from_residual-in_err-plain.ensures.1 in
    rw (p.1, p.2) (sites_stop c.args.power.now image c.args.graph.now c.args.tree.now c.in_ok-weights.weights is c.in_ok-weights.ensures c.in_err-plain.field-0.0 c.in_err-plain.ensures.found)

pub returns : goal.returns
returns c = λ image is.
    sites_found c.args.power.now image c.args.graph.now c.args.tree.now c.in_ok-weights.weights is c.in_ok-weights.ensures c.in_ok-plain.plain c.args.counters.now c.in_ok-choose.field-0 c.requires.counters c.in_ok-plain.ensures.found c.in_ok-plain.ensures.left
    (subst (λ q. AreSites c.args.graph.now c.args.tree.now c.args.counters.now q c.args.power.now.min_gain c.in_ok-choose.field-0) c.slacks.ensures
    (subst (λ g. AreSites c.args.graph.now c.args.tree.now c.args.counters.now c.slacks.result.now g c.in_ok-choose.field-0) (ap (λ (p : PowerModel). p.min_gain) c.power.view_is) c.in_ok-choose.ensures))
