use Rattle.std.proofs.Common.{sym, subst}
use Rattle.graph_algorithms.specs.Cycles.{IsCycleBy}
use Rattle.graph_algorithms.proofs.Laws.{cycle_turned}
use Rattle.loop_tree.specs.Backs.{IsStepBy}
use Rattle.loop_tree.proofs.RoundLaws.{round_of_addresses}
use Rattle.loop_tree.proofs.cycles.cycle_of.Goals as goal

pub returns : goal.returns
returns c = λ backs is.
    let t = c.least_first-cycle.ensures.turned in
    let round = round_of_addresses c.args.graph.now backs c.args.numbers.now c.in_ok-addresses.addresses.items c.requires.flow is c.in_ok-addresses.ensures in
    subst (IsCycleBy (IsStepBy c.args.graph.now backs)) (sym c.from_vec.ensures)
    (cycle_turned (IsStepBy c.args.graph.now backs) c.in_ok-addresses.addresses.items c.least_first-cycle.result.items t.0 round t.1 t.2 c.least_first-cycle.ensures.least)
