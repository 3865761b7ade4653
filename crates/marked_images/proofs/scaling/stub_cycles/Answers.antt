use Rattle.std.proofs.Common.{ap}
use Rattle.std.proofs.lemmas.Result.{err_from_is_err_and}
use Rattle.power_model.specs.Numbers.{PowerModel}
use Rattle.marked_images.proofs.ExtraFacts.{extra_calls, extra_stop, extra_found}
use Rattle.marked_images.proofs.scaling.stub_cycles.Goals as goal

pub worst-requires-clause-calls : goal.worst-requires-clause-calls
worst-requires-clause-calls c = extra_calls c.args.power.now c.args.graph.now c.args.tree.now c.args.sites.now c.in_ok-weights.weights c.in_ok-weights.ensures.size c.power.inside.costs (ap (λ (p : PowerModel). p.costs) c.power.view_is) c.in_ok-weights.ensures.each c.requires.range

pub returns-in_err-numbers : goal.returns-in_err-numbers
returns-in_err-numbers c = λ wanted has.
    let p = err_from_is_err_and c.from_residual-in_err-numbers.result c.from_residual-in_err-numbers.ensures.1 in
    rw (p.1, p.2) (extra_stop c.args.power.now c.args.graph.now c.args.tree.now c.args.sites.now c.in_ok-weights.weights c.in_ok-weights.ensures.size c.power.inside.costs (ap (λ (p : PowerModel). p.costs) c.power.view_is) c.in_ok-weights.ensures.each c.requires.range wanted c.in_err-numbers.field-0.0 c.in_err-numbers.ensures.found)

pub returns : goal.returns
returns c = λ wanted has.
    extra_found c.args.power.now c.args.graph.now c.args.tree.now c.args.sites.now c.in_ok-weights.weights c.in_ok-weights.ensures.size c.power.inside.costs (ap (λ (p : PowerModel). p.costs) c.power.view_is) c.in_ok-weights.ensures.each wanted has c.in_ok-numbers.numbers c.total.result c.requires.range c.in_ok-numbers.ensures.found c.total.ensures
