use Rattle.std.proofs.Common.{◌≤◌, length, ap, arith}
use Rattle.code_graph.proofs.NumberedSteps.{next_step}
use Rattle.code_graph.proofs.reach.steps.steps_of.Goals as goal

pub loop-k-init : goal.loop-k-init
loop-k-init c = record { size = ap length c.new-steps.ensures.items; each = λ j lt. absurd (omega arith) }

pub loop-k-preserved : goal.loop-k-preserved
loop-k-preserved c = next_step c.args.words.now c.loop-k.steps.items c.push.new.self.items c.loop-k.k c.step_of.result c.in_ok-push.ensures.items c.loop-k.invariant.size c.loop-k.invariant.each c.step_of.ensures

pub returns : goal.returns
returns c =
    let end : c.count-k-end.result ≤ c.loop-k.k = c.loop-k-test.false in
    let most : c.loop-k.k ≤ c.count-k-end.result = c.loop-k.auto.k-end in
    let count = c.count-k-end.ensures.addresses in
    let size = c.loop-k.invariant.size in
    record { size = omega (arith, end, most, count, size); each = λ j lt. c.loop-k.invariant.each j (omega (arith, lt, end, count)) }
