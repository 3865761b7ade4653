use Rattle.std.proofs.Common.{◌≡◌, length, arith, subst}
use Rattle.code_graph.specs.Flow.{AreStepChains}
use Rattle.code_graph.proofs.reach.chains.find_chains.Goals as goal

pub returns : goal.returns
returns c =
    let end : c.loop-s.s ≡ length c.args.steps.now = omega arith in
    subst (λ n. AreStepChains c.args.steps.now n c.loop-s.chains.last.items c.loop-s.chains.before.items) end c.loop-s.invariant
