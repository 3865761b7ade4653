use Rattle.std.proofs.Common.{◌≡◌, length, arith, subst}
use Rattle.least_cycles.specs.Functions.{IsFromFirst}
use Rattle.least_cycles.specs.Passes.{AreKindsIn}
use Rattle.least_cycles.proofs.TurnLaws.{kinds_first}
use Rattle.least_cycles.proofs.turns.mark_body.Goals as goal

pub loop-i-init : goal.loop-i-init
loop-i-init c = kinds_first c.args.body.now c.args.turns.now.items c.args.stays.now.items c.requires.turns c.requires.stays

pub returns : goal.returns
returns c =
    let body = c.args.body.now in
    let last : c.loop-i.i ≡ length body.nodes.now = omega arith in
    subst (λ i. AreKindsIn body (IsFromFirst body.graph.now body.nodes.now i) c.loop-i.turns.items c.loop-i.stays.items) last c.loop-i.invariant
