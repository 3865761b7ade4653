use Rattle.std.proofs.Common.{sym}
use Rattle.jump_checks.proofs.Along.{call_so, entry_read, step_so}
use Rattle.jump_checks.proofs.edges.is_edge_read.Goals as goal

pub returns-in-Some : goal.returns-in-Some
returns-in-Some c so =
    let both = c.is_call_read.ensures so in
    call_so c.args.claim.now c.args.e c.in-Some.f (sym c.in-Some.ensures) (entry_read c.args.claim.now c.in-Some.f c.entry_node.result c.entry_node.ensures.node both.0, both.1)

pub returns-in-None : goal.returns-in-None
returns-in-None c so = step_so c.args.claim.now c.args.e (sym c.in-None.ensures) (c.is_step_read.ensures so)
