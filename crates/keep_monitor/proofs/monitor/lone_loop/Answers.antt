use Rattle.std.proofs.Common.{◌∙◌}
use Rattle.keep_monitor.proofs.HeaderLaws.{loops_from_filter}
use Rattle.keep_monitor.proofs.TurnLaws.{lone_in_group}
use Rattle.keep_monitor.proofs.monitor.lone_loop.Goals as goal

pub returns-then-group-eq1-clause-lone : goal.returns-then-group-eq1-clause-lone
returns-then-group-eq1-clause-lone c =
    lone_in_group c.args.notes.now c.args.step.now.next c.headers_at-group.result.now
    (loops_from_filter c.args.notes.now c.args.step.now.next c.headers_at-group.result.now (c.headers_at-group.ensures ∙ c.requires.same c.args.step.now.next))
    c.if-group-eq1.true
