use Rattle.std.proofs.Common.{Option, subst}
use Rattle.stack_laws.specs.Telling as telling
use Rattle.stack_laws.specs.Telling.{IsToldBehind}
use Rattle.stack_checks.specs.Checked.{from, to, told_before, values_along}
use Rattle.stack_checks.proofs.Tellings.{behind_all}
use Rattle.stack_checks.proofs.telling.are_told_passed.Goals as goal

pub returns : goal.returns
returns c so j =
    subst (λ (o : Option telling.Told). IsToldBehind (values_along c.args.way.now) (told_before c.args.way.now) c.args.way.now.instr (from c.args.way.now) (to c.args.way.now) o) (c.told.ensures.told j)
    (behind_all (values_along c.args.way.now) (told_before c.args.way.now) c.args.way.now.instr (from c.args.way.now) (to c.args.way.now) c.told.result.now (c.are_all_told.ensures so) j)
