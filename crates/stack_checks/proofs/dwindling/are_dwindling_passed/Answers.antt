use Rattle.std.proofs.Common.{Option, subst}
use Rattle.stack_laws.specs.Digits as digits
use Rattle.stack_laws.specs.Digits.{IsDwindlingBehind}
use Rattle.stack_checks.specs.Checked.{dwindling_before, from, to, values_along}
use Rattle.stack_checks.proofs.Dwindlings.{behind_all}
use Rattle.stack_checks.proofs.dwindling.are_dwindling_passed.Goals as goal

pub returns : goal.returns
returns c so j =
    subst (λ (o : Option digits.Dwindling). IsDwindlingBehind (values_along c.args.way.now) (dwindling_before c.args.way.now) c.args.way.now.instr (from c.args.way.now) (to c.args.way.now) o) (c.dwindling.ensures.dwindling j)
    (behind_all (values_along c.args.way.now) (dwindling_before c.args.way.now) c.args.way.now.instr (from c.args.way.now) (to c.args.way.now) c.dwindling.result.now (c.are_all_dwindling.ensures so) j)
