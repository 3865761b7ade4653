use Rattle.std.proofs.Common.{refl}
use Rattle.stack_laws.specs.Telling.IsToldBy.{compared, handed}
use Rattle.stack_tables.specs.Tables.{told_view}
use Rattle.stack_checks.specs.Checked.{IsSomeHanded, told_before}
use Rattle.stack_checks.proofs.Tellings.{told_of}
use Rattle.stack_checks.proofs.telling.is_told.Goals as goal

pub returns-then-is_compared : goal.returns-then-is_compared
returns-then-is_compared c so = record {
  teller = c.requires.told.teller;
  about = c.requires.told.about;
  reason = compared (c.if-is_left.ensures refl) (c.if-is_compared.ensures refl);
}

pub returns : goal.returns
returns c so =
    let x : IsSomeHanded c.args.way.now c.told.result.now c.args.y.now = c.is_some_handed.ensures so in record {
      teller = c.requires.told.teller;
      about = c.requires.told.about;
      reason = handed x.number (told_view x.found) (told_of c.told.result.now x.number x.found (told_before c.args.way.now x.number) (c.told.ensures.told x.number) x.found_is) x.on.handed x.on.carried;
    }
