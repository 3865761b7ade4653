use Rattle.stack_laws.specs.Digits.IsDwindlingBy.{handed}
use Rattle.stack_tables.specs.Tables.{dwindling_view}
use Rattle.stack_checks.specs.Checked.{IsSomeDivided, dwindling_before}
use Rattle.stack_checks.proofs.Dwindlings.{dwindling_of}
use Rattle.stack_checks.proofs.dwindling.is_dwindling.Goals as goal

pub returns : goal.returns
returns c so =
    let x : IsSomeDivided c.args.way.now c.dwindling.result.now c.args.y.now = c.is_some_divided.ensures so in record {
      value = c.requires.pair.value;
      count = c.requires.pair.count;
      reason = handed x.number (dwindling_view x.found) x.on.lost x.on.more (dwindling_of c.dwindling.result.now x.number x.found (dwindling_before c.args.way.now x.number) (c.dwindling.ensures.dwindling x.number) x.found_is) x.on.bits x.on.less x.on.counted x.on.room;
    }
