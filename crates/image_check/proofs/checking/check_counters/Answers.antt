use Rattle.image_check.proofs.CheckLaws.{counts_none}
use Rattle.image_check.proofs.checking.check_counters.Goals as goal

pub returns-in-Err : goal.returns-in-Err
returns-in-Err c =
    let r = c.requires.scanned in
    counts_none c.args.original.now c.requires.original c.args.view r.0 c.args.sites c.in-Err.counter r.1 (rw c.in-Err.is at (c.in_ok-owners.ensures c.args.original.now.view c.args.view r.0 r.1))

pub check_worst-requires-clause-received : goal.check_worst-requires-clause-received
check_worst-requires-clause-received c =
    let r = c.requires.scanned in
    (r.0, record { scanned = r.1; owners = rw c.in-Ok.is at (c.in_ok-owners.ensures c.args.original.now.view c.args.view r.0 r.1) })
