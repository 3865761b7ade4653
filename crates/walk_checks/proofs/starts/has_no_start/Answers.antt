use Rattle.std.proofs.Common.{None}
use Rattle.walk_checks.proofs.Cases.{start_seen}
use Rattle.walk_checks.proofs.starts.has_no_start.Goals as goal

pub returns-in-None : goal.returns-in-None
returns-in-None c so = start_seen c.args.case.now None c.in-None.is
