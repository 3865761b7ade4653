use Rattle.std.proofs.Common.{None}
use Rattle.walk_checks.proofs.Cases.{sought_seen}
use Rattle.walk_checks.proofs.touching.has_none_sought.Goals as goal

pub returns-in-None : goal.returns-in-None
returns-in-None c so = sought_seen c.args.case.now None c.in-None.is
