use Rattle.std.proofs.Common.{subst}
use Rattle.walk_areas.specs.Walking.{IsMoved}
use Rattle.walk_checks.specs.Walked.{certificate_of}
use Rattle.walk_checks.proofs.ends.is_pointer_moved.Goals as goal

pub returns-in-Some-clause-moved : goal.returns-in-Some-clause-moved
returns-in-Some-clause-moved c so nodes = subst (IsMoved (certificate_of nodes c.args.table.now)) (c.in-Some.ensures.pointer nodes) (c.is_moved.ensures so nodes)
