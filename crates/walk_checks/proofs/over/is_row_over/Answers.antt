use Rattle.walk_checks.specs.Walked.{traced_view}
use Rattle.walk_checks.proofs.over.is_row_over.Goals as goal

pub returns-in-Some : goal.returns-in-Some
returns-in-Some c so = c.in-Some.ensures.over (traced_view c.args.b) (c.is_wider_trace.ensures so)
