use Rattle.walk_checks.proofs.edges.is_started_from.Goals as goal

pub returns-in-Some : goal.returns-in-Some
returns-in-Some c so = (c.in-Some.i, c.in-Some.ensures, c.is_started_or_never.ensures so)
