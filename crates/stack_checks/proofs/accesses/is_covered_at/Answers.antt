use Rattle.stack_checks.proofs.accesses.is_covered_at.Goals as goal

pub returns-in-Some : goal.returns-in-Some
returns-in-Some c so = record { left = c.requires.left; more = c.args.more; place = c.in-Some.place; accessed = c.in-Some.ensures.place; covers = c.is_access_below.ensures so }
