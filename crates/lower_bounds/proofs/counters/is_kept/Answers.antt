use Rattle.std.proofs.Common.{subst}
use Rattle.stack_laws.specs.Counting.{Counter, IsKeptBy}
use Rattle.stack_tables.specs.Tables.{stacks_in, text_in, values_in}
use Rattle.lower_bounds.specs.LowerTables.{at_of}
use Rattle.lower_bounds.proofs.Seen.{counter_seen}
use Rattle.lower_bounds.proofs.counters.is_kept.Goals as goal

pub returns-in-Some : goal.returns-in-Some
returns-in-Some c so = subst (λ (x : Counter). IsKeptBy (text_in c.args.case.now.claim.now) (values_in c.args.case.now.claim.now) (stacks_in c.args.case.now.claim.now) (at_of c.args.case.now c.args.k) (at_of c.args.case.now c.args.h) x)
    (counter_seen c.args.case.now.claim.now c.args.case.now.table.now) (c.is_kept_by.ensures so)
