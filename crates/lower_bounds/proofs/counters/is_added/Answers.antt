use Rattle.std.proofs.Common.{ℕ, subst}
use Rattle.stack_laws.specs.Counting.{Counter, IsAdded}
use Rattle.stack_tables.specs.Tables.{stacks_in, values_in}
use Rattle.lower_bounds.specs.LowerTables.{at_of, cert}
use Rattle.lower_bounds.proofs.Seen.{counter_seen}
use Rattle.lower_bounds.proofs.counters.is_added.Goals as goal

pub returns : goal.returns
returns c so = subst (λ (n : ℕ). IsAdded (values_in c.args.case.now.claim.now) (stacks_in c.args.case.now.claim.now) (cert c.args.case.now).counter (at_of c.args.case.now c.args.k) c.args.i n) c.adds.ensures
    (subst (λ (x : Counter). IsAdded (values_in c.args.case.now.claim.now) (stacks_in c.args.case.now.claim.now) x (at_of c.args.case.now c.args.k) c.args.i c.adds.result) (counter_seen c.args.case.now.claim.now c.args.case.now.table.now) (c.is_added_to.ensures so))
