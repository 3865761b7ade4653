use Rattle.std.proofs.Common.{ℕ, Option, subst, sym}
use Rattle.stack_tables.specs.Tables.{values_in}
use Rattle.walk_areas.specs.Walking.{IsHolderOver}
use Rattle.walk_areas.specs.Walking.IsHolderOver.{unheld}
use Rattle.walk_checks.specs.Walked.{at_of, cert}
use Rattle.walk_checks.proofs.touching.is_holder_over.Goals as goal

pub returns-in-Some : goal.returns-in-Some
returns-in-Some c so = subst (λ (o : Option ℕ). IsHolderOver (values_in c.args.case.now.claim.now) (cert c.args.case.now) (at_of c.args.case.now c.args.k) c.args.i o) (sym c.in-Some.is) (c.is_held_over.ensures so)

pub returns-in-None : goal.returns-in-None
returns-in-None c so = unheld c.in-None.is
