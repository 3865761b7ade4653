use Rattle.stack_tables.specs.Tables.{stacks_in}
use Rattle.walk_checks.proofs.Cases.{of_fixed_in}
use Rattle.walk_checks.proofs.ground.is_of_fixed.Goals as goal

pub returns : goal.returns
returns c so = of_fixed_in (stacks_in c.args.claim.now).fixed c.fixed_parts.result.now c.args.table.now c.fixed_parts.ensures (c.is_searched.ensures so)
