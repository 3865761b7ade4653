use Rattle.std.proofs.Common.{refl}
use Rattle.stack_tables.specs.Tables.{stacks_in}
use Rattle.walk_checks.proofs.Cases.{of_areas_in}
use Rattle.walk_checks.proofs.ground.is_of_areas.Goals as goal

pub returns : goal.returns
returns c so = of_areas_in (stacks_in c.args.claim.now).areas c.args.table.now c.areas.result.now c.areas.ensures.areas (c.if-not-are_grounded.ensures refl) (c.are_apart.ensures so)
