use Rattle.std.proofs.Common.{refl}
use Rattle.stack_tables.specs.Tables.{stacks_in}
use Rattle.stack_checks.proofs.Reaching.{are_areas_of}
use Rattle.stack_checks.proofs.areas.are_areas.Goals as goal

pub returns : goal.returns
returns c so = are_areas_of c.args.claim.now.view.now c.areas-known.result.now (stacks_in c.args.claim.now).areas c.areas-known.ensures.areas (c.if-not-is_held.ensures refl) (c.are_segments_held.ensures so)
