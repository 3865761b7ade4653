use Rattle.std.proofs.Common.{refl}
use Rattle.walk_areas.specs.Walking.IsHolderOver.{kept, searched}
use Rattle.walk_checks.proofs.touching.is_held_over.Goals as goal

pub returns-then-is_holder_kept : goal.returns-then-is_holder_kept
returns-then-is_holder_kept c so = kept c.args.r refl (c.if-is_holder_kept.ensures refl).0 (c.if-is_holder_kept.ensures refl).1

pub returns : goal.returns
returns c so = searched c.args.r refl (c.is_searching.ensures so)
