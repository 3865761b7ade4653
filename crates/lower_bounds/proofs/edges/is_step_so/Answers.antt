use Rattle.std.proofs.Common.{refl}
use Rattle.lower_bounds.proofs.Cases.{other_step}
use Rattle.lower_bounds.proofs.edges.is_step_so.Goals as goal

pub returns-then-is_apart : goal.returns-then-is_apart
returns-then-is_apart c so i at = other_step c.args.case.now c.requires.case c.args.k c.args.n i c.requires.to (c.if-is_apart.ensures.other refl) (c.if-is_apart.ensures.body refl) (c.if-is_apart.ensures.outside refl)
