use Rattle.std.proofs.Common.{refl}
use Rattle.lower_bounds.proofs.Cases.{outer_step}
use Rattle.lower_bounds.proofs.edges.is_outside_so.Goals as goal

pub returns-then-step-case : goal.returns-then-step-case
returns-then-step-case c so = outer_step c.args.case.now c.requires.case c.args.step c.requires.step.to c.requires.outside (c.if-not-is_effect_so.ensures refl) (λ _. c.is_start_so.ensures so)

pub returns : goal.returns
returns c so = outer_step c.args.case.now c.requires.case c.args.step c.requires.step.to c.requires.outside (c.if-not-is_effect_so.ensures refl) (λ same. absurd (c.if-step-case.false same))
