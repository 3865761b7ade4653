use Rattle.std.proofs.Common.{ℕ, ◌*◌, ◌∙◌, ap, subst, sym}
use Rattle.bound_laws.specs.Registers.{Measure}
use Rattle.stack_laws.specs.Making.{joined, moved, taken_for}
use Rattle.stack_laws.specs.Making.IsMade.{summed}
use Rattle.wrapped_intervals.specs.Small.{measure_view}
use Rattle.stack_checks.specs.Checked.{IsLineFrom}
use Rattle.stack_checks.proofs.Cases.{line_made_so}
use Rattle.stack_checks.proofs.made.is_made_by_plus.Goals as goal

pub returns : goal.returns
returns c so = line_made_so c.args.way.now c.args.j (measure_view c.args.m) (joined (moved (taken_for (measure_view c.args.m) c.args.rs) (c.args.m.factor * c.args.more))) c.requires.side c.requires.other
    (summed c.args.rs c.requires.origin.0 c.requires.origin.1 (ap (λ (n : ℕ). joined (moved (taken_for (measure_view c.args.m) c.args.rs) (c.args.m.factor * n))) (sym c.requires.origin.2)))
    (subst (λ (n : Measure). IsLineFrom c.args.way.now c.args.j n) (c.joined.ensures ∙ ap joined c.moved_for.ensures) (c.is_line_from.ensures so))
