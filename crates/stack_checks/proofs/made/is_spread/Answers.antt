use Rattle.std.proofs.Common.{subst}
use Rattle.bound_laws.specs.Registers.{Measure}
use Rattle.stack_laws.specs.Making.{spread}
use Rattle.wrapped_intervals.specs.Small.{measure_view}
use Rattle.stack_checks.specs.Checked.{IsLineFrom}
use Rattle.stack_checks.proofs.Cases.{line_made_so}
use Rattle.stack_checks.proofs.made.is_spread.Goals as goal

pub returns : goal.returns
returns c so = line_made_so c.args.way.now c.args.j (measure_view c.args.m) (spread (measure_view c.args.m) c.args.rs) c.requires.side c.requires.other c.requires.made (subst (λ (n : Measure). IsLineFrom c.args.way.now c.args.j n) c.spread.ensures (c.is_line_from.ensures so))
