use Rattle.std.proofs.Common.{ℕ, ◌∙◌, Option, Some, ap, subst}
use Rattle.bound_laws.specs.Values.{Arc, Covers, line_of}
use Rattle.wrapped_intervals.specs.Small.{measure_view}
use Rattle.lower_bounds.proofs.sums.is_sum_at_registers.Goals as goal

pub returns : goal.returns
returns c so = subst (λ (x : Option Arc). Covers (Some c.args.y) x) (c.line_of.ensures.line ∙ ap (λ (at : ℕ → Option Arc). line_of (measure_view c.args.m) at) c.arcs.ensures.arcs) (c.covers.ensures so)
