use Rattle.std.proofs.Common.{ℕ, inl, refl, Option, Some, subst, sym}
use Rattle.bound_laws.specs.Values.{Arc, Covers, arc, line_of}
use Rattle.wrapped_intervals.specs.Small.{measure_view}
use Rattle.value_checks.proofs.Laws.{at_is}
use Rattle.shown_bounds.proofs.counters.is_sum_within.Goals as goal

pub returns-then-are_registers_within : goal.returns-then-are_registers_within
returns-then-are_registers_within c so a at = inl (subst (λ (arcs : ℕ → Option Arc). Covers (Some (arc 0 c.args.width)) (line_of (measure_view c.args.m) arcs))
    (sym (at_is c.args.claim.now.graph.now c.args.claim.now.table.now c.requires.claim.graph_is.flow c.requires.claim.sized c.args.k a at)) (c.if-are_registers_within.ensures refl))
