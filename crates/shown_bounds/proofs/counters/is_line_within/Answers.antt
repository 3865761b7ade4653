use Rattle.std.proofs.Common.{inr, Option, Some, subst, sym}
use Rattle.bound_laws.specs.Values.{Arc, Covers, arc}
use Rattle.wrapped_intervals.specs.Small.{measure_view}
use Rattle.stack_tables.specs.Tables.{IsLineOf, claim_values}
use Rattle.shown_bounds.proofs.counters.is_line_within.Goals as goal

pub returns-in-Some : goal.returns-in-Some
returns-in-Some c so a at =
    let found : IsLineOf (claim_values c.args.claim.now) a (measure_view c.args.m) c.in-Some.arc = c.in-Some.ensures.line a at in
    inr (found.0, found.1, subst (λ (x : Option Arc). Covers (Some (arc 0 c.args.width)) x) (sym found.2) (c.is_known_within.ensures so))
