use Rattle.std.proofs.Common.{◌∙◌, refl}
use Rattle.std.proofs.lemmas.Bool.{both_ways, not-true}
use Rattle.turn_checks.proofs.Cases.{turn_over_in, used_at_header}
use Rattle.turn_checks.proofs.ends.is_turn_over.Goals as goal

pub returns-then-not-is_halving : goal.returns-then-not-is_halving
returns-then-not-is_halving c so = turn_over_in c.args.case.now c.requires.case c.args.k c.args.i (c.if-not-is_place_on.ensures refl) (c.if-not-is_turned.ensures refl)
    (λ half. absurd (both_ways c.is_halving.result (not-true c.is_halving.result so) (c.is_halving.ensures ∙ half)))

pub returns-else-not-is_halving : goal.returns-else-not-is_halving
returns-else-not-is_halving c so = turn_over_in c.args.case.now c.requires.case c.args.k c.args.i (c.if-not-is_place_on.ensures refl) (c.if-not-is_turned.ensures refl)
    (λ half. used_at_header c.args.case.now c.requires.case c.args.k c.args.i (c.is_used_over.ensures so))
