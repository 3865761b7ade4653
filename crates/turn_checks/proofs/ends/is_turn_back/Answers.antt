use Rattle.std.proofs.Common.{◌∙◌, refl, sym}
use Rattle.std.proofs.lemmas.Bool.{both_ways, not-true}
use Rattle.turn_checks.proofs.Cases.{turn_back_in}
use Rattle.turn_checks.proofs.ends.is_turn_back.Goals as goal

pub returns-then-not-is_halving : goal.returns-then-not-is_halving
returns-then-not-is_halving c so = turn_back_in c.args.case.now c.args.call.from c.args.call.entry (c.if-not-is_place_back.ensures refl) (c.if-not-is_turned.ensures refl)
    (λ half. absurd (both_ways c.is_halving.result (not-true c.is_halving.result so) (c.is_halving.ensures ∙ half)))

pub returns-else-not-is_halving : goal.returns-else-not-is_halving
returns-else-not-is_halving c so = turn_back_in c.args.case.now c.args.call.from c.args.call.entry (c.if-not-is_place_back.ensures refl) (c.if-not-is_turned.ensures refl)
    (λ half. sym c.is_used.ensures ∙ so)
