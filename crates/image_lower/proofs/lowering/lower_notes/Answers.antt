use Rattle.std.proofs.Common.{◌≡◌, length, sym, arith, ◌∙◌}
use Rattle.std.proofs.lemmas.Bool.Decides.{nat_tests}
use Rattle.image_lower.proofs.LoweringLaws.{by_none, past_bad}
use Rattle.image_lower.proofs.lowering.lower_notes.Goals as goal

pub returns-then-is_empty : goal.returns-then-is_empty
returns-then-is_empty c =
    let e = c.is_empty.ensures in
    let t = c.if-is_empty.true in
    let none : length c.args.notes.now ≡ 0 = grind (arith, nat_tests) in
    past_bad _ c.lower_far.result c.args.view.now c.args.notes.now (sym c.in_default.is ∙ c.least_bad.ensures) (by_none _ c.lower_far.result c.args.view.now c.args.notes.now c.requires.image none c.lower_far.ensures)
