use Rattle.std.proofs.Common.{◌∙◌, refl, sym}
use Rattle.walk_checks.specs.Walked.{found_view}
use Rattle.walk_checks.proofs.Cases.{turn_back_in}
use Rattle.walk_checks.proofs.ends.is_turn_back.Goals as goal

pub returns-else-not-is_pointer_moved : goal.returns-else-not-is_pointer_moved
returns-else-not-is_pointer_moved c so = turn_back_in c.args.case.now c.args.call.from c.args.call.entry (found_view c.in-Some-Some.first) (found_view c.in-Some-Some.second) c.in-Some-Some.ensures.back c.in-Some-Some.ensures'.back
    (c.if-not-is_pointer_moved.ensures.first refl) (c.if-not-is_pointer_moved.ensures.second refl) (c.if-not-is_pointer_moved.ensures.moved refl) (sym c.is_touched.ensures ∙ so)
