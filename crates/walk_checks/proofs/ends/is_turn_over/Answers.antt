use Rattle.std.proofs.Common.{refl}
use Rattle.walk_checks.specs.Walked.{found_view}
use Rattle.walk_checks.proofs.Cases.{turn_over_in}
use Rattle.walk_checks.proofs.ends.is_turn_over.Goals as goal

pub returns-else-not-is_pointer_moved : goal.returns-else-not-is_pointer_moved
returns-else-not-is_pointer_moved c so = turn_over_in c.args.case.now c.args.step.from c.args.step.to c.args.step.instr (found_view c.in-Some-Some.first) (found_view c.in-Some-Some.second) c.in-Some-Some.ensures.over c.in-Some-Some.ensures'.over
    (c.if-not-is_pointer_moved.ensures.first refl) (c.if-not-is_pointer_moved.ensures.second refl) (c.if-not-is_pointer_moved.ensures.moved refl) (c.is_touched_over.ensures so)
