use Rattle.walk_checks.specs.Walked.{found_view}
use Rattle.walk_checks.proofs.Cases.{aims_in}
use Rattle.walk_checks.proofs.touching.is_aimed_by.Goals as goal

pub returns-in-Some : goal.returns-in-Some
returns-in-Some c so = aims_in c.args.case.now c.args.k c.args.register c.args.more (found_view c.aim.result) (found_view c.in-Some.z) (found_view c.moved.result) c.aim.ensures c.in-Some.ensures.operand c.moved.ensures.moved (c.is_wider.ensures.wider so)
