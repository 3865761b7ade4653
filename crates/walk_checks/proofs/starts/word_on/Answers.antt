use Rattle.std.proofs.Common.{Option, refl}
use Rattle.bound_laws.specs.Values.{Arc}
use Rattle.stack_tables.specs.Tables.{stacks_in, values_in}
use Rattle.walk_areas.specs.Walking.{IsArcOver}
use Rattle.walk_areas.specs.Walking.IsArcOver.{missed}
use Rattle.walk_areas.specs.Walking.Place.{in_word}
use Rattle.walk_checks.specs.Walked.{at_of}
use Rattle.walk_checks.proofs.Cases.{if_known}
use Rattle.walk_checks.proofs.starts.word_on.Goals as goal

pub returns-then-is_missed-clause-over : goal.returns-then-is_missed-clause-over
returns-then-is_missed-clause-over c = if_known c.word.result.arc (λ (arc : Option Arc). IsArcOver (values_in c.args.case.now.claim.now) (stacks_in c.args.case.now.claim.now) (at_of c.args.case.now c.args.step.from) c.args.step.instr (at_of c.args.case.now c.args.step.to) (in_word c.args.number) arc)
    (missed c.args.number refl (c.is_missed.ensures c.if-is_missed.true) c.word.ensures.arc)
