use Rattle.std.proofs.Common.{refl, Some, arith}
use Rattle.stack_tables.specs.Tables.{stacks_in, values_in}
use Rattle.walk_areas.specs.Walking.{IsWordOver}
use Rattle.walk_checks.specs.declared.tables.WordTrace.{WordTrace}
use Rattle.walk_checks.specs.Walked.{at_of, cert, trace_view}
use Rattle.walk_checks.proofs.Cases.{one_so_far}
use Rattle.walk_checks.proofs.edges.are_each_over.Goals as goal

pub loop-word-preserved : goal.loop-word-preserved
loop-word-preserved c = one_so_far (λ (x : WordTrace). IsWordOver (values_in c.args.case.now.claim.now) (stacks_in c.args.case.now.claim.now) (cert c.args.case.now) (at_of c.args.case.now c.args.step.from) c.args.step.instr x.number (Some (trace_view x.trace))) c.args.row.now c.loop-word.word-index c.word-item.result c.loop-word-test.true c.word-item.is (c.if-not-is_word_over.ensures refl) c.loop-word.invariant

pub returns : goal.returns
returns c so k d lt = c.loop-word.invariant k d (let test = c.loop-word-test.false in omega (arith, lt, test))
