use Rattle.std.proofs.Common.{refl, Some}
use Rattle.stack_tables.specs.Tables.{stacks_in, values_in}
use Rattle.walk_areas.specs.Walking.{IsWordBack}
use Rattle.walk_checks.specs.declared.tables.WordTrace.{WordTrace}
use Rattle.walk_checks.specs.Walked.{at_of, cert, trace_view}
use Rattle.walk_checks.proofs.Cases.{one_so_far}
use Rattle.walk_checks.proofs.edges.are_each_back.Goals as goal

pub loop-word-preserved : goal.loop-word-preserved
loop-word-preserved c = one_so_far (λ (x : WordTrace). IsWordBack (values_in c.args.case.now.claim.now) (stacks_in c.args.case.now.claim.now) (cert c.args.case.now) (at_of c.args.case.now c.args.call.from) (at_of c.args.case.now c.args.call.entry) x.number (Some (trace_view x.trace))) c.args.row.now c.loop-word.word-index c.word-item.result c.loop-word-test.true c.word-item.is (c.if-not-is_word_back.ensures refl) c.loop-word.invariant
