use Rattle.std.proofs.Common.{ℕ, refl, List, Some, arith}
use Rattle.walk_areas.specs.Walking.{IsBegun}
use Rattle.walk_areas.specs.Walking.Place.{in_word}
use Rattle.walk_checks.specs.declared.tables.WordTrace.{WordTrace}
use Rattle.walk_checks.specs.Walked.{certificate_of, trace_view}
use Rattle.walk_checks.proofs.Cases.{one_so_far}
use Rattle.walk_checks.proofs.shown.are_each_begun.Goals as goal

pub loop-word-preserved : goal.loop-word-preserved
loop-word-preserved c = one_so_far (λ (x : WordTrace). (nodes : List ℕ) → IsBegun (certificate_of nodes c.args.table.now) (in_word x.number) (Some (trace_view x.trace))) c.args.row.now c.loop-word.word-index c.word-item.result c.loop-word-test.true c.word-item.is (c.if-not-is_begun.ensures refl) c.loop-word.invariant

pub returns : goal.returns
returns c so k d lt = c.loop-word.invariant k d (let test = c.loop-word-test.false in omega (arith, lt, test))
