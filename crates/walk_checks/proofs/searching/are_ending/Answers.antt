use Rattle.std.proofs.Common.{refl, arith}
use Rattle.bound_laws.specs.Values.{Arc}
use Rattle.walk_checks.specs.Walked.{IsEnding}
use Rattle.walk_checks.proofs.Cases.{one_so_far}
use Rattle.walk_checks.proofs.searching.are_ending.Goals as goal

pub loop-x-preserved : goal.loop-x-preserved
loop-x-preserved c = one_so_far (λ (x : Arc). IsEnding c.args.search.now.parts.now c.args.search.now.sought c.args.least x) c.args.search.now.ground.now c.loop-x.x-index c.x-item.result c.loop-x-test.true c.x-item.is (c.if-not-is_ending.ensures refl) c.loop-x.invariant

pub returns : goal.returns
returns c so k d lt = c.loop-x.invariant k d (let test = c.loop-x-test.false in omega (arith, lt, test))
