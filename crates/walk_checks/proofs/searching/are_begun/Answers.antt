use Rattle.std.proofs.Common.{ℕ, ◌+◌, ◌*◌, ◌%◌, ◌^◌, refl, subst, arith, below_more}
use Rattle.stack_tables.proofs.Laws.{each_number}
use Rattle.walk_checks.specs.Walked.{IsBegunAt}
use Rattle.walk_checks.proofs.searching.are_begun.Goals as goal

pub loop-n-preserved : goal.loop-n-preserved
loop-n-preserved c = below_more (λ (j : ℕ). IsBegunAt c.args.search.now.parts.now c.args.search.now.sought c.args.search.now.ground.now ((c.args.first.low + c.args.first.stride * j) % 2 ^ 32)) c.loop-n.n c.loop-n.invariant
    (subst (IsBegunAt c.args.search.now.parts.now c.args.search.now.sought c.args.search.now.ground.now) c.number_at-at.ensures (c.if-not-is_begun_at.ensures refl))

pub returns : goal.returns
returns c so = each_number (IsBegunAt c.args.search.now.parts.now c.args.search.now.sought c.args.search.now.ground.now) c.args.first c.stride_count-strides.result c.stride_count-strides.ensures.some (λ j lt. c.loop-n.invariant j (omega (arith, lt)))
