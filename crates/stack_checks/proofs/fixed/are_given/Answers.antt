use Rattle.std.proofs.Common.{ℕ, ◌+◌, ◌*◌, ◌%◌, ◌^◌, refl, subst, arith, below_more}
use Rattle.stack_tables.specs.Tables.{fixed_in}
use Rattle.stack_checks.specs.Checked.{GivesAt}
use Rattle.stack_checks.proofs.Fixing.{gives_all}
use Rattle.stack_checks.proofs.fixed.are_given.Goals as goal

pub loop-n-preserved : goal.loop-n-preserved
loop-n-preserved c = below_more (λ (k : ℕ). GivesAt (fixed_in c.args.parts.now) c.args.loading.now ((c.args.place.low + c.args.place.stride * k) % 2 ^ 32)) c.loop-n.n c.loop-n.invariant
    (subst (GivesAt (fixed_in c.args.parts.now) c.args.loading.now) c.number_at.ensures (c.if-not-is_given_at.ensures refl))

pub returns : goal.returns
returns c so = gives_all (fixed_in c.args.parts.now) c.args.loading.now c.args.place c.stride_count-strides.result c.stride_count-strides.ensures.some
    (λ k lt. c.loop-n.invariant k (omega (arith, lt)))
