use Rattle.std.proofs.Common.{ℕ, refl, arith, below_more}
use Rattle.stack_tables.specs.Tables.{IsUnknown, address, stacks_in}
use Rattle.stack_checks.proofs.Loops.{each_word}
use Rattle.stack_checks.proofs.words.are_unknown.Goals as goal

pub loop-j-preserved : goal.loop-j-preserved
loop-j-preserved c = below_more (λ (x : ℕ). IsUnknown (stacks_in c.args.claim.now) (address c.args.claim.now c.args.n) x) c.loop-j.j c.loop-j.invariant (c.if-not-is_unknown.ensures refl)

pub returns : goal.returns
returns c so = each_word (λ (x : ℕ). IsUnknown (stacks_in c.args.claim.now) (address c.args.claim.now c.args.n) x) c.loop-j.j c.word_count-j-end.result (let test = c.loop-j-test.false in omega (arith, test)) c.loop-j.invariant (λ j past. c.word_count-j-end.ensures.none j past)
