use Rattle.std.proofs.Common.{ℕ, refl, arith, below_more}
use Rattle.stack_checks.specs.Checked.{IsWordBehind}
use Rattle.stack_checks.proofs.Cases.{unknown_behind}
use Rattle.stack_checks.proofs.Loops.{each_word}
use Rattle.stack_checks.proofs.words.are_words_behind.Goals as goal

pub loop-j-preserved : goal.loop-j-preserved
loop-j-preserved c = below_more (λ (x : ℕ). IsWordBehind c.args.way.now c.args.h x) c.loop-j.j c.loop-j.invariant (c.if-not-is_word_behind.ensures refl)

pub returns : goal.returns
returns c so = each_word (λ (x : ℕ). IsWordBehind c.args.way.now c.args.h x) c.loop-j.j c.word_count-j-end.result (let test = c.loop-j-test.false in omega (arith, test)) c.loop-j.invariant (λ j past. unknown_behind c.args.way.now c.args.h j (c.word_count-j-end.ensures.none j past))
