use Rattle.std.proofs.Common.{ℕ, refl, arith, below_more}
use Rattle.stack_checks.specs.Checked.{IsWordPassed}
use Rattle.stack_checks.proofs.Cases.{unknown_passed}
use Rattle.stack_checks.proofs.Loops.{each_word}
use Rattle.stack_checks.proofs.words.are_words_passed.Goals as goal

pub loop-j-preserved : goal.loop-j-preserved
loop-j-preserved c = below_more (λ (x : ℕ). IsWordPassed c.args.way.now x) c.loop-j.j c.loop-j.invariant (c.if-not-is_word_passed.ensures refl)

pub returns : goal.returns
returns c so = each_word (λ (x : ℕ). IsWordPassed c.args.way.now x) c.loop-j.j c.word_count-j-end.result (let test = c.loop-j-test.false in omega (arith, test)) c.loop-j.invariant (λ j past. unknown_passed c.args.way.now j (c.word_count-j-end.ensures.none j past))
