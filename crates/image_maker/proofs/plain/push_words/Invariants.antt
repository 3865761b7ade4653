use Rattle.std.proofs.Common.{◌≡◌, ◌++◌, take}
use Rattle.image_maker.specs.PlainImage.{words}
use Rattle.image_maker.proofs.plain.push_words.Given as goal

abbrev pub invariant-loop-word : goal.invariant-loop-word
invariant-loop-word l = l.out.items ≡ l.fn.out.items ++ words (take l.word-index l.words)
