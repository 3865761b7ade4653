use Rattle.std.proofs.Common.{◌≡◌, ◌++◌, take}
use Rattle.std.specs.List.{flat_map}
use Rattle.stub_writer.specs.Stubs.{word_bytes}
use Rattle.stub_writer.proofs.block.push_words.Given as goal

abbrev pub invariant-loop-word : goal.invariant-loop-word
invariant-loop-word l = l.out.items ≡ l.fn.out.items ++ flat_map word_bytes (take l.word-index l.words)
