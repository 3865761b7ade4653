use Rattle.std.proofs.Common.{◌≡◌, ◌+◌, ◌*◌, map}
use Rattle.std.specs.List.{range_with_len}
use Rattle.scale_base.specs.State.{word_at}
use Rattle.flat_memory.specs.Lists.{list_bytes}
use Rattle.foreign_scan.proofs.key.words_between.Given as goal

abbrev pub invariant-loop-k : goal.invariant-loop-k
invariant-loop-k l = l.words.items ≡ map (λ k. word_at (list_bytes l.memory) (4 * (l.first + k))) (range_with_len 0 l.k)
