use Rattle.std.proofs.Common.{◌≡◌, ◌+◌, ◌*◌, ◌++◌, map}
use Rattle.std.specs.List.{range_with_len}
use Rattle.code_text.specs.Text.{text_of, kind_at}
use Rattle.code_text.proofs.words.add_kinds.Given as goal

abbrev pub invariant-loop-k : goal.invariant-loop-k
invariant-loop-k l = l.kinds.items ≡ l.initial.kinds.items ++ map (kind_at (text_of l.view)) (map (λ i. l.range.from + 4 * i) (range_with_len 0 l.k))
