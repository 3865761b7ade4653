use Rattle.std.proofs.Common.{◌≡◌, ◌+◌, ◌*◌, ◌++◌, map}
use Rattle.std.specs.List.{range_with_len}
use Rattle.code_text.proofs.words.add_addresses.Given as goal

abbrev pub invariant-loop-k : goal.invariant-loop-k
invariant-loop-k l = l.addresses.items ≡ l.initial.addresses.items ++ map (λ i. l.range.from + 4 * i) (range_with_len 0 l.k)
