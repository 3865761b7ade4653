use Rattle.std.proofs.Common.{◌≡◌, take}
use Rattle.code_text.specs.Table.{all_addresses}
use Rattle.code_text.proofs.words.addresses_of.Given as goal

abbrev pub invariant-loop-range : goal.invariant-loop-range
invariant-loop-range l = l.addresses.items ≡ all_addresses (take l.range-index l.text)
