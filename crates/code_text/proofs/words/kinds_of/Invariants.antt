use Rattle.std.proofs.Common.{◌≡◌, take, map}
use Rattle.code_text.specs.Text.{text_of, kind_at}
use Rattle.code_text.specs.Table.{all_addresses}
use Rattle.code_text.proofs.words.kinds_of.Given as goal

abbrev pub invariant-loop-range : goal.invariant-loop-range
invariant-loop-range l = l.kinds.items ≡ map (kind_at (text_of l.view)) (all_addresses (take l.range-index l.text))
