-- The words of a text, by number.
use Rattle.std.specs.Prelude.{ℕ, ◌+◌, ◌-◌, ◌*◌, ◌/◌, List, map}
use Rattle.std.specs.List.{range_with_len, flat_map}
use Rattle.scale_base.specs.declared.ranges.Range.{Range}
use Rattle.cost_theory.specs.declared.flow.Flow.{Flow}
use Rattle.code_text.specs.Text.{Text, kind_at}

-- the address of each word, and what it says of the way on
pub record WordTable : Type 0 where
  pub addresses : List ℕ
  pub kinds : List Flow

-- the addresses of the words of a range
abbrev pub word_addresses : Range → List ℕ
word_addresses r = map (λ i. r.from + 4 * i) (range_with_len 0 ((r.to - r.from) / 4))

-- the addresses of the words of all ranges
abbrev pub all_addresses : List Range → List ℕ
all_addresses ranges = flat_map word_addresses ranges

abbrev pub word_table : Text → WordTable
word_table t = record { addresses = all_addresses t.ranges; kinds = map (kind_at t) (all_addresses t.ranges) }
