use Rattle.std.proofs.Common.{◌≡◌, ℕ, ◌-◌, ◌+◌, ◌≤◌, ◌<◌, ◌∙◌, Bool, true, false, length, sym, arith}
use Rattle.std.specs.Prelude.{nat_lt, slice_index_or}
use Rattle.std.proofs.lemmas.Bool.Decides.{nat_tests}
use Rattle.scale_base.specs.declared.ranges.Range.{Range}
use Rattle.flat_memory.proofs.WholeLaws.{text_before, text_decides}
use Rattle.flat_memory.proofs.text_ranges.text_whole.Goals as goal

pub returns-then-place-eq0 : goal.returns-then-place-eq0
returns-then-place-eq0 c = λ at b says low high.
    let is : b ≡ false = cc in
    text_before c.args.text.now at c.args.last high (λ i e le lt. c.place_of-place.ensures.above i e (omega arith) lt) ∙ sym is

pub returns-then-last-range : goal.returns-then-last-range
returns-then-last-range c = λ at b says low high.
    let is : b ≡ true = cc in
    let d : Range = record { from = 0; to = 0 } in
    let k = c.place_of-place.result - 1 in
    let begins : (slice_index_or c.args.text.now (c.place_of-place.result - 1) d).from ≤ at = omega arith in
    let inside : nat_lt at (slice_index_or c.args.text.now (c.place_of-place.result - 1) d).to ≡ true = grind (arith, nat_tests) in
    text_decides c.args.text.now at c.args.last k d c.requires.ordered (omega (arith, c.place_of-place.ensures.bound)) begins high (λ i e le lt. c.place_of-place.ensures.above i e (omega arith) lt)
    ∙ (inside ∙ sym is)

pub returns-then-range-from-2 : goal.returns-then-range-from-2
returns-then-range-from-2 c = λ at b says low high.
    let is : b ≡ false = cc in
    let d : Range = record { from = 0; to = 0 } in
    let k = c.place_of-place.result - 1 in
    let begins : (slice_index_or c.args.text.now (c.place_of-place.result - 1) d).from ≤ at = omega arith in
    let behind : nat_lt at (slice_index_or c.args.text.now (c.place_of-place.result - 1) d).to ≡ false = grind (arith, nat_tests) in
    text_decides c.args.text.now at c.args.last k d c.requires.ordered (omega (arith, c.place_of-place.ensures.bound)) begins high (λ i e le lt. c.place_of-place.ensures.above i e (omega arith) lt)
    ∙ (behind ∙ sym is)
