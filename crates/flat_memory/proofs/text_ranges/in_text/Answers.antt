use Rattle.std.proofs.Common.{◌-◌, sym, arith}
use Rattle.flat_memory.proofs.OrderLaws.{text_last, text_none}
use Rattle.flat_memory.proofs.text_ranges.in_text.Goals as goal

pub returns-then-place-eq0 : goal.returns-then-place-eq0
returns-then-place-eq0 c = sym (text_none c.args.text.now c.args.at (λ i e le lt. c.place_of-place.ensures.above i e (omega arith) lt))

pub returns : goal.returns
returns c =
    sym (text_last c.args.text.now c.args.at (c.place_of-place.result - 1) _ c.requires (omega (arith, c.place_of-place.ensures.bound))
    (λ i e lt. c.place_of-place.ensures.below i e (omega arith)) (λ i e le lt. c.place_of-place.ensures.above i e (omega arith) lt))
