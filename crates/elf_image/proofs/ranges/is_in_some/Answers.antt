use Rattle.std.proofs.Common.{sym, arith}
use Rattle.elf_image.proofs.Places.{IsPlaceOf, in-at, in-none}
use Rattle.elf_image.proofs.ranges.is_in_some.Goals as goal

pub returns-then-place-eq0 : goal.returns-then-place-eq0
returns-then-place-eq0 c =
    let at : IsPlaceOf c.args.ranges.now c.args.at c.place_of-place.result = record { bound = c.place_of-place.ensures.bound; below = c.place_of-place.ensures.below; above = c.place_of-place.ensures.above } in
    sym (in-none c.args.ranges.now (record { from = 0; to = 0 }) c.args.at c.place_of-place.result c.requires at (omega arith))

pub returns : goal.returns
returns c =
    let at : IsPlaceOf c.args.ranges.now c.args.at c.place_of-place.result = record { bound = c.place_of-place.ensures.bound; below = c.place_of-place.ensures.below; above = c.place_of-place.ensures.above } in
    sym (in-at c.args.ranges.now _ c.args.at c.place_of-place.result c.requires at (omega arith))
