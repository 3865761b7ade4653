use Rattle.std.proofs.Common.{◌≡◌, ◌+◌, ◌*◌, ◌++◌, map}
use Rattle.std.specs.Prelude.{filter}
use Rattle.std.specs.List.{range_with_len}
use Rattle.jump_drafts.specs.Jumps.{is_left}
use Rattle.jump_drafts.proofs.listing.push_left.Given as goal

abbrev pub invariant-loop-k : goal.invariant-loop-k
invariant-loop-k l =
    map (λ other. other.at) l.others.items
    ≡ map (λ other. other.at) l.initial.others.items ++ filter (is_left l.view l.notes) (map (λ i. l.range.from + 4 * i) (range_with_len 0 l.k))
