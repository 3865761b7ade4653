use Rattle.std.proofs.Common.{◌≡◌, take, map}
use Rattle.std.specs.List.{flat_map}
use Rattle.jump_drafts.specs.Jumps.{left_in}
use Rattle.jump_drafts.proofs.listing.left_jumps.Given as goal

abbrev pub invariant-loop-range : goal.invariant-loop-range
invariant-loop-range l = map (λ other. other.at) l.others.items ≡ flat_map (left_in l.view l.notes) (take l.range-index l.text)
