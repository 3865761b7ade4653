use Rattle.std.proofs.Common.{◌≡◌, ◌+◌, ◌*◌, ◌++◌, map}
use Rattle.std.specs.Prelude.{filter_map}
use Rattle.std.specs.List.{range_with_len}
use Rattle.image_lower.specs.FarJumps.{far_patch}
use Rattle.image_lower.proofs.far.add_far_patches.Given as goal

abbrev pub invariant-loop-k : goal.invariant-loop-k
invariant-loop-k l = l.patches.items ≡ l.initial.patches.items ++ filter_map (far_patch l.view l.notes) (map (λ i. l.range.from + 4 * i) (range_with_len 0 l.k))
