use Rattle.std.proofs.Common.{◌≡◌, take}
use Rattle.std.specs.Prelude.{filter_map}
use Rattle.code_text.specs.Table.{all_addresses}
use Rattle.image_lower.specs.FarJumps.{far_patch}
use Rattle.image_lower.proofs.far.far_patches.Given as goal

abbrev pub invariant-loop-range : goal.invariant-loop-range
invariant-loop-range l = l.patches.items ≡ filter_map (far_patch l.view l.notes) (all_addresses (take l.range-index l.text))
