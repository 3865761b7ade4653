-- How many items an array has.
use Rattle.std.proofs.Common.{◌≡◌, List, [], ◌∷◌, length, refl, arith}
use Rattle.toml.specs.declared.value.Value.{Value}
use Rattle.toml.specs.View.{items_view}
use Rattle.jump_lists.specs.Jumps.{targets_count}

pub items_count_view : (vs : List Value) → targets_count (items_view vs) ≡ length vs
items_count_view [] = refl
items_count_view (v ∷ vs) = omega (arith, items_count_view vs)
