-- The two items of an array.
use Rattle.std.proofs.Common.{◌≡◌, ◌≢◌, List, [], ◌∷◌, None, length, refl}
use Rattle.toml.specs.declared.value.Value.{Value}
use Rattle.toml.specs.View.{items_view}
use Rattle.loop_file.specs.Addresses.{pair_of}

pub pair_of_other : (vs : List Value) → length vs ≢ 2 → None ≡ pair_of (items_view vs)
pair_of_other [] h = refl
pair_of_other (v ∷ []) h = refl
pair_of_other (v ∷ w ∷ []) h = absurd (h refl)
pair_of_other (v ∷ w ∷ x ∷ vs) h = refl
