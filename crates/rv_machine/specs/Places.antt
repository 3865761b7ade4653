-- Scaffold: where instructions may be fetched.
use Rattle.std.specs.Prelude.{◌≡◌, ℕ, ◌<◌, Bool, ◌||◌, Some}
use Rattle.std.specs.List.{list_any}
use Rattle.scale_base.specs.declared.ranges.Range.{Range}
use Rattle.scale_base.specs.Image.{is_in}
use Rattle.scale_base.specs.Layout.{in_option}
use Rattle.elf_image.specs.Ascending.{AscendFrom}
use Rattle.rv_machine.specs.declared.decoding.Places.{Places}

-- whether a text range has the address
abbrev pub is_text : Places → ℕ → Bool
is_text p a = list_any (is_in a) p.text.now

-- whether one of the places has the address
abbrev pub has_address : Places → ℕ → Bool
has_address p a = in_option a p.keyed || is_text p a

-- the text ranges ascend, and each has an address
abbrev pub IsTextInOrder : Places → Type 0
IsTextInOrder p = AscendFrom 0 p.text.now

-- the same, and the keyed segment has an address too, if there is one
pub record AreFull (p : Places) : Type 0 where
  pub text : IsTextInOrder p
  pub keyed : (r : Range) → p.keyed ≡ Some r → r.from < r.to
