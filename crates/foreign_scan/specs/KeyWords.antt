-- Scaffold: the words of the keyed segment, in a list, and what is read from them.
use Rattle.std.specs.Prelude.{◌≡◌, ℕ, ◌+◌, ◌*◌, ◌/◌, ◌<◌, ◌≤◌, List, length, slice_index, Option, Some, None}
use Rattle.scale_base.specs.declared.ranges.Keyed.{Keyed}
use Rattle.scale_base.specs.Image.{Image, loaded_byte}
use Rattle.scale_base.specs.State.{word_at}
use Rattle.foreign_scan.specs.declared.fragment.ForeignFragment.{ForeignFragment}
use Rattle.foreign_scan.specs.Form.{IsKeyWord, Hold, IsForeign, foreign_code}

-- The numbers of the words of the keyed segment: the first one, and one more than the last. A word's number is its address divided by 4.
abbrev pub first_word : Option Keyed → ℕ
first_word None = 0
first_word (Some k) = (k.range.from + 3) / 4

abbrev pub end_word : Option Keyed → ℕ
end_word None = 0
end_word (Some k) = k.range.to / 4

-- The list has the word of each multiple of 4 of which the four bytes lie in the keyed segment, from the first one
-- on.
pub record AreKeyWords (image : Image) (first : ℕ) (words : List ℕ) : Type 0 where
  pub within : (k : ℕ) → k < length words → IsKeyWord image (4 * (first + k))
  pub all : (at : ℕ) → IsKeyWord image at → (first ≤ at / 4) × (at / 4 < first + length words)
  pub are : (k : ℕ) → k < length words → slice_index words k ≡ word_at (loaded_byte image) (4 * (first + k))

-- the word of an address whose four bytes lie in the keyed segment
pub record IsWordAt (image : Image) (at word : ℕ) : Type 0 where
  pub key : IsKeyWord image at
  pub value : word_at (loaded_byte image) at ≡ word

-- the code of the fragment, whose numbers fit, stands at an address
pub record FragmentStandsAt (image : Image) (at : ℕ) (f : ForeignFragment) : Type 0 where
  pub foreign : IsForeign f
  pub code : Hold image at (foreign_code f)
