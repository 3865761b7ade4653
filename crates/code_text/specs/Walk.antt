-- Scaffold: what a walk over the ranges of a text knows of the range at which it is.
use Rattle.std.specs.Prelude.{◌≡◌, ℕ, ◌+◌, ◌%◌, ◌==◌, ◌<◌, ◌≤◌, nat_le, true, List, length, slice_index, Ok}
use Rattle.std.specs.List.{list_any}
use Rattle.scale_base.specs.declared.ranges.Range.{Range}
use Rattle.scale_base.specs.Image.{Image, image_of, is_in}
use Rattle.code_text.specs.Text.{Text, text_of, is_target, follows}

-- The range is one of the text of an image: it begins at a multiple of 4, each of its addresses is one of the text, and one follows a word right before it where that is in
-- the range too.
pub record IsWalked (image : Image) (r : Range) : Type 0 where
  pub read : image_of image.file ≡ Ok image
  pub first : r.from % 4 ≡ 0
  pub inside : (v : ℕ) → is_in v r ≡ true → list_any (is_in v) image.text ≡ true
  pub follows : (v : ℕ) → is_in v r ≡ true → follows (text_of image) v ≡ nat_le (r.from + 4) v

-- the list holds the entry and the targets of the branches and JALs
abbrev pub AreTargetsOf : Text → List ℕ → Type 0
AreTargetsOf t targets = (v : ℕ) → is_target t v ≡ list_any (λ u. u == v) targets

abbrev pub Rise : List ℕ → Type 0
Rise xs = (i j : ℕ) → i ≤ j → j < length xs → slice_index xs i ≤ slice_index xs j

abbrev pub RiseStrictly : List ℕ → Type 0
RiseStrictly xs = (i j : ℕ) → i < j → j < length xs → slice_index xs i < slice_index xs j
