-- What is told of a versioned image of a file.
use Rattle.std.specs.Prelude.{◌≡◌, ℕ, Bool, true, false, List, length, find, Ok, Some}
use Rattle.scale_base.specs.Image.{Image, image_of}
use Rattle.loop_versions.specs.declared.pieces.Piece.{Piece}
use Rattle.loop_versions.specs.declared.pieces.Piece.TheVariants.{Copied, Branched, Jumped, Bridge, Guard, Entered, Returned}
use Rattle.loop_versions.specs.Pieces.{pieces_code}
use Rattle.loop_versions.specs.Made.{IsVersioned}
use Rattle.versioned_images.specs.declared.versions.Version.{Version}

abbrev pub is_choice : Piece → Bool
is_choice (Copied at) = false
is_choice (Branched at to) = false
is_choice (Jumped at to) = false
is_choice (Bridge at to) = false
is_choice (Guard at larger smaller limit to) = true
is_choice (Entered at to end) = false
is_choice (Returned at to) = false

-- A versioned image of the image of a file, with its pieces, its sites and its base, with its first guard, and how many instructions its pieces have.
pub record IsVersionOf (plain : List ℕ) (version : Version) : Type 0 where
  pub image : Image
  pub versioned : Image
  pub to : ℕ
  pub is_read : image_of plain ≡ Ok image
  pub is_versioned : IsVersioned image versioned version.pieces.items version.sites.items version.base
  pub file : versioned.file ≡ version.file.items
  pub guard : find is_choice version.pieces.items ≡ Some (Guard version.header version.larger version.smaller version.limit to)
  pub words : version.words ≡ length (pieces_code image version.base version.pieces.items)
