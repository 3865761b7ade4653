-- Which files are versioned images of others.
use Rattle.std.specs.Prelude.{◌≡◌, ℕ, ◌+◌, ◌*◌, ◌≤◌, false, List, [], ◌∷◌, length, None, Ok}
use Rattle.scale_base.specs.declared.limits.TheConstants.{IMAGE_LIMIT}
use Rattle.scale_base.specs.Image.{Image, image_of}
use Rattle.image_lower.specs.Lowered.{is_full}
use Rattle.loop_versions.specs.declared.pieces.Piece.{Piece}
use Rattle.loop_versions.specs.declared.pieces.Site.{Site}
use Rattle.loop_versions.specs.Pieces.{piece_len, pieces_code}
use Rattle.loop_versions.specs.Made.{IsVersioned}

-- the number of bytes of pieces
abbrev pub pieces_len : List Piece → ℕ
pieces_len [] = 0
pieces_len (p ∷ ps) = 4 * piece_len p + pieces_len ps

-- an image that isn't too long, with room for a section more, and without a block
abbrev pub IsOpen : Image → Type 0
IsOpen image = (length image.file ≤ IMAGE_LIMIT) × (is_full image.file ≡ false) × (image.keyed_segment ≡ None)

-- the file of a versioned image of an image, with these pieces and sites from a base on, which have so many instructions
pub record IsVersionedBy (image : Image) (pieces : List Piece) (sites : List Site) (made : List ℕ) (base words : ℕ) : Type 0 where
  pub versioned : Image
  pub is_versioned : IsVersioned image versioned pieces sites base
  pub file : versioned.file ≡ made
  pub words_are : words ≡ length (pieces_code image base pieces)

-- there is none, but one whose pieces begin in the last 147,492 bytes of the address space
abbrev pub HasNone : Image → List Piece → List Site → Type 0
HasNone image pieces sites = (made : List ℕ) (base words : ℕ) → IsVersionedBy image pieces sites made base words → 4294819804 ≤ base

-- over the bytes of both files
pub record IsVersionedFile (plain made : List ℕ) : Type 0 where
  pub image : Image
  pub versioned : Image
  pub pieces : List Piece
  pub sites : List Site
  pub base : ℕ
  pub is_read : image_of plain ≡ Ok image
  pub is_versioned : IsVersioned image versioned pieces sites base
  pub file : versioned.file ≡ made
