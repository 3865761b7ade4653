-- The file that is made: the original one with a jump in place of each site, and the pieces as a segment of their own.
use Rattle.std.specs.Prelude.{◌≡◌, ℕ, ◌*◌, ◌^◌, ◌<◌, ◌≤◌, true, false, All, List, length, map, None, Ok}
use Rattle.std.specs.List.{flat_map}
use Rattle.scale_base.specs.declared.limits.TheConstants.{IMAGE_LIMIT}
use Rattle.scale_base.specs.declared.ranges.Patch.{Patch}
use Rattle.scale_base.specs.Image.{Image, image_of}
use Rattle.scale_base.specs.Word.{word_of}
use Rattle.image_lower.specs.Lowered.{is_full}
use Rattle.elf_patch.specs.Stored.{IsStubBase, little}
use Rattle.elf_patch.specs.Added.{added_file}
use Rattle.stub_writer.specs.Stubs.{jump}
use Rattle.loop_versions.specs.declared.pieces.Piece.{Piece}
use Rattle.loop_versions.specs.declared.pieces.Site.{Site}
use Rattle.loop_versions.specs.Pieces.{pieces_code}
use Rattle.loop_versions.specs.Fitting.{are_fit}

-- the jump from a site to its piece
abbrev pub site_patch : Site → Patch
site_patch s = record { at = s.at; word = word_of (jump s.at s.to) }

abbrev pub site_patches : List Site → List Patch
site_patches sites = map site_patch sites

module _ (image : Image) where
  abbrev pub pieces_bytes : (base : ℕ) → List Piece → List ℕ
  pieces_bytes base pieces = flat_map (λ i. little 4 (word_of i)) (pieces_code image base pieces)

  abbrev pub versioned_file : (base : ℕ) → List Piece → List Site → List ℕ
  versioned_file base pieces sites = added_file image.file (site_patches sites) base (pieces_bytes base pieces)

-- an image without a keyed segment, and the one that is made of it with pieces and sites that fit
pub record IsVersioned (image versioned : Image) (pieces : List Piece) (sites : List Site) (base : ℕ) : Type 0 where
  pub read : image_of image.file ≡ Ok image
  pub short : length image.file ≤ IMAGE_LIMIT
  pub bytes : All (λ b. b < 2 ^ 8) image.file
  pub few : length pieces ≤ 4096
  pub room : is_full image.file ≡ false
  pub no_key : image.keyed_segment ≡ None
  pub place : IsStubBase image (4 * length (pieces_code image base pieces)) base
  pub fit : are_fit image pieces sites base ≡ true
  pub made : versioned.file ≡ versioned_file image base pieces sites
  pub read_too : image_of versioned.file ≡ Ok versioned
