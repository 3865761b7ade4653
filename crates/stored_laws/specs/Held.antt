-- Scaffold: an image that is held at one level: it is stored with an empty block and no patch.
use Rattle.std.specs.Prelude.{◌≡◌, ℕ, ◌≤◌, ◌<◌, ◌^◌, List, [], length, Some, None, Ok}
use Rattle.scale_base.specs.declared.limits.TheConstants.{IMAGE_LIMIT}
use Rattle.scale_base.specs.Image.{Image, image_of, contents, loaded_byte}
use Rattle.scale_base.specs.Layout.{layout_of}
use Rattle.elf_patch.specs.Stored.{stored_image, held_base}

-- the file stored with an empty block at the base, and with this starting level
abbrev pub empty_block_file : List ℕ → ℕ → ℕ → List ℕ
empty_block_file file base start = stored_image file [] base [] start

-- `held` is what that file is the image of: it runs the same program
pub record IsHeldImage (file : List ℕ) (image : Image) (base start : ℕ) (held : Image) : Type 0 where
  pub accepted : image_of (empty_block_file file base start) ≡ Ok held
  pub entry : held.entry ≡ image.entry
  pub bytes : loaded_byte held ≡ loaded_byte image
  pub layout : layout_of held ≡ record (layout_of image) { keyed = Some (record { from = base; to = base }) }
  pub keyed : held.keyed_segment ≡ Some (record { range = record { from = base; to = base }; start = start })
  pub text : held.text ≡ image.text

-- Something is so of every accepted image without a key that a file of at most 4,194,304 bytes gives, and of what it is when it is held at
-- a starting level: of the file, its image, the base of the empty block, the level, and the held image.
abbrev pub OfHeldImages : (List ℕ → Image → ℕ → ℕ → Image → Type 0) → Type 0
OfHeldImages P =
    (file : List ℕ) (image : Image) (start : ℕ) → image_of file ≡ Ok image → image.keyed_segment ≡ None → length file ≤ IMAGE_LIMIT →
    start < 2 ^ 32
    → P file image (held_base image) start (contents (empty_block_file file (held_base image) start))
