-- What `lower` gives: a file in which near jumps stand for far ones and trees of comparisons for noted jumps, or the first refusal.
use Rattle.std.specs.Prelude.{◌≡◌, ℕ, ◌==◌, ◌&&◌, Bool, List, [], ◌∷◌, ◌++◌, length, Option, Some, None, Result, Ok, Err, if◌then◌else◌}
use Rattle.scale_base.specs.declared.ranges.Keyed.{Keyed}
use Rattle.scale_base.specs.declared.ranges.Patch.{Patch}
use Rattle.scale_base.specs.declared.refusal.Refusal.{Refusal}
use Rattle.scale_base.specs.declared.refusal.Refusal.TheVariants.{AlreadyScaled, BadJump, NoRoom, LowerOutOfReach}
use Rattle.scale_base.specs.Elf.{e_shnum, has_sections}
use Rattle.scale_base.specs.Image.{Image, image_of}
use Rattle.elf_view.specs.Refused.{refusal_number}
use Rattle.table_keys.specs.Keys.{◌>>=◌}
use Rattle.elf_patch.specs.Stored.{IsStubBase, patched}
use Rattle.elf_patch.specs.Added.{added_file}
use Rattle.jump_lists.specs.declared.notes.JumpNote.{JumpNote}
use Rattle.jump_lists.specs.Jumps.{read_jumps}
use Rattle.scale_base.specs.declared.summary.Lowered.{Lowered}
use Rattle.image_lower.specs.FarJumps.{far_patches}
use Rattle.image_lower.specs.Block.{is_bad, least_address, ascending_notes, tree_patches, tree_out_of_reach, trees_bytes, block_len, greatest_depth}

-- the refusal of an address, where there is one
abbrev pub refuse_at : (ℕ → Refusal) → Option ℕ → Result (Unit {0}) Refusal
refuse_at refuse None = Ok tt
refuse_at refuse (Some at) = Err (refuse at)

-- the image has no keyed segment
abbrev pub not_scaled : Option Keyed → Result (Unit {0}) Refusal
not_scaled None = Ok tt
not_scaled (Some keyed) = Err AlreadyScaled

-- the file made is an image again
abbrev pub roomy : Result Image Refusal → Result (Unit {0}) Refusal
roomy (Ok image) = Ok tt
roomy (Err refusal) = Err (NoRoom (refusal_number refusal))

-- the file made and what was lowered, where the file is an image again
unfoldable pub finished : List ℕ → Lowered → Result (List ℕ × Lowered) Refusal
finished file counts = roomy (image_of file) >>= λ _. Ok ((file, counts))

-- a section header that is added needs a number of its own
abbrev pub is_full : List ℕ → Bool
is_full file = has_sections file && (e_shnum file == 65535)

abbrev pub not_full : List ℕ → Result (Unit {0}) Refusal
not_full file = if is_full file then Err (NoRoom 2) else Ok tt

module _ (image : Image) where
  -- the words that are replaced, where the trees begin at a base
  abbrev pub all_patches : (base : ℕ) → List JumpNote → List Patch
  all_patches base notes = far_patches image notes ++ tree_patches image base (ascending_notes notes)

  -- the file made
  abbrev pub lowered_file : (base : ℕ) → List JumpNote → List ℕ
  lowered_file base [] = patched image.file (far_patches image [])
  lowered_file base (n ∷ ns) = added_file image.file (all_patches base (n ∷ ns)) base (trees_bytes image base (n ∷ ns))

  -- where trees are added, they are in reach, and there is a number for their section
  abbrev pub trees_fit : (base : ℕ) → List JumpNote → Result (Unit {0}) Refusal
  trees_fit base [] = Ok tt
  trees_fit base (n ∷ ns) = refuse_at LowerOutOfReach (tree_out_of_reach image base (ascending_notes (n ∷ ns))) >>= λ _. not_full image.file

  -- what was lowered
  abbrev pub summary : List JumpNote → Lowered
  summary notes = record {
    pairs = length (far_patches image notes);
    jumps = length notes;
    block = block_len image notes;
    depth = greatest_depth notes;
  }

  -- what notes give, with their block at a base
  unfoldable pub lowered_at : (base : ℕ) → List JumpNote → Result (List ℕ × Lowered) Refusal
  lowered_at base notes = trees_fit base notes >>= λ _. finished (lowered_file base notes) (summary notes)

  abbrev pub no_bad_jump : List JumpNote → Result (Unit {0}) Refusal
  no_bad_jump notes = refuse_at BadJump (least_address (is_bad image notes) notes)

-- a part that may refuse, and what follows it
abbrev pub AfterPart : {A B : Type 0} → Result A Refusal → (A → Result B Refusal → Type 0) → Result B Refusal → Type 0
AfterPart (Err refusal) next answer = answer ≡ Err refusal
AfterPart (Ok part) next answer = next part answer

-- the block stands at the stub base
pub record IsLoweredImage (image : Image) (notes : List JumpNote) (answer : Result (List ℕ × Lowered) Refusal) : Type 0 where
  pub base : ℕ
  pub base_is : IsStubBase image (block_len image notes) base
  pub answer_is : answer ≡ lowered_at image base notes

-- The stored bytes and what was lowered, or the first refusal: of the jump file, of the image, of a keyed segment, of a noted jump, of the
-- reach of a tree, and of the file made.
unfoldable pub IsLowered : List ℕ → List ℕ → Result (List ℕ × Lowered) Refusal → Type 0
IsLowered image jumps answer =
    AfterPart (read_jumps jumps) (λ notes.
    AfterPart (image_of image) (λ original.
    AfterPart (not_scaled original.keyed_segment) (λ _.
    AfterPart (no_bad_jump original notes) (λ _.
    IsLoweredImage original notes)))) answer
