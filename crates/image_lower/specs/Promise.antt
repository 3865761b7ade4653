-- What stands where an image was lowered: the file, the numbers that are printed, and what the lowered image's runs are.
use Rattle.std.specs.Prelude.{◌≡◌, ℕ, List, Result, Ok}
use Rattle.scale_base.specs.declared.refusal.Refusal.{Refusal}
use Rattle.scale_base.specs.Image.{Image, image_of}
use Rattle.scale_base.specs.Run.{run_of}
use Rattle.elf_patch.specs.Stored.{IsStubBase}
use Rattle.jump_lists.specs.declared.notes.JumpNote.{JumpNote}
use Rattle.jump_lists.specs.Jumps.{read_jumps}
use Rattle.scale_base.specs.declared.summary.Lowered.{Lowered}
use Rattle.image_lower.specs.Block.{block_len}
use Rattle.image_lower.specs.Lowered.{IsLowered, lowered_file, summary}
use Rattle.image_lower.specs.Meets.{KeepsToLists, FollowsLowered}

-- The bytes of an image and of a jump file, and those that were stored with the numbers that were printed: the images and the notes that
-- they are, and that the lowered run follows each original run that keeps to the lists, at some number of its own steps.
pub record IsLoweredSafely (image jumps stored : List ℕ) (counts : Lowered) : Type 0 where
  pub original : Image
  pub lowered : Image
  pub notes : List JumpNote
  pub base : ℕ
  pub original_is : image_of image ≡ Ok original
  pub lowered_is : image_of stored ≡ Ok lowered
  pub notes_are : read_jumps jumps ≡ Ok notes
  pub base_is : IsStubBase original (block_len original notes) base
  pub file_is : stored ≡ lowered_file original base notes
  pub printed : counts ≡ summary original notes
  pub runs : (levels : ℕ) (input : List ℕ) (n : ℕ) → KeepsToLists original notes base levels input n →
      (m : ℕ) × FollowsLowered original lowered notes base (run_of original levels input n) (run_of lowered levels input m)

-- Two answers that may be given for the same files are the same.
abbrev pub LoweredAnswersAgree : Type 0
LoweredAnswersAgree = (image jumps : List ℕ) (one other : Result (List ℕ × Lowered) Refusal) → IsLowered image jumps one →
    IsLowered image jumps other → one ≡ other
