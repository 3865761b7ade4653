-- What drafting the jump file of an image answers.
use Rattle.std.specs.Prelude.{◌≡◌, ◌⊎◌, ℕ, ◌≤◌, List, length, map, string_bytes, Some, None, Result, Ok, Err}
use Rattle.scale_base.specs.declared.limits.TheConstants.{FILE_LIMIT, IMAGE_LIMIT}
use Rattle.scale_base.specs.declared.ranges.Keyed.{Keyed}
use Rattle.scale_base.specs.declared.refusal.Refusal.{Refusal}
use Rattle.scale_base.specs.declared.refusal.Refusal.TheVariants.{AlreadyScaled, LowerOutOfReach, NoRoom}
use Rattle.scale_base.specs.declared.summary.Lowered.{Lowered}
use Rattle.scale_base.specs.Image.{Image, image_of}
use Rattle.jump_lists.specs.declared.notes.JumpNote.{JumpNote}
use Rattle.jump_lists.specs.Jumps.{read_jumps}
use Rattle.image_lower.specs.Lowered.{IsLowered}
use Rattle.jump_proofs.specs.declared.proof.JumpProof.{JumpProof}
use Rattle.jump_proofs.specs.Proved.{IsProofOf}
use Rattle.jump_drafts.specs.declared.draft.JumpDraft.{JumpDraft}
use Rattle.jump_drafts.specs.Jumps.{AreListed, left_of}

-- `lower` takes a jump file: it makes a file, or refuses for want of room or of reach
abbrev pub IsTaken : Result (List ℕ × Lowered) Refusal → Type 0
IsTaken (Ok made) = Unit {0}
IsTaken (Err refusal) = ((at : ℕ) × (refusal ≡ LowerOutOfReach at)) ⊎ ((rule : ℕ) × (refusal ≡ NoRoom rule))

pub record IsLowerable (image jumps : List ℕ) : Type 0 where
  pub answer : Result (List ℕ × Lowered) Refusal
  pub lowered : IsLowered image jumps answer
  pub taken : IsTaken answer

-- the bytes of a file that isn't too long are read as notes
pub record IsReadAs (file : List ℕ) (notes : List JumpNote) : Type 0 where
  pub short : length file ≤ FILE_LIMIT
  pub read : read_jumps file ≡ Ok notes

-- what is proved of notes, where the bytes are those of the image that is lowered by them
abbrev pub IsImageProved : Image → List ℕ → List JumpNote → JumpProof → Type 0
IsImageProved original bytes notes proof = (lowered : Image) → image_of bytes ≡ Ok lowered → IsProofOf original lowered notes proof

-- the same of the bytes that `lower` stores by a file
abbrev pub IsFileProved : Image → List ℕ → List JumpNote → JumpProof → Type 0
IsFileProved original file notes proof = (stored : List ℕ) (counts : Lowered) → IsLowered original.file file (Ok ((stored, counts))) →
    IsImageProved original stored notes proof

-- The draft of an image's jump file: its bytes are read as its notes; each of these is of a jump through a register of the text that is no return, whose
-- targets are those of a table in bytes that no store can change; all others are there, too; `lower` takes the file; and what is said to be proved of the
-- notes is so of the image that it stores.
pub record IsDraftOf (original : Image) (draft : JumpDraft) : Type 0 where
  pub read : IsReadAs (string_bytes draft.file) draft.notes
  pub listed : AreListed original draft.notes draft.tables.items
  pub others : map (λ other. other.at) draft.others.items ≡ left_of original draft.notes
  pub lowerable : length original.file ≤ IMAGE_LIMIT → IsLowerable original.file (string_bytes draft.file)
  pub proved : IsFileProved original (string_bytes draft.file) draft.notes draft.proof

-- for the image of a file: the draft, or the refusal of its keyed segment
abbrev pub IsImageDrafted : Image → Result JumpDraft Refusal → Type 0
IsImageDrafted original (Ok draft) = (original.keyed_segment ≡ None) × IsDraftOf original draft
IsImageDrafted original (Err refusal) = (keyed : Keyed) × (original.keyed_segment ≡ Some keyed) × (refusal ≡ AlreadyScaled)

-- the draft, or the first refusal: of the file, or of its image
abbrev pub AreJumpsDrafted : List ℕ → Result JumpDraft Refusal → Type 0
AreJumpsDrafted image (Ok draft) = (original : Image) × (image_of image ≡ Ok original) × IsImageDrafted original (Ok draft)
AreJumpsDrafted image (Err refusal) = (image_of image ≡ Err refusal) ⊎ ((original : Image) × (image_of image ≡ Ok original) ×
    IsImageDrafted original (Err refusal))
