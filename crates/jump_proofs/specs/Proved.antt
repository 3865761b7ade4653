-- Noted jumps of which it is proved that runs keep to their lists.
use Rattle.std.specs.Prelude.{◌≡◌, ℕ, ◌+◌, ◌<◌, ◌≤◌, is_some, Bool, true, false, All, List, count_by, length, slice_get, Some}
use Rattle.std.specs.List.{Contains}
use Rattle.scale_base.specs.declared.summary.Lowered.{Lowered}
use Rattle.scale_base.specs.Image.{Image}
use Rattle.scale_base.specs.State.{reg}
use Rattle.scale_base.specs.Run.{GoesOn, run_of}
use Rattle.graph_runs.specs.KeptRuns.{most_returns}
use Rattle.graph_runs.specs.RunTransitions.{returns_so}
use Rattle.jump_lists.specs.declared.notes.JumpNote.{JumpNote}
use Rattle.image_lower.specs.Block.{block_len, register}
use Rattle.image_lower.specs.FarJumps.{far_jump}
use Rattle.image_lower.specs.Meets.{HoldsTarget, KeepsToLists, in_block}
use Rattle.image_lower.specs.Promise.{IsLoweredSafely}
use Rattle.jump_proofs.specs.declared.proof.JumpProof.{JumpProof}

abbrev pub AreBytes : List ℕ → Type 0
AreBytes bytes = All (λ x. x < 256) bytes

-- On every input and for every n: where the lowered image's run has gone back from its calls so far, goes on and stands where the jump stood, the jump's
-- register holds one of the targets.
abbrev pub IsJumpProved : Image → Image → JumpNote → Type 0
IsJumpProved original lowered note = (levels : ℕ) (input : List ℕ) (n : ℕ) (rs : List ℕ) → AreBytes input →
    returns_so (run_of lowered levels input n).steps ≡ Some rs → (run_of lowered levels input n).standing ≡ GoesOn →
    (run_of lowered levels input n).state.pc ≡ note.at → Contains note.targets
    (reg (run_of lowered levels input n).state.regs (register original note))

-- each note that has a flag is proved so
abbrev pub AreJumpsProved : Image → Image → List JumpNote → List Bool → Type 0
AreJumpsProved original lowered notes flags = (k : ℕ) (note : JumpNote) → slice_get notes k ≡ Some note → slice_get flags k ≡ Some true →
    IsJumpProved original lowered note

-- On every input each return of the image's run goes back behind its call, and calls are never too deep.
abbrev pub RunsGoBack : Image → Type 0
RunsGoBack image = (levels : ℕ) (input : List ℕ) (n : ℕ) → AreBytes input → (rs : List ℕ) ×
    (returns_so (run_of image levels input n).steps ≡ Some rs) × (length rs ≤ most_returns)

-- how many notes have a flag
abbrev pub proved_count : JumpProof → ℕ
proved_count proof = count_by (λ flag. flag) proof.jumps.items

-- What is proved of the notes of an image, and of the image that is lowered by them.
pub record IsProofOf (original lowered : Image) (notes : List JumpNote) (proof : JumpProof) : Type 0 where
  pub jumps : AreBytes lowered.file → AreJumpsProved original lowered notes proof.jumps.items
  pub returns : AreBytes lowered.file → proof.returns ≡ true → RunsGoBack lowered

-- Where returns are proved, no run of the original leaves the list of a proved jump before it leaves the lists elsewhere: on every input and for every n, where
-- its first n steps keep to the lists and it goes on, the register of each proved jump holds one of its targets.
abbrev pub ProvedJumpsKeepLists : Type 0
ProvedJumpsKeepLists = (image jumps stored : List ℕ) (counts : Lowered) (safe : IsLoweredSafely image jumps stored counts)
    (proof : JumpProof) → AreBytes stored → IsProofOf safe.original safe.lowered safe.notes proof → proof.returns ≡ true →
    (k : ℕ) (note : JumpNote) → slice_get safe.notes k ≡ Some note → slice_get proof.jumps.items k ≡ Some true →
    (levels : ℕ) (input : List ℕ) (n : ℕ) → AreBytes input → KeepsToLists safe.original safe.notes safe.base levels input n →
    (run_of safe.original levels input n).standing ≡ GoesOn →
    HoldsTarget safe.original safe.notes safe.base (run_of safe.original levels input n).state note

-- The first n steps of a run keep to what the lists don't say: each step to the second word of a far jump comes from its first, and no step goes into the trees.
pub record KeepsElsewhere (image : Image) (notes : List JumpNote) (base levels : ℕ) (input : List ℕ) (n : ℕ) : Type 0 where
  pub pairs : All (λ x. is_some (far_jump image notes x.next) ≡ true → x.pc + 4 ≡ x.next) (run_of image levels input n).steps
  pub outside : All (λ x. in_block base (block_len image notes) x.next ≡ false) (run_of image levels input n).steps

-- Where all notes are proved as well, every run of the original that keeps to the rest keeps to the lists, on every input.
abbrev pub AllProvedRunsKeepLists : Type 0
AllProvedRunsKeepLists = (image jumps stored : List ℕ) (counts : Lowered) (safe : IsLoweredSafely image jumps stored counts)
    (proof : JumpProof) → AreBytes stored → IsProofOf safe.original safe.lowered safe.notes proof → proof.returns ≡ true →
    ((k : ℕ) → k < length safe.notes → slice_get proof.jumps.items k ≡ Some true) →
    (levels : ℕ) (input : List ℕ) (n : ℕ) → AreBytes input → KeepsElsewhere safe.original safe.notes safe.base levels input n →
    KeepsToLists safe.original safe.notes safe.base levels input n
