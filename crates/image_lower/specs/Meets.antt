-- Runs that keep to the lists of a jump file, and what the run of the lowered image is then.
use Rattle.std.specs.Prelude.{◌≡◌, ℕ, ◌+◌, ◌*◌, ◌^◌, ◌<◌, ◌≤◌, max, nat_le, nat_lt, ◌==◌, ◌&&◌, Bool, false, List, length, count_by, All, None, Ok, is_some, true}
use Rattle.std.specs.List.{Contains, list_any}
use Rattle.scale_base.specs.declared.limits.TheConstants.{IMAGE_LIMIT}
use Rattle.scale_base.specs.declared.stepping.Class.{Class}
use Rattle.scale_base.specs.declared.stepping.Class.TheVariants.{Alu, Taken, Untaken, Jump}
use Rattle.scale_base.specs.declared.stepping.Stepped.{Stepped}
use Rattle.scale_base.specs.Image.{Image, image_of}
use Rattle.scale_base.specs.Layout.{in_text, layout_of}
use Rattle.scale_base.specs.State.{State, reg}
use Rattle.scale_base.specs.Run.{Run, Standing, GoesOn, HasExited, HasTrapped, run_of}
use Rattle.elf_patch.specs.Stored.{IsStubBase}
use Rattle.stored_runs.specs.Cycles.{stepped_cycles}
use Rattle.jump_lists.specs.declared.notes.JumpNote.{JumpNote}
use Rattle.jump_lists.specs.Notes.{AreJumpNotes}
use Rattle.scale_base.specs.declared.summary.Lowered.{Lowered}
use Rattle.image_lower.specs.FarJumps.{far_jump}
use Rattle.image_lower.specs.Block.{register, block_len, greatest_depth}
use Rattle.image_lower.specs.Lowered.{lowered_at, no_bad_jump}

-- an address lies in the block
abbrev pub in_block : (base len : ℕ) → ℕ → Bool
in_block base len v = nat_le base v && nat_lt v (base + len)

module _ (image : Image) (notes : List JumpNote) (base : ℕ) where
  -- where a state stands at a noted jump, its register holds one of the targets
  abbrev pub HoldsTarget : State → JumpNote → Type 0
  HoldsTarget s note = s.pc ≡ note.at → Contains note.targets (reg s.regs (register image note))

  -- The first n steps of a run keep to the lists: each step to the second word of a far jump comes from its first, the register of each
  -- noted jump holds one of its targets, and no step goes into the block.
  pub record KeepsToLists (levels : ℕ) (input : List ℕ) (n : ℕ) : Type 0 where
    pub pairs : All (λ x. is_some (far_jump image notes x.next) ≡ true → x.pc + 4 ≡ x.next) (run_of image levels input n).steps
    pub targets : (m : ℕ) → m < n → (run_of image levels input m).standing ≡ GoesOn →
        All (HoldsTarget (run_of image levels input m).state) notes
    pub outside : All (λ x. in_block base (block_len image notes) x.next ≡ false) (run_of image levels input n).steps

-- ---- the two runs

-- the states of the two runs are the same but for the bytes in the text of either image
pub record AreSameStates (image lowered : Image) (s t : State) : Type 0 where
  pub pc : t.pc ≡ s.pc
  pub regs : t.regs ≡ s.regs
  pub bytes : (a : ℕ) → in_text (layout_of image) a ≡ false → in_text (layout_of lowered) a ≡ false → t.bytes a ≡ s.bytes a
  pub window : t.window ≡ s.window
  pub used : t.used ≡ s.used
  pub output : t.output ≡ s.output

-- it stands at a noted jump
abbrev pub is_noted_jump : List JumpNote → ℕ → Bool
is_noted_jump notes v = list_any (λ n. n.at == v) notes

-- How the lowered run stands where the raw one has come so far. A trap says nothing where it is at a noted jump or in the block.
abbrev pub IsSoFar : Image → Image → List JumpNote → ℕ → Run → Run → Standing → Type 0
IsSoFar image lowered notes base raw low GoesOn = (low.standing ≡ GoesOn) × AreSameStates image lowered raw.state low.state
IsSoFar image lowered notes base raw low (HasExited status) = (low.standing ≡ HasExited status) × (low.state.output ≡ raw.state.output)
IsSoFar image lowered notes base raw low (HasTrapped trap) =
    is_noted_jump notes raw.state.pc ≡ false → in_block base (block_len image notes) raw.state.pc ≡ false →
    (low.standing ≡ HasTrapped trap) × (low.state.output ≡ raw.state.output)

-- what a tree of a depth costs at most
abbrev pub tree_cycles : (Class → ℕ) → ℕ → ℕ
tree_cycles costs depth = depth * (costs Alu + max (costs Taken) (costs Untaken)) + 2 * costs Alu + costs Jump

-- how many steps were those of noted jumps
abbrev pub jumps_taken : List JumpNote → List Stepped → ℕ
jumps_taken notes xs = count_by (λ x. is_noted_jump notes x.pc) xs

-- the lowered run, at a number of its steps
pub record FollowsLowered (image lowered : Image) (notes : List JumpNote) (base : ℕ) (raw low : Run) : Type 0 where
  pub standing : IsSoFar image lowered notes base raw low raw.standing
  pub cycles : (costs : Class → ℕ) → stepped_cycles costs low.steps ≤ stepped_cycles costs raw.steps + jumps_taken notes raw.steps *
      tree_cycles costs (greatest_depth notes)

-- ---- the law

-- an image without a keyed segment, and the one that is stored of it with these notes
pub record IsLoweredTo (image : Image) (notes : List JumpNote) (base : ℕ) (lowered : Image) : Type 0 where
  pub read : image_of image.file ≡ Ok image
  pub short : length image.file ≤ IMAGE_LIMIT
  pub bytes : All (λ b. b < 2 ^ 8) image.file
  pub no_key : image.keyed_segment ≡ None
  pub noted : AreJumpNotes notes
  pub good : no_bad_jump image notes ≡ Ok tt
  pub place : IsStubBase image (block_len image notes) base
  pub counts : Lowered
  pub made : lowered_at image base notes ≡ Ok ((lowered.file, counts))
  pub lowered_read : image_of lowered.file ≡ Ok lowered

-- The lowered image follows each run of the raw one that keeps to the lists, at some number of its own steps.
abbrev pub LoweredRunsFollow : Type 0
LoweredRunsFollow =
    (image lowered : Image) (notes : List JumpNote) (base levels : ℕ) (input : List ℕ) (n : ℕ) → IsLoweredTo image notes base lowered →
    KeepsToLists image notes base levels input n →
    (m : ℕ) × FollowsLowered image lowered notes base (run_of image levels input n) (run_of lowered levels input m)
