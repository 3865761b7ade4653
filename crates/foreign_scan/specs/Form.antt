-- The form of a stub that stands anywhere in the keyed segment of an image.
use Rattle.std.specs.Prelude.{◌≡◌, ℕ, ℤ, ◌+◌, ◌*◌, ◌%◌, ◌^◌, ◌<◌, ◌≤◌, true, List, [], ◌∷◌, length, Some, All}
use Rattle.std.specs.List.{sum_by, flat_map}
use Rattle.scale_base.specs.declared.instruction.Instr.{Instr}
use Rattle.scale_base.specs.declared.instruction.Instr.TheVariants as instr
use Rattle.scale_base.specs.Arith.{plus, moved_by}
use Rattle.scale_base.specs.Image.{Image, loaded_byte}
use Rattle.scale_base.specs.Layout.{layout_of, is_keyed}
use Rattle.scale_base.specs.Reading.{instr_of}
use Rattle.scale_base.specs.State.{word_at}
use Rattle.scale_base.specs.declared.edges.EdgeKind.{EdgeKind}
use Rattle.scale_base.specs.declared.edges.EdgeKind.TheVariants.{Taken, Untaken, Jump}
use Rattle.stub_writer.specs.Fragments.{switch_code, exit_code, reset_code, count_code, IsShadow}
use Rattle.foreign_scan.specs.declared.fragment.ForeignFragment.{ForeignFragment}
use Rattle.foreign_scan.specs.declared.fragment.ForeignFragment.TheVariants.{Switch, Exit, Reset, Count}

-- ---- words and code in the keyed segment

-- the address is a multiple of 4, and the four bytes of its word lie in the keyed segment
abbrev pub IsKeyWord : Image → ℕ → Type 0
IsKeyWord image at = (at % 4 ≡ 0) × ((j : ℕ) → j < 4 → is_keyed (layout_of image) (at + j) ≡ true)

-- the instruction stands there
pub record HoldsAt (image : Image) (at : ℕ) (i : Instr) : Type 0 where
  pub key : IsKeyWord image at
  pub reads : instr_of (word_at (loaded_byte image) at) ≡ Some i

-- the instructions stand there one after another
abbrev pub Hold : Image → ℕ → List Instr → Type 0
Hold image at [] = Unit {0}
Hold image at (i ∷ is) = HoldsAt image at i × Hold image (at + 4) is

-- ---- fragments

abbrev pub foreign_code : ForeignFragment → List Instr
foreign_code (Switch word) = switch_code word
foreign_code (Exit counter shift table) = exit_code counter shift table
foreign_code (Reset counter) = reset_code counter
foreign_code (Count counter) = count_code counter

abbrev pub foreign_len : ForeignFragment → ℕ
foreign_len f = length (foreign_code f)

-- its counter is a shadow counter, and its numbers fit
abbrev pub IsForeign : ForeignFragment → Type 0
IsForeign (Switch word) = word < 2 ^ 32
IsForeign (Exit counter shift table) = IsShadow counter × (shift < 32) × (table < 2 ^ 32)
IsForeign (Reset counter) = IsShadow counter
IsForeign (Count counter) = IsShadow counter

-- a fragment that chooses no level
abbrev pub ChoosesNone : ForeignFragment → Type 0
ChoosesNone (Switch word) = ⊥
ChoosesNone (Exit counter shift table) = ⊥
ChoosesNone (Reset counter) = Unit {0}
ChoosesNone (Count counter) = Unit {0}

-- at most the first one chooses a level
abbrev pub FirstChooses : List ForeignFragment → Type 0
FirstChooses [] = Unit {0}
FirstChooses (f ∷ fs) = All ChoosesNone fs

-- where the fragments end that begin at an address
abbrev pub behind_fragments : ℕ → List ForeignFragment → ℕ
behind_fragments at fs = at + 4 * sum_by foreign_len fs

-- a jump that links no register, and goes to an address
pub record JumpsTo (image : Image) (at to : ℕ) : Type 0 where
  pub offset : ℤ
  pub jump : HoldsAt image at (instr.Jal 0 offset)
  pub there : moved_by at offset ≡ to

-- The run-out of an edge to an address: its fragments, and a jump there.
pub record IsRunOut (image : Image) (at to : ℕ) (fs : List ForeignFragment) : Type 0 where
  pub few : length fs ≤ 64
  pub first : FirstChooses fs
  pub foreign : All IsForeign fs
  pub code : Hold image at (flat_map foreign_code fs)
  pub jump : JumpsTo image (behind_fragments at fs) to

-- ---- stubs

-- the branch again, to another address of the keyed segment, where the run-out of the taken edge stands
pub record IsFork (image : Image) (v stub : ℕ) (branch : ℤ → Instr) (to : ℕ) (if_untaken if_taken : List ForeignFragment) : Type 0 where
  pub offset : ℤ
  pub again : HoldsAt image stub (branch offset)
  pub passed : IsRunOut image (stub + 4) (plus v 4) if_untaken
  pub taken : IsRunOut image (moved_by stub offset) to if_taken

-- The stub at an address of the instruction at v, with the fragments of each edge of it.
abbrev pub IsStub : Image → (v stub : ℕ) → Instr → (EdgeKind → List ForeignFragment) → Type 0
IsStub image v stub (instr.Branch op rs1 rs2 offset) found = IsFork image v stub (instr.Branch op rs1 rs2) (moved_by v offset)
    (found Untaken) (found Taken)
IsStub image v stub (instr.Jal rd offset) found = IsRunOut image stub (moved_by v offset) (found Jump)
IsStub image v stub i found = ⊥

-- the rows of a table from an address on
abbrev pub AreRowsIn : Image → (table rows : ℕ) → Type 0
AreRowsIn image table rows = (j : ℕ) → j < rows → IsKeyWord image (table + 4 * j)
