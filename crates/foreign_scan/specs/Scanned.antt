-- What a scan finds in an image of other make, and which of its causes holds first. The first ones speak of the image beside the original, the last one of the stubs.
use Rattle.std.specs.Prelude.{◌≡◌, ◌≢◌, ◌⊎◌, ℕ, ℤ, ◌+◌, ◌/◌, ◌%◌, ◌^◌, ◌<◌, Bool, true, false, not, ◌==◌, List, [], map, filter, slice_get, Some, None}
use Rattle.scale_base.specs.declared.instruction.Instr.{Instr}
use Rattle.scale_base.specs.declared.instruction.Instr.TheVariants as instr
use Rattle.scale_base.specs.Arith.{moved_by}
use Rattle.scale_base.specs.Image.{Image, LoadSegment, loaded_byte, is_word_address}
use Rattle.scale_base.specs.Layout.{layout_of, is_plain_segment, in_text, is_keyed}
use Rattle.scale_base.specs.Reading.{instr_of}
use Rattle.scale_base.specs.State.{word_at}
use Rattle.scale_base.specs.declared.edges.Edge.{Edge}
use Rattle.scale_base.specs.declared.edges.EdgeKind.{EdgeKind}
use Rattle.scale_base.specs.declared.edges.EdgeKind.TheVariants.{Taken, Untaken, Jump, Next, CallNext, End}
use Rattle.cost_theory.specs.Graph.{Loops, is_back}
use Rattle.cost_theory.specs.Reached.{Code}
use Rattle.code_text.specs.Text.{text_of, instr_at}
use Rattle.code_text.specs.TextGraph.{text_graph}
use Rattle.foreign_scan.specs.declared.fragment.ForeignFragment.{ForeignFragment}
use Rattle.foreign_scan.specs.declared.fragment.ForeignFragment.TheVariants.{Exit, Count}
use Rattle.scale_base.specs.declared.verdict.Why.{Why}
use Rattle.scale_base.specs.declared.verdict.Why.TheVariants as why
pub use Rattle.foreign_scan.specs.declared.layout.SegmentPlace.{SegmentPlace}
use Rattle.foreign_scan.specs.Form.{IsStub, AreRowsIn}

-- ---- the image beside the original

-- the place, the length and the flags of a segment
abbrev pub segment_place : LoadSegment → SegmentPlace
segment_place s = record { from = s.from; len = s.len; flags = s.flags }

-- the places of the segments without the key
abbrev pub segment_places : Image → List SegmentPlace
segment_places image = map segment_place (filter is_plain_segment image.segments)

-- one entry, one list of segments without the key, and the same text ranges
pub record IsLaidAlike (original foreign : Image) : Type 0 where
  pub entry : foreign.entry ≡ original.entry
  pub segments : segment_places foreign ≡ segment_places original
  pub text : foreign.text ≡ original.text

-- a loaded byte outside the text and the key that isn't the original's
pub record IsOddByte (original foreign : Image) (a : ℕ) : Type 0 where
  pub text : in_text (layout_of original) a ≡ false
  pub key : is_keyed (layout_of foreign) a ≡ false
  pub differs : loaded_byte foreign a ≢ loaded_byte original a

-- whether the word of the text at an address isn't the original's
abbrev pub is_changed : Image → Image → ℕ → Bool
is_changed original foreign at = not (word_at (loaded_byte foreign) at == word_at (loaded_byte original) at)

-- a branch, or a jump that links no register
abbrev pub CanBePatched : Instr → Type 0
CanBePatched (instr.Branch op rs1 rs2 offset) = Unit {0}
CanBePatched (instr.Jal rd offset) = rd ≡ 0
CanBePatched i = ⊥

-- the word at an address of the text is changed
abbrev pub IsChanged : Image → Image → ℕ → Type 0
IsChanged original foreign at = (is_word_address original at ≡ true) × (is_changed original foreign at ≡ true)

-- A changed word is patched: the address is a node with a branch or a jump that links no register, and the new word is such a jump to a multiple of 4 in the
-- keyed segment.
pub record IsPatch (original foreign : Image) (code : Code) (at : ℕ) : Type 0 where
  pub node : (k : ℕ) × (slice_get code.nodes k ≡ Some at)
  pub old_instr : Instr
  pub old : instr_at (text_of original) at ≡ Some old_instr
  pub can_be : CanBePatched old_instr
  pub offset : ℤ
  pub new : instr_of (word_at (loaded_byte foreign) at) ≡ Some (instr.Jal 0 offset)
  pub even : moved_by at offset % 4 ≡ 0
  pub key : is_keyed (layout_of foreign) (moved_by at offset) ≡ true

-- ---- the stubs

-- the fragments of the edges, by the address and the kind of an edge
abbrev pub Found : Type 0
Found = ℕ → EdgeKind → List ForeignFragment

-- the stub of a patched instruction keeps all rules but the one on rows
abbrev pub KeepsForm : (original foreign : Image) (code : Code) → Found → ℕ → Type 0
KeepsForm original foreign code found at = (p : IsPatch original foreign code at) →
    IsStub foreign at (moved_by at p.offset) p.old_instr (found at)

-- a fragment stands on an edge
abbrev pub IsOn : ForeignFragment → List ForeignFragment → Type 0
IsOn f fs = (i : ℕ) × (slice_get fs i ≡ Some f)

-- a count of the counter stands on a back edge of loop k, in a stub that keeps those rules
pub record IsCountedAt (original foreign : Image) (code : Code) (l : Loops) (found : Found) (counter k e : ℕ) (edge : Edge) : Type 0 where
  pub there : slice_get code.edges e ≡ Some edge
  pub low : k < l.loops
  pub back : is_back (text_graph (text_of original) code) l k e ≡ true
  pub changed : IsChanged original foreign edge.at
  pub form : KeepsForm original foreign code found edge.at
  pub counts : IsOn (Count counter) (found edge.at edge.kind)

-- one edge comes before another: by address, and at one address the untaken edge before the taken one
abbrev pub kind_place : EdgeKind → ℕ
kind_place Taken = 1
kind_place Untaken = 0
kind_place Jump = 0
kind_place Next = 0
kind_place CallNext = 0
kind_place End = 0

abbrev pub ComesBefore : Edge → Edge → Type 0
ComesBefore d e = (d.at < e.at) ⊎ ((d.at ≡ e.at) × (kind_place d.kind < kind_place e.kind))

-- the loop of a counter, for the rule on rows: the one that is counted first
pub record IsFirstCounted (original foreign : Image) (code : Code) (l : Loops) (found : Found) (counter k : ℕ) : Type 0 where
  pub e : ℕ
  pub edge : Edge
  pub counted : IsCountedAt original foreign code l found counter k e edge
  pub first : (j d : ℕ) (other : Edge) → IsCountedAt original foreign code l found counter j d other → ComesBefore other edge → ⊥

-- the last row that a table needs
abbrev pub IsLastRow : (original foreign : Image) (code : Code) (l : Loops) → Found → (counter shift last : ℕ) → Type 0
IsLastRow original foreign code l found counter shift last =
    ((k : ℕ) × IsFirstCounted original foreign code l found counter k × (last ≡ l.bound k / 2 ^ shift))
    ⊎ (((k : ℕ) → IsFirstCounted original foreign code l found counter k → ⊥) × (last ≡ 0))

-- the rows of each table of the edges at an address lie in the keyed segment
abbrev pub HasRows : (original foreign : Image) (code : Code) (l : Loops) → Found → ℕ → Type 0
HasRows original foreign code l found at = (kind : EdgeKind) (counter shift table last : ℕ) →
    IsOn (Exit counter shift table) (found at kind) → IsLastRow original foreign code l found counter shift last →
    AreRowsIn foreign table (last + 1)

-- ---- none of the causes, and the first of them

-- What is found stands on edges of changed words alone; where the stub there keeps its form but for rows, it is what stands there, and otherwise nothing.
pub record AreFound (original foreign : Image) (code : Code) (found : Found) : Type 0 where
  pub edges : (at : ℕ) (kind : EdgeKind) → ((e : ℕ) (edge : Edge) → slice_get code.edges e ≡ Some edge → edge.at ≡ at → edge.kind ≡ kind →
      ⊥) → found at kind ≡ []
  pub plain : (at : ℕ) (kind : EdgeKind) → (IsChanged original foreign at → ⊥) → found at kind ≡ []
  pub none : (at : ℕ) (kind : EdgeKind) → IsChanged original foreign at → (KeepsForm original foreign code found at → ⊥) →
      found at kind ≡ []
  -- a stub that keeps its form with any fragments keeps it with these
  pub some : (at : ℕ) (others : Found) → IsChanged original foreign at → KeepsForm original foreign code others at →
      KeepsForm original foreign code found at

abbrev pub IsBadPatch : (original foreign : Image) → Code → ℕ → Type 0
IsBadPatch original foreign code at = IsChanged original foreign at × (IsPatch original foreign code at → ⊥)

abbrev pub IsBadStub : (original foreign : Image) (code : Code) (l : Loops) → Found → ℕ → Type 0
IsBadStub original foreign code l found at =
    IsChanged original foreign at × (KeepsForm original foreign code found at × HasRows original foreign code l found at → ⊥)

-- none of the causes holds
pub record IsScanned (original foreign : Image) (code : Code) (l : Loops) (found : Found) : Type 0 where
  pub key : foreign.keyed_segment ≢ None
  pub layout : IsLaidAlike original foreign
  pub bytes : (a : ℕ) → IsOddByte original foreign a → ⊥
  pub patches : (at : ℕ) → IsChanged original foreign at → IsPatch original foreign code at
  pub found_are : AreFound original foreign code found
  pub stubs : (at : ℕ) → IsChanged original foreign at → KeepsForm original foreign code found at × HasRows original foreign code l found at

-- the least of the addresses for which it is so
abbrev pub IsLeastAddress : (ℕ → Type 0) → ℕ → Type 0
IsLeastAddress P at = P at × ((lower : ℕ) → lower < at → P lower → ⊥)

-- the cause is the first that holds
abbrev pub IsFirstWhy : (original foreign : Image) (code : Code) (l : Loops) → Why → Type 0
IsFirstWhy original foreign code l why.NoKey = foreign.keyed_segment ≡ None
IsFirstWhy original foreign code l why.Layout = (foreign.keyed_segment ≢ None) × (IsLaidAlike original foreign → ⊥)
IsFirstWhy original foreign code l (why.Byte at) = (foreign.keyed_segment ≢ None) × IsLaidAlike original foreign ×
    IsLeastAddress (IsOddByte original foreign) at
IsFirstWhy original foreign code l (why.Patch at) =
    (foreign.keyed_segment ≢ None) × IsLaidAlike original foreign × ((a : ℕ) → IsOddByte original foreign a → ⊥) ×
    IsLeastAddress (IsBadPatch original foreign code) at
IsFirstWhy original foreign code l (why.Stub at) =
    (foreign.keyed_segment ≢ None) × IsLaidAlike original foreign × ((a : ℕ) → IsOddByte original foreign a → ⊥) ×
    ((a : ℕ) → IsBadPatch original foreign code a → ⊥)
    × ((found : Found) × AreFound original foreign code found × IsLeastAddress (IsBadStub original foreign code l found) at)
IsFirstWhy original foreign code l other = ⊥
