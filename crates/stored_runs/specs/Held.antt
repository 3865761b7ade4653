-- Scaffold: words and bytes that lie in the keyed segment.
use Rattle.std.specs.Prelude.{◌≡◌, ℕ, ℤ, ◌+◌, ◌*◌, ◌^◌, ◌<◌, ◌≤◌, ◌%◌, true, List, [], ◌∷◌, length, get_or, None, false}
use Rattle.scale_base.specs.declared.instruction.BranchOp.{BranchOp}
use Rattle.scale_base.specs.declared.instruction.Instr.{Instr}
use Rattle.scale_base.specs.declared.instruction.Instr.TheVariants as instrs
use Rattle.scale_base.specs.Word.{FieldsInRange, Encodes}
use Rattle.scale_base.specs.declared.stepping.Stepped.{Stepped}
use Rattle.scale_base.specs.declared.stepping.Class.TheVariants as classes
use Rattle.scale_base.specs.declared.stepping.Move.TheVariants as moves
use Rattle.scale_base.specs.Image.{WINDOW_START}
use Rattle.scale_base.specs.Layout.{is_keyed, can_fetch}
use Rattle.scale_base.specs.Arith.{moved_by}
use Rattle.scale_base.specs.State.{Setting, State, word_at}
use Rattle.std.specs.List.{All}
use Rattle.stub_writer.specs.Fragments.{IsFragment}
use Rattle.stub_writer.specs.Stubs.{jump, Site, Way, Place, Forked, Straight, way_code, way_rows, stub_code_of, stub_len, stub_rows}
use Rattle.stored_runs.specs.Meaning.{StandsAt, Stand}

-- the word lies at the address, in the keyed segment
pub record LiesAt (env : Setting) (bytes : ℕ → ℕ) (at word : ℕ) : Type 0 where
  pub keyed : is_keyed env.layout at ≡ true
  pub whole : (k : ℕ) → k < 4 → is_keyed env.layout (at + k) ≡ true
  pub fetched : can_fetch env.layout at ≡ true
  pub room : at + 4 < 2 ^ 32
  pub same : word_at bytes at ≡ word

-- the words lie one after another from the address on
abbrev pub Lie : Setting → (ℕ → ℕ) → ℕ → List ℕ → Type 0
Lie env bytes at [] = Unit {0}
Lie env bytes at (w ∷ ws) = LiesAt env bytes at w × Lie env bytes (at + 4) ws

-- the bytes lie from the address on
abbrev pub BytesLie : (ℕ → ℕ) → ℕ → List ℕ → Type 0
BytesLie bytes at xs = (j : ℕ) → j < length xs → bytes (at + j) ≡ get_or xs j 0

abbrev pub AllInRange : List Instr → Type 0
AllInRange [] = Unit {0}
AllInRange (i ∷ is) = FieldsInRange i × AllInRange is

abbrev pub AllWords : List ℕ → Type 0
AllWords [] = Unit {0}
AllWords (w ∷ ws) = (w < 2 ^ 32) × AllWords ws

-- the keyed segment holds each address from `at` up to `to`, which is left out
pub record KeyedFrom (env : Setting) (at to : ℕ) : Type 0 where
  pub keyed : (a : ℕ) → at ≤ a → a < to → is_keyed env.layout a ≡ true
  pub even : at % 4 ≡ 0
  pub room : to < 2 ^ 32

-- ---- the conditions of a block, and its stubs where they stand

abbrev pub IsFineWay : Way → Type 0
IsFineWay w = (length w.fragments ≤ 17) × All IsFragment w.fragments

abbrev pub IsFine : Place → Type 0
IsFine (Forked op rs1 rs2 untaken taken) = (rs1 < 32) × (rs2 < 32) × IsFineWay untaken × IsFineWay taken
IsFine (Straight w) = IsFineWay w

abbrev pub AreFine : List Site → Type 0
AreFine [] = Unit {0}
AreFine (site ∷ sites) = IsFine site.place × AreFine sites

-- each stub stands in its place
abbrev pub StubsStand : Setting → (ℕ → ℕ) → (at table : ℕ) → List Site → Type 0
StubsStand env bytes at table [] = Unit {0}
StubsStand env bytes at table (site ∷ sites) =
    Stand env bytes at (stub_code_of at table site.place)
    × StubsStand env bytes (at + 4 * stub_len site) (table + 4 * length (stub_rows site)) sites

-- the instruction stands at the address, outside the keyed segment
pub record IsInText (env : Setting) (bytes : ℕ → ℕ) (at : ℕ) (i : Instr) : Type 0 where
  pub keyed : is_keyed env.layout at ≡ false
  pub fetched : can_fetch env.layout at ≡ true
  pub encodes : Encodes (word_at bytes at) i

abbrev pub text_turn : (at to : ℕ) → Stepped
text_turn at to = record { pc = at; next = to; class = classes.Jump; moved = moves.Local; keyed = false; port = None }

-- the instruction at the state's pc is patched, and its stub lies there
pub record StandsAtPatch (env : Setting) (s : State) (stub : ℕ) : Type 0 where
  pub there : IsInText env s.bytes s.pc (jump s.pc stub)
  pub pc : s.pc < 2 ^ 32
  pub small : stub < 2 ^ 32
  pub even : stub % 4 ≡ 0

-- ---- stubs anywhere in the keyed segment

-- The code of a way stands at an address, and the rows of its fragments lie at another, below the window.
pub record WayStands (env : Setting) (bytes : ℕ → ℕ) (at : ℕ) (w : Way) : Type 0 where
  pub table : ℕ
  pub code : Stand env bytes at (way_code at table w)
  pub rows : Lie env bytes table (way_rows w)
  pub even : table % 4 ≡ 0
  pub high : table + 4 * length (way_rows w) ≤ WINDOW_START

-- The stub of a branch: the same branch to any other address, behind it the way that is not taken, and there the way that is.
pub record ForkStands (env : Setting) (bytes : ℕ → ℕ) (at : ℕ) (op : BranchOp) (rs1 rs2 : ℕ) (untaken taken : Way) : Type 0 where
  pub offset : ℤ
  pub to : ℕ
  pub branch : StandsAt env bytes at (instrs.Branch op rs1 rs2 offset)
  pub leads : moved_by at offset ≡ to
  pub even : to % 4 ≡ 0
  pub untaken_way : WayStands env bytes (at + 4) untaken
  pub taken_way : WayStands env bytes to taken

-- the stub of a marked instruction
abbrev pub StubStands : Setting → (ℕ → ℕ) → ℕ → Place → Type 0
StubStands env bytes at (Forked op rs1 rs2 untaken taken) = ForkStands env bytes at op rs1 rs2 untaken taken
StubStands env bytes at (Straight w) = WayStands env bytes at w
