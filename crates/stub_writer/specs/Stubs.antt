-- The stubs and their block: each stub has a place, and each fragment a place for its rows.
use Rattle.std.specs.Prelude.{ℕ, ℤ, pos, negsuc, ◌+◌, ◌*◌, ◌/◌, ◌%◌, ◌^◌, Bool, ◌&&◌, ◌==◌, nat_lt, List, [], ◌∷◌, ◌++◌, map, length, Option, Some, None, if◌then◌else◌}
use Rattle.std.specs.List.{sum_by, flat_map}
use Rattle.scale_base.specs.declared.instruction.BranchOp.{BranchOp}
use Rattle.scale_base.specs.declared.instruction.Instr.{Instr}
use Rattle.scale_base.specs.declared.instruction.Instr.TheVariants as instrs
use Rattle.scale_base.specs.Word.{word_of}
use Rattle.rv_encode.specs.Jumps.{distance}
use Rattle.scale_base.specs.declared.fragments.Fragment.{Fragment}
use Rattle.scale_base.specs.declared.ranges.Patch.{Patch}
use Rattle.stub_writer.specs.Fragments.{fragment_code, code_len, fragment_rows, rows_len}

-- a marked instruction: its two ways, with the address and the fragments of each. A jump has the one way
pub record Way : Type 0 where
  pub to : ℕ
  pub fragments : List Fragment

pub data Place : Type 0 where
  Forked : BranchOp → ℕ → ℕ → Way → Way → Place
  Straight : Way → Place

pub record Site : Type 0 where
  pub at : ℕ
  pub place : Place

-- ---- lengths, in words

abbrev pub way_len : Way → ℕ
way_len w = sum_by code_len w.fragments + 1

abbrev pub way : (to : ℕ) → List Fragment → Way
way to fragments = record { to = to; fragments = fragments }

abbrev pub rows_by : List Fragment → List ℕ
rows_by fragments = flat_map fragment_rows fragments

abbrev pub way_rows : Way → List ℕ
way_rows w = rows_by w.fragments

abbrev pub stub_len_of : Place → ℕ
stub_len_of (Forked op rs1 rs2 untaken taken) = 1 + way_len untaken + way_len taken
stub_len_of (Straight w) = way_len w

abbrev pub stub_rows_of : Place → List ℕ
stub_rows_of (Forked op rs1 rs2 untaken taken) = way_rows untaken ++ way_rows taken
stub_rows_of (Straight w) = way_rows w

abbrev pub stub_len : Site → ℕ
stub_len site = stub_len_of site.place

abbrev pub stub_rows : Site → List ℕ
stub_rows site = stub_rows_of site.place

-- ---- code, at an address and with the rows at `table`

-- fragments one after another
abbrev pub fragments_code : (table : ℕ) → List Fragment → List Instr
fragments_code table [] = []
fragments_code table (f ∷ fs) = fragment_code table f ++ fragments_code (table + 4 * rows_len f) fs

-- addresses are taken modulo 2 ^ 32
abbrev pub jump : (from to : ℕ) → Instr
jump from to = instrs.Jal 0 (distance (from % 2 ^ 32) (to % 2 ^ 32))

-- the address of a way's jump, where its fragments begin at `at`
abbrev pub jump_at : (at : ℕ) → Way → ℕ
jump_at at w = at + 4 * sum_by code_len w.fragments

abbrev pub way_code : (at table : ℕ) → Way → List Instr
way_code at table w = fragments_code table w.fragments ++ jump (jump_at at w) w.to ∷ []

-- where the second way of a branch's stub begins
abbrev pub taken_at : (at : ℕ) → Way → ℕ
taken_at at untaken = at + 4 + 4 * way_len untaken

abbrev pub ways_code : (at table : ℕ) → Way → Way → List Instr
ways_code at table untaken taken =
    way_code (at + 4) table untaken ++ way_code (taken_at at untaken) (table + 4 * length (way_rows untaken)) taken

abbrev pub stub_code_of : (at table : ℕ) → Place → List Instr
stub_code_of at table (Forked op rs1 rs2 untaken taken) =
    instrs.Branch op rs1 rs2 (pos (4 + 4 * way_len untaken)) ∷ ways_code at table untaken taken
stub_code_of at table (Straight w) = way_code at table w

-- ---- the block

abbrev pub stubs_code : (at table : ℕ) → List Site → List Instr
stubs_code at table [] = []
stubs_code at table (site ∷ sites) =
    stub_code_of at table site.place ++ stubs_code (at + 4 * stub_len site) (table + 4 * length (stub_rows site)) sites

abbrev pub stubs_len : List Site → ℕ
stubs_len sites = sum_by stub_len sites

abbrev pub block_rows : List Site → List ℕ
block_rows sites = flat_map stub_rows sites

abbrev pub block_words : (base : ℕ) → List Site → List ℕ
block_words base sites = map word_of (stubs_code base (base + 4 * stubs_len sites) sites) ++ block_rows sites

abbrev pub block_size : List Site → ℕ
block_size sites = 4 * (stubs_len sites + length (block_rows sites))

-- the bytes of a word, the lowest first
abbrev pub word_bytes : ℕ → List ℕ
word_bytes w = w % 2 ^ 8 ∷ w / 2 ^ 8 % 2 ^ 8 ∷ w / 2 ^ 16 % 2 ^ 8 ∷ w / 2 ^ 24 % 2 ^ 8 ∷ []

-- the bytes of instructions
abbrev pub code_bytes : List Instr → List ℕ
code_bytes code = flat_map word_bytes (map word_of code)

abbrev pub block_bytes : (base : ℕ) → List Site → List ℕ
block_bytes base sites = flat_map word_bytes (block_words base sites)

-- ---- patches: each marked instruction becomes a jump to its stub

abbrev pub patches_from : (at : ℕ) → List Site → List Patch
patches_from at [] = []
patches_from at (site ∷ sites) =
    record { at = site.at; word = word_of (jump site.at at) } ∷ patches_from (at + 4 * stub_len site) sites

-- ---- reach: the jump to the stub and the jumps of the stub

abbrev pub is_even : ℤ → Bool
is_even (pos n) = n % 2 == 0
is_even (negsuc n) = n % 2 == 1

abbrev pub is_field : ℤ → Bool
is_field (pos n) = nat_lt n (2 ^ 20)
is_field (negsuc n) = nat_lt n (2 ^ 20)

abbrev pub reaches : (from to : ℕ) → Bool
reaches from to = (let d = distance (from % 2 ^ 32) (to % 2 ^ 32) in is_even d && is_field d)

abbrev pub fork_reaches : (at : ℕ) → Way → Way → Bool
fork_reaches at untaken taken =
    reaches (jump_at (at + 4) untaken) untaken.to && reaches (jump_at (taken_at at untaken) taken) taken.to

abbrev pub stub_reaches_of : (at : ℕ) → Place → Bool
stub_reaches_of at (Forked op rs1 rs2 untaken taken) = fork_reaches at untaken taken
stub_reaches_of at (Straight w) = reaches (jump_at at w) w.to

abbrev pub is_near : (at : ℕ) → Site → Bool
is_near at site = reaches site.at at && stub_reaches_of at site.place

-- the least marked instruction of which a jump to or from its stub doesn't fit. The sites ascend
abbrev pub out_of_reach : (at : ℕ) → List Site → Option ℕ
out_of_reach at [] = None
out_of_reach at (site ∷ sites) =
    if is_near at site then out_of_reach (at + 4 * stub_len site) sites
    else Some site.at
