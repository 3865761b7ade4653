-- Scaffold: the least address of a kind, and the tests of single addresses.
use Rattle.std.specs.Prelude.{◌≡◌, ℕ, ◌+◌, ◌%◌, ◌<◌, ◌≤◌, ◌==◌, ◌&&◌, not, nat_le, if◌then◌else◌, Bool, true, false, List, length, slice_get, Option, Some, None, option_map}
use Rattle.cost_theory.specs.Lists.{is_among}
use Rattle.scale_base.specs.declared.instruction.Instr.{Instr}
use Rattle.scale_base.specs.declared.instruction.Instr.TheVariants as instr
use Rattle.scale_base.specs.declared.ranges.Range.{Range}
use Rattle.scale_base.specs.Arith.{moved_by}
use Rattle.scale_base.specs.Image.{Image, LoadSegment, loaded_byte, is_word_address}
use Rattle.scale_base.specs.Layout.{layout_of, is_keyed, in_text}
use Rattle.scale_base.specs.Reading.{instr_of}
use Rattle.scale_base.specs.State.{word_at}
use Rattle.foreign_scan.specs.Parts.{goto_of}
use Rattle.foreign_scan.specs.Scanned.{is_changed}

-- The answer is a bad address, and none among these that is bad is below it; or none among these is bad.
abbrev pub IsLeastBadOf : (ℕ → Bool) → (ℕ → Type 0) → Option ℕ → Type 0
IsLeastBadOf bad Among None = (a : ℕ) → Among a → bad a ≡ false
IsLeastBadOf bad Among (Some at) = (bad at ≡ true) × ((a : ℕ) → Among a → bad a ≡ true → at ≤ a)

-- the addresses from one on up to another
abbrev pub IsFromUpTo : ℕ → ℕ → ℕ → Type 0
IsFromUpTo from end a = (from ≤ a) × (a < end)

-- the addresses of a segment's file part
abbrev pub file_range : LoadSegment → Range
file_range s = record { from = s.from; to = s.from + length s.file }

-- the addresses of the first n ranges
abbrev pub IsInRanges : List Range → ℕ → ℕ → Type 0
IsInRanges ranges n a = (k : ℕ) × (r : Range) × (k < n) × (slice_get ranges k ≡ Some r) × IsFromUpTo r.from r.to a

-- ---- bytes

-- whether the byte at an address outside the text and the keyed segment isn't the original's
abbrev pub is_odd_byte : (original foreign : Image) → ℕ → Bool
is_odd_byte original foreign a = not (loaded_byte foreign a == loaded_byte original a) &&
    (not (is_keyed (layout_of foreign) a) && not (in_text (layout_of original) a))

-- ---- words

-- the address to which an instruction at an address goes that is a jump and links no register
abbrev pub goto_target : Option Instr → ℕ → Option ℕ
goto_target i at = option_map (moved_by at) (goto_of i)

-- whether it is a branch, or a jump that links no register
abbrev pub is_patchable : Option Instr → Bool
is_patchable (Some (instr.Branch op rs1 rs2 offset)) = true
is_patchable (Some (instr.Jal rd offset)) = rd == 0
is_patchable i = false

-- whether an address is a multiple of 4 in the keyed segment
abbrev pub is_key_place : Image → Option ℕ → Bool
is_key_place image None = false
is_key_place image (Some to) = (to % 4 == 0) && is_keyed (layout_of image) to

abbrev pub leads_to_key : Image → ℕ → Bool
leads_to_key image at = is_key_place image (goto_target (instr_of (word_at (loaded_byte image) at)) at)

-- whether the word at an address may take the place of the original's
abbrev pub is_patch_at : (original foreign : Image) → List ℕ → ℕ → Bool
is_patch_at original foreign nodes at = is_among at nodes && (is_patchable (instr_of (word_at (loaded_byte original) at)) && leads_to_key
    foreign at)

-- whether it is a word of the text that isn't the original's and may not take its place
abbrev pub is_bad_word : (original foreign : Image) → List ℕ → ℕ → Bool
is_bad_word original foreign nodes at = is_word_address original at && (is_changed original foreign at && not
    (is_patch_at original foreign nodes at))
