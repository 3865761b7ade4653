-- Jumps through registers: which are listed, and which are left.
use Rattle.std.specs.Prelude.{◌≡◌, ℕ, ◌==◌, ◌&&◌, not, Bool, true, List, length, filter, Some, slice_get}
use Rattle.std.specs.List.{list_any, list_all, flat_map}
use Rattle.scale_base.specs.declared.ranges.Range.{Range}
use Rattle.scale_base.specs.Image.{Image, is_word_address}
use Rattle.code_text.specs.Table.{word_addresses}
use Rattle.jump_lists.specs.declared.notes.JumpNote.{JumpNote}
use Rattle.fixed_tables.specs.declared.table.Table.{Table}
use Rattle.fixed_tables.specs.Tables.{IsTableOf}
use Rattle.jump_search.specs.Places.{stands_at}

-- a jump is noted, and one that isn't
abbrev pub is_noted : List JumpNote → ℕ → Bool
is_noted notes at = list_any (λ note. note.at == at) notes

abbrev pub is_left : Image → List JumpNote → ℕ → Bool
is_left image notes at = stands_at image at && not (is_noted notes at)

-- all that aren't, range by range
abbrev pub left_in : Image → List JumpNote → Range → List ℕ
left_in image notes range = filter (is_left image notes) (word_addresses range)

abbrev pub left_of : Image → List JumpNote → List ℕ
left_of image notes = flat_map (left_in image notes) image.text

-- A note of such a jump, whose targets are words of the text, and those of a table.
pub record IsListed (image : Image) (note : JumpNote) (table : Table) : Type 0 where
  pub jump : stands_at image note.at ≡ true
  pub words : list_all (is_word_address image) note.targets ≡ true
  pub table_of : IsTableOf image table note.targets

-- each note of a list, by the table of the same number
pub record AreListed (image : Image) (notes : List JumpNote) (tables : List Table) : Type 0 where
  pub size : length tables ≡ length notes
  pub each : (k : ℕ) (note : JumpNote) (table : Table) → slice_get notes k ≡ Some note → slice_get tables k ≡ Some table →
      IsListed image note table
