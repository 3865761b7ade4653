-- A note of a list and the table of the same number.
use Rattle.std.proofs.Common.{◌≡◌, ℕ, List, Some, slice_get, sym, subst, ◌∙◌}
use Rattle.std.proofs.lemmas.Option.{same_Some}
use Rattle.scale_base.specs.Image.{Image}
use Rattle.jump_lists.specs.declared.notes.JumpNote.{JumpNote}
use Rattle.fixed_tables.specs.declared.table.Table.{Table}
use Rattle.jump_drafts.specs.Jumps.{IsListed}

-- what holds of those at a number holds of whatever is there
pub listed_at : (image : Image) (notes : List JumpNote) (tables : List Table) (k : ℕ) (n : JumpNote) (t : Table) → slice_get notes k ≡ Some n → slice_get tables k ≡ Some t → IsListed image n t →
    (note : JumpNote) (table : Table) → slice_get notes k ≡ Some note → slice_get tables k ≡ Some table → IsListed image note table
listed_at image notes tables k n t ns ts is note table ne te =
    subst (λ (x : JumpNote). IsListed image x table) (same_Some n note (sym ns ∙ ne))
    (subst (λ (y : Table). IsListed image n y) (same_Some t table (sym ts ∙ te)) is)
