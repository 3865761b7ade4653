use Rattle.std.proofs.Common.{◌≡◌, ℕ, ◌<◌, Some, slice_get}
use Rattle.jump_lists.specs.declared.notes.JumpNote.{JumpNote}
use Rattle.fixed_tables.specs.declared.table.Table.{Table}
use Rattle.jump_drafts.specs.Jumps.{IsListed}
use Rattle.jump_drafts.proofs.listing.are_listed.Given as goal

abbrev pub invariant-loop-k : goal.invariant-loop-k
invariant-loop-k l = (i : ℕ) → i < l.k → (note : JumpNote) (table : Table) → slice_get l.notes i ≡ Some note → slice_get l.tables i ≡ Some table → IsListed l.view note table
