-- Scaffold: what looking for bounds finds of a program, by tables of its registers and of its stack.
use Rattle.std.specs.Prelude.{ℕ, Bool, List, Option}
use Rattle.std.specs.List.{All}
use Rattle.loop_file.specs.declared.notes.LoopNote.{LoopNote}
use Rattle.value_checks.specs.Tables.{values_of}
use Rattle.stack_tables.specs.declared.claims.StackClaim.{StackClaim}
use Rattle.stack_tables.specs.Tables.{stacks_of}
use Rattle.loop_drafts.specs.Bounds.{AreReturnsFound, IsBoundFound, IsBoundShown, IsLeastFound}

abbrev pub IsFoundBy : Option ℕ → StackClaim → LoopNote → Type 0
IsFoundBy most claim note = IsBoundFound claim.view.now claim.graph.now.code (values_of claim.graph.now.code claim.table.now)
    (stacks_of claim.graph.now.code claim.stack.now) most note

abbrev pub AreFoundBy : Option ℕ → StackClaim → List LoopNote → Type 0
AreFoundBy most claim notes = All (IsFoundBy most claim) notes

-- the bound of a note is shown, and its least turns are found
abbrev pub IsShownBy : Option ℕ → StackClaim → LoopNote → Type 0
IsShownBy most claim note = IsBoundShown claim.view.now claim.graph.now.code (values_of claim.graph.now.code claim.table.now)
    (stacks_of claim.graph.now.code claim.stack.now) most note

abbrev pub IsLeastFoundBy : StackClaim → LoopNote → Type 0
IsLeastFoundBy claim note = IsLeastFound claim.view.now claim.graph.now.code (values_of claim.graph.now.code claim.table.now)
    (stacks_of claim.graph.now.code claim.stack.now) note

abbrev pub AreLeastFoundBy : StackClaim → List LoopNote → Type 0
AreLeastFoundBy claim notes = All (IsLeastFoundBy claim) notes

-- whether returns go back, as the same tables show
abbrev pub AreReturnsFoundBy : StackClaim → Bool → Type 0
AreReturnsFoundBy claim returns = AreReturnsFound claim.view.now claim.graph.now.code (values_of claim.graph.now.code claim.table.now)
    (stacks_of claim.graph.now.code claim.stack.now) returns
