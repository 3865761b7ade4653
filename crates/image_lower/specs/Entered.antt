-- Scaffold: a list of the addresses that other ways lead to.
use Rattle.std.specs.Prelude.{◌≡◌, ℕ, ◌==◌, ◌||◌, List}
use Rattle.std.specs.List.{list_any}
use Rattle.code_text.specs.Text.{Text, is_target}
use Rattle.jump_lists.specs.declared.notes.JumpNote.{JumpNote}
use Rattle.image_lower.specs.FarJumps.{is_noted}

-- the list holds the entry, the targets of the branches and JALs of the text, and those of the noted jumps
abbrev pub AreWaysIn : Text → List JumpNote → List ℕ → Type 0
AreWaysIn t notes entered = (v : ℕ) → (is_target t v || is_noted notes v) ≡ list_any (λ u. u == v) entered
