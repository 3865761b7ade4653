use Rattle.std.proofs.Common.{◌≡◌, ℕ, take}
use Rattle.std.specs.Prelude.{◌==◌, ◌||◌}
use Rattle.std.specs.List.{list_any}
use Rattle.code_text.specs.Text.{text_of, is_target}
use Rattle.image_lower.specs.FarJumps.{is_noted}
use Rattle.image_lower.proofs.far.entered_by.Given as goal

abbrev pub invariant-loop-note : goal.invariant-loop-note
invariant-loop-note l = (v : ℕ) → (is_target (text_of l.view) v || is_noted (take l.note-index l.notes) v) ≡ list_any (λ u. u == v) l.entered.items
