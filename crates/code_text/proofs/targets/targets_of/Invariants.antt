use Rattle.std.proofs.Common.{◌≡◌, ℕ, take}
use Rattle.std.specs.Prelude.{◌==◌, ◌||◌}
use Rattle.std.specs.List.{list_any}
use Rattle.code_text.specs.Text.{text_of, jumps_from}
use Rattle.code_text.proofs.targets.targets_of.Given as goal

abbrev pub invariant-loop-range : goal.invariant-loop-range
invariant-loop-range l = (v : ℕ) → list_any (λ u. u == v) l.targets.items ≡ ((v == l.view.entry) || list_any (jumps_from (text_of l.view) v) (take l.range-index l.text))
