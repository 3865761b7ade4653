use Rattle.std.proofs.Common.{◌≡◌, ℕ, ◌+◌, ◌*◌}
use Rattle.std.specs.Prelude.{◌==◌, ◌||◌}
use Rattle.std.specs.List.{list_any}
use Rattle.cost_theory.specs.Graph.{any_below}
use Rattle.code_text.specs.Text.{text_of, is_at, jump_of, instr_at}
use Rattle.code_text.proofs.targets.add_targets.Given as goal

abbrev pub invariant-loop-k : goal.invariant-loop-k
invariant-loop-k l =
    (v : ℕ) → list_any (λ u. u == v) l.targets.items ≡ (list_any (λ u. u == v) l.initial.targets.items || any_below l.k (λ i. is_at (jump_of (instr_at (text_of l.view) (l.range.from + 4 * i)) (l.range.from + 4 * i)) v))
