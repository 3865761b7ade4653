-- The lines of the inputs that don't count, one after another.
use Rattle.std.proofs.Common.{◌≡◌, ℕ, ◌+◌, List, [], ◌∷◌, ◌++◌, length, arith, append_assoc, sym, ap, ◌∙◌}
use Rattle.std.proofs.lemmas.List.{append-nil}
use Rattle.scale_report.specs.Texts.{numbered_lines}
use Rattle.pace_fit.specs.declared.endings.Ending.{Ending}
use Rattle.pace_tool.specs.Texts.{left_line_if}

left_none : (text : List ℕ) (k : ℕ) → text ≡ text ++ numbered_lines left_line_if k []
unfolding numbered_lines
left_none text k = sym (append-nil text)

pub left_empty : (text : List ℕ) (k : ℕ) (xs : List Ending) → length xs ≡ 0 → text ≡ text ++ numbered_lines left_line_if k xs
left_empty text k [] none = left_none text k
left_empty text k (x ∷ xs) none = absurd (omega (arith, none))

pub left_more : (old one new : List ℕ) (k : ℕ) (x : Ending) (xs : List Ending) → one ≡ old ++ left_line_if k x → new ≡ one ++ numbered_lines left_line_if (k + 1) xs → new ≡ old ++ numbered_lines left_line_if k (x ∷ xs)
unfolding numbered_lines
left_more old one new k x xs h h' =
    h' ∙ (ap (λ (t : List ℕ). t ++ numbered_lines left_line_if (k + 1) xs) h ∙ append_assoc old (left_line_if k x) (numbered_lines left_line_if (k + 1) xs))
