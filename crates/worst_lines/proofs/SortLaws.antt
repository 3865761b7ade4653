-- The order of lines, and the sum of their own cycles.
use Rattle.std.proofs.Common.{◌≡◌, ℕ, ◌+◌, ◌<◌, ◌≤◌, true, false, inl, inr, List, [], ◌∷◌, ◌++◌, length, get_or, take, Some, slice_get, sym, ap, ◌∙◌, subst, arith}
use Rattle.std.specs.List.{sum_by}
use Rattle.std.proofs.lemmas.List.Sums.{sum_by_more}
use Rattle.std.proofs.lemmas.Option.{slice_get_within, get_or_from_slice_get}
use Rattle.worst_lines.specs.declared.shown.Line.{Line}
use Rattle.worst_lines.specs.Lines.{IsBefore, is_loop}

abbrev pub IsNextBefore : List Line → ℕ → Type 0
IsNextBefore lines i = (a b : Line) → slice_get lines i ≡ Some a → slice_get lines (i + 1) ≡ Some b → IsBefore a b

-- a line that is read at a place is the one there
read_is : (lines : List Line) (i : ℕ) (x a : Line) → x ≡ get_or lines i x → slice_get lines i ≡ Some a → x ≡ a
read_is lines i x a is at = is ∙ get_or_from_slice_get lines i a x at

pub next_before : (lines : List Line) (i : ℕ) (x y : Line) → x ≡ get_or lines i x → y ≡ get_or lines (i + 1) y → IsBefore x y → IsNextBefore lines i
next_before lines i x y x_is y_is before a b at_a at_b =
    subst (λ (z : Line). IsBefore a z) (read_is lines (i + 1) y b y_is at_b) (subst (λ (z : Line). IsBefore z y) (read_is lines i x a x_is at_a) before)

pub last_before : (lines : List Line) (i : ℕ) → length lines ≤ i + 1 → IsNextBefore lines i
last_before lines i last a b at_a at_b = let low : i + 1 < length lines = slice_get_within lines (i + 1) b at_b in let bad : ⊥ = omega arith in absurd bad

-- one more line
pub sum_more : (lines : List Line) (i : ℕ) (x : Line) → i < length lines → x ≡ get_or lines i x →
    sum_by (λ (line : Line). line.own) (take (i + 1) lines) ≡ sum_by (λ (line : Line). line.own) (take i lines) + x.own
sum_more lines i x lt is =
    sum_by_more (λ (line : Line). line.own) lines i x lt ∙ ap (λ (y : Line). sum_by (λ (line : Line). line.own) (take i lines) + y.own) (sym is)

-- ---- which line stands first

pub own_before : (a b : Line) → b.own < a.own → IsBefore a b
own_before a b less = inl less

pub at_before : (a b : Line) → a.own ≡ b.own → a.at < b.at → IsBefore a b
at_before a b same less = inr (same, inl less)

pub part_before : (a b : Line) → a.own ≡ b.own → a.at ≡ b.at → is_loop a.part ≡ false → is_loop b.part ≡ true → IsBefore a b
part_before a b same here function looped = inr (same, inr (here, function, looped))
