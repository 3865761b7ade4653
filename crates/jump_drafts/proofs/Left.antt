-- The jumps of a range that are left, word by word.
use Rattle.std.proofs.Common.{◌≡◌, ℕ, ◌+◌, Bool, List, [], ◌∷◌, ◌++◌, map, sym, ap, ◌∙◌, arith, append_assoc}
use Rattle.std.specs.Prelude.{filter}
use Rattle.std.specs.List.{range_with_len}
use Rattle.std.proofs.lemmas.List.Elements.{filter-append}
use Rattle.std.proofs.lemmas.List.FromFn.{map-range_with_len_more}

-- one word more
pub next_left : (p : ℕ → Bool) (f : ℕ → ℕ) (old : List ℕ) (k : ℕ) →
    (old ++ filter p (map f (range_with_len 0 k))) ++ filter p (f k ∷ []) ≡ old ++ filter p (map f (range_with_len 0 (k + 1)))
next_left p f old k =
    append_assoc old (filter p (map f (range_with_len 0 k))) (filter p (f k ∷ []))
    ∙ ap (λ xs. old ++ xs) (sym (ap (filter p) (map-range_with_len_more f 0 k k (omega arith)) ∙ filter-append p (map f (range_with_len 0 k)) (f k ∷ [])))
