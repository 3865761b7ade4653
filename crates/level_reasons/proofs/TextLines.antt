-- One more line of a text.
use Rattle.std.proofs.Common.{◌≡◌, ℕ, ◌+◌, ◌<◌, List, ◌++◌, length, get_or, take, sym, ap, ◌∙◌}
use Rattle.std.specs.List.{flat_map}
use Rattle.std.proofs.lemmas.List.{take_more, flat_map_more}

pub lines-more : {A : Type 0} (line : A → List ℕ) (before text more : List ℕ) (items : List A) (k : ℕ) (d : A) → k < length items → more ≡ text ++ line (get_or items k d)
    → text ≡ before ++ flat_map line (take k items) → more ≡ before ++ flat_map line (take (k + 1) items)
lines-more {A = A} line before text more items k d h new old =
    new ∙ ap (λ (xs : List ℕ). xs ++ line (get_or items k d)) old
    ∙ flat_map_more line before (take k items) (get_or items k d)
    ∙ ap (λ (xs : List A). before ++ flat_map line xs) (sym (take_more items k d h))
