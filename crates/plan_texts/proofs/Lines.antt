-- One more line of a text.
use Rattle.std.proofs.Common.{◌≡◌, ℕ, ◌+◌, ◌<◌, List, [], ◌∷◌, ◌++◌, length, get_or, take, sym, ap, ◌∙◌}
use Rattle.std.specs.Prelude.{Result, Ok, Err, is_ok, OnOk, if◌then◌else◌}
use Rattle.std.specs.List.{flat_map}
use Rattle.std.proofs.lemmas.List.{take_more, flat_map_more}

-- a text that had the lines of the first things, and now has that of the next
pub lines-more : {A : Type 0} (line : A → List ℕ) (before text more : List ℕ) (items : List A) (k : ℕ) (x : A) → k < length items → x ≡ get_or items k x → more ≡ text ++ line x
    → text ≡ before ++ flat_map line (take k items) → more ≡ before ++ flat_map line (take (k + 1) items)
lines-more {A = A} line before text more items k x h is new old =
    new ∙ ap (λ (xs : List ℕ). xs ++ line x) old
    ∙ flat_map_more line before (take k items) x
    ∙ ap (λ (xs : List A). before ++ flat_map line xs) (ap (λ (y : A). take k items ++ y ∷ []) is ∙ sym (take_more items k x h))

-- and the same where things are copied
pub copies-more : {A : Type 0} (line : A → List ℕ) (before text more : List ℕ) (items : List A) (k : ℕ) (d : A) → k < length items → more ≡ text ++ line (get_or items k d)
    → text ≡ before ++ flat_map line (take k items) → more ≡ before ++ flat_map line (take (k + 1) items)
copies-more {A = A} line before text more items k d h new old =
    new ∙ ap (λ (xs : List ℕ). xs ++ line (get_or items k d)) old
    ∙ flat_map_more line before (take k items) (get_or items k d)
    ∙ ap (λ (xs : List A). before ++ flat_map line xs) (sym (take_more items k d h))

-- ---- a text that a last call adds

pub on-ok-added : {T E : Type 0} (r : Result T E) (new added old : List ℕ) → new ≡ (if is_ok r then added else old) → OnOk r (new ≡ added)
on-ok-added (Ok x) new added old e = e
on-ok-added (Err x) new added old e = tt
