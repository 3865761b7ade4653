-- One more line of a text.
use Rattle.std.proofs.Common.{◌≡◌, ℕ, ◌+◌, ◌<◌, List, ◌∷◌, [], ◌++◌, length, get_or, take, sym, ap, ◌∙◌, append_assoc}
use Rattle.std.specs.List.{flat_map}
use Rattle.std.proofs.lemmas.List.{take_more, flat_map_more}

pub lines-more : {A : Type 0} (line : A → List ℕ) (before text more : List ℕ) (items : List A) (k : ℕ) (x : A) → k < length items → x ≡ get_or items k x → more ≡ text ++ line x
    → text ≡ before ++ flat_map line (take k items) → more ≡ before ++ flat_map line (take (k + 1) items)
lines-more {A = A} line before text more items k x h is new old =
    new ∙ ap (λ (xs : List ℕ). xs ++ line x) old
    ∙ flat_map_more line before (take k items) x
    ∙ ap (λ (y : A). before ++ flat_map line (take k items ++ y ∷ [])) is
    ∙ ap (λ (xs : List A). before ++ flat_map line xs) (sym (take_more items k x h))

-- a line in three parts
pub three_parts : (old one two new a b c d e : List ℕ) → one ≡ old ++ (a ++ b) → two ≡ one ++ c → new ≡ two ++ (d ++ e) → new ≡ old ++ (a ++ b ++ c ++ d ++ e)
three_parts old one two new a b c d e first second third = third ∙ ap (λ (xs : List ℕ). xs ++ (d ++ e)) (second ∙ ap (λ (xs : List ℕ). xs ++ c) first) ∙ simp append_assoc
