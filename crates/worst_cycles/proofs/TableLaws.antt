-- Tables to which the number of the next place is added, and in which numbers are raised one after another.
use Rattle.std.proofs.Common.{◌≡◌, ◌≢◌, ℕ, ◌+◌, ◌-◌, ◌<◌, ◌≤◌, List, [], ◌∷◌, ◌++◌, length, slice_set, sym, ap, ◌∙◌, subst, arith, ⊎_elim}
use Rattle.std.proofs.lemmas.Bool.{cases_lt}
use Rattle.std.proofs.lemmas.List.{get_or_append_left, get_or-set_same, get_or-set_other}
use Rattle.std.proofs.Math.Seq.{get_or-append_right}
use Rattle.graph_algorithms.specs.Arcs.{number_in_place, AreDistinct}

-- the number of the next place is put behind the others
pub placed_more : (xs : List ℕ) (x m : ℕ) (f : ℕ → ℕ) → length xs ≡ m → ((d : ℕ) → d < m → number_in_place xs d ≡ f d) → x ≡ f m → (d : ℕ) → d < m + 1 → number_in_place (xs ++ x ∷ []) d ≡ f d
placed_more xs x m f size are this d lt = ⊎_elim
    (λ (low : d < m). get_or_append_left xs (x ∷ []) 0 d (let h : d < length xs = omega arith in h) ∙ are d low)
    (λ (high : m ≤ d).
    let same : d ≡ m = omega arith in
    let at : number_in_place (xs ++ x ∷ []) d ≡ number_in_place (x ∷ []) (d - length xs) = get_or-append_right xs (x ∷ []) d 0 (let h : length xs ≤ d = omega arith in h) in
    let first : d - length xs ≡ 0 = omega arith in
    at ∙ ap (number_in_place (x ∷ [])) first ∙ this ∙ ap f (sym same))
    (cases_lt d m)

-- ---- turns that are added at the nodes of a body, one after another

-- at the nodes before, and at one more
pub turn_added : (body before now : List ℕ) (n x turns : ℕ) → AreDistinct body → n < length body → number_in_place body n < length now → number_in_place now (number_in_place body n) ≡ x →
    ((i : ℕ) → i < n → number_in_place now (number_in_place body i) ≡ number_in_place before (number_in_place body i) + turns) →
    ((k : ℕ) → ((i : ℕ) → i < n → number_in_place body i ≢ k) → number_in_place now k ≡ number_in_place before k) →
    (i : ℕ) → i < n + 1 → number_in_place (slice_set now (number_in_place body n) (x + turns)) (number_in_place body i) ≡ number_in_place before (number_in_place body i) + turns
turn_added body before now n x turns distinct nl room value inside outside i lt = ⊎_elim
    (λ (low : i < n). get_or-set_other now (number_in_place body n) (number_in_place body i) (x + turns) 0 (distinct i n low nl) ∙ inside i low)
    (λ (high : n ≤ i).
    let same : i ≡ n = omega arith in
    let old : x ≡ number_in_place before (number_in_place body n) = sym value ∙ outside (number_in_place body n) (λ j jn. distinct j n jn nl) in
    subst (λ j. number_in_place (slice_set now (number_in_place body n) (x + turns)) (number_in_place body j) ≡ number_in_place before (number_in_place body j) + turns) (sym same)
    (get_or-set_same now (number_in_place body n) (x + turns) 0 room ∙ ap (λ y. y + turns) old))
    (cases_lt i n)

-- and at no others
pub turn_beside : (body before now : List ℕ) (n y : ℕ) → ((k : ℕ) → ((i : ℕ) → i < n → number_in_place body i ≢ k) → number_in_place now k ≡ number_in_place before k) →
    (k : ℕ) → ((i : ℕ) → i < n + 1 → number_in_place body i ≢ k) → number_in_place (slice_set now (number_in_place body n) y) k ≡ number_in_place before k
turn_beside body before now n y outside k others =
    get_or-set_other now (number_in_place body n) k y 0 (λ e. others n (omega arith) (sym e)) ∙ outside k (λ i il. others i (omega arith))
