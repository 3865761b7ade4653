-- One more line.
use Rattle.std.proofs.Common.{◌≡◌, ℕ, ◌+◌, Bool, true, false, cond, List, [], ◌∷◌, ◌++◌, sym, ap, ◌∙◌, subst, append-nil, arith}
use Rattle.std.specs.List.{filter, range_with_len}
use Rattle.std.proofs.lemmas.List.{map-id}
use Rattle.std.proofs.lemmas.List.FromFn.{map-range_with_len_more, filter_of_map_range_with_len_more}
use Rattle.level_reasons.specs.Reasons.{AreLinesOf}

range_more : (n : ℕ) → range_with_len 0 (n + 1) ≡ range_with_len 0 n ++ n ∷ []
range_more n =
    sym (map-id (range_with_len 0 (n + 1))) ∙ map-range_with_len_more (λ (x : ℕ). x) 0 n n (let e : 0 + n ≡ n = omega arith in e) ∙ ap (λ (xs : List ℕ). xs ++ n ∷ []) (map-id (range_with_len 0 n))

filter_more : (p : ℕ → Bool) (n : ℕ) → filter p (range_with_len 0 (n + 1)) ≡ filter p (range_with_len 0 n) ++ cond (p n) (n ∷ []) []
filter_more p n =
    ap (filter p) (sym (map-id (range_with_len 0 (n + 1)))) ∙ filter_of_map_range_with_len_more p (λ (x : ℕ). x) 0 n n (let e : 0 + n ≡ n = omega arith in e)
    ∙ ap (λ (xs : List ℕ). filter p xs ++ cond (p n) (n ∷ []) []) (map-id (range_with_len 0 n))

pub push_line : {A : Type 0} (Is : ℕ → A → Type 0) (ns : List ℕ) (xs : List A) (n : ℕ) (x : A) → AreLinesOf Is ns xs → Is n x → AreLinesOf Is (ns ++ n ∷ []) (xs ++ x ∷ [])
push_line Is [] [] n x are is = (is, tt)
push_line Is [] (y ∷ ys) n x are is = absurd are
push_line Is (m ∷ ms) [] n x are is = absurd are
push_line Is (m ∷ ms) (y ∷ ys) n x are is = (are.0, push_line Is ms ys n x are.1 is)

-- a line for each number below one
pub line_more : {A : Type 0} (Is : ℕ → A → Type 0) (n : ℕ) (xs ys : List A) (x : A) → ys ≡ xs ++ x ∷ [] → AreLinesOf Is (range_with_len 0 n) xs → Is n x → AreLinesOf Is (range_with_len 0 (n + 1)) ys
line_more {A = A} Is n xs ys x e are is =
    subst (λ (ns : List ℕ). AreLinesOf Is ns ys) (sym (range_more n)) (subst (AreLinesOf Is (range_with_len 0 n ++ n ∷ [])) (sym e) (push_line Is (range_with_len 0 n) xs n x are is))

-- a line for each of those that pass a test
pub passed_more : {A : Type 0} (Is : ℕ → A → Type 0) (p : ℕ → Bool) (n : ℕ) (xs ys : List A) (x : A) → ys ≡ xs ++ x ∷ [] → p n ≡ true → AreLinesOf Is (filter p (range_with_len 0 n)) xs → Is n x
    → AreLinesOf Is (filter p (range_with_len 0 (n + 1))) ys
passed_more {A = A} Is p n xs ys x e passes are is =
    let more : filter p (range_with_len 0 (n + 1)) ≡ filter p (range_with_len 0 n) ++ n ∷ [] = filter_more p n ∙ ap (λ (b : Bool). filter p (range_with_len 0 n) ++ cond b (n ∷ []) []) passes in
    subst (λ (ns : List ℕ). AreLinesOf Is ns ys) (sym more) (subst (AreLinesOf Is (filter p (range_with_len 0 n) ++ n ∷ [])) (sym e) (push_line Is (filter p (range_with_len 0 n)) xs n x are is))

pub failed_more : {A : Type 0} (Is : ℕ → A → Type 0) (p : ℕ → Bool) (n : ℕ) (xs : List A) → p n ≡ false → AreLinesOf Is (filter p (range_with_len 0 n)) xs → AreLinesOf Is (filter p (range_with_len 0 (n + 1))) xs
failed_more Is p n xs fails are =
    let same : filter p (range_with_len 0 (n + 1)) ≡ filter p (range_with_len 0 n) =
    filter_more p n ∙ ap (λ (b : Bool). filter p (range_with_len 0 n) ++ cond b (n ∷ []) []) fails ∙ append-nil (filter p (range_with_len 0 n)) in
    subst (λ (ns : List ℕ). AreLinesOf Is ns xs) (sym same) are
