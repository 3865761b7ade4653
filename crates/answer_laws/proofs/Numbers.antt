-- Lists of numbers, tests and cycles.
use Rattle.std.proofs.Common.{◌≡◌, ℕ, zero, suc, ◌+◌, ◌<◌, ◌≤◌, Bool, true, false, List, [], ◌∷◌, map, length, Option, Some, None, option_map, slice_get, refl, sym, ap, ◌∙◌, subst, arith, ⊎_elim, ◌⊎◌, inl, inr}
use Rattle.std.proofs.lemmas.Option.{slice_get-map}
use Rattle.std.proofs.lemmas.List.{length-map}
use Rattle.graph_algorithms.specs.Arcs.{number_in_place}
use Rattle.graph_algorithms.specs.Cycles.{IsCycleBy}
use Rattle.flow_graph.proofs.Laws.{Ascend, some_is, few_once}

-- tests that hold together are the same
pub both_ways : (a b : Bool) → (a ≡ true → b ≡ true) → (b ≡ true → a ≡ true) → a ≡ b
both_ways true b there back = sym (there refl)
both_ways false true there back = back refl
both_ways false false there back = refl

-- ---- ascending lists

abbrev pub IsThere : List ℕ → ℕ → Type 0
IsThere xs v = (i : ℕ) × (slice_get xs i ≡ Some v)

ascend_tail : (x : ℕ) (xs : List ℕ) → Ascend (x ∷ xs) → Ascend xs
ascend_tail x xs up i j a b lt at_i at_j = up (suc i) (suc j) a b (omega arith) at_i at_j

-- of two ascending lists that hold the same, the first of the one isn't below that of the other
head_le : (x y : ℕ) (xs ys : List ℕ) → Ascend (y ∷ ys) → IsThere (y ∷ ys) x → y ≤ x
head_le x y xs ys up (zero, at) = let e : y ≡ x = some_is y x at in omega arith
head_le x y xs ys up (suc i, at) = let lt : y < x = up 0 (suc i) y x (omega arith) refl at in omega arith

-- what a list holds besides its first
tail_there : (x y : ℕ) (xs ys : List ℕ) → x ≡ y → Ascend (x ∷ xs) → ((v : ℕ) → IsThere (x ∷ xs) v → IsThere (y ∷ ys) v) → (v : ℕ) → IsThere xs v → IsThere ys v
tail_there x y xs ys same up there v (i, at) = go (there v (suc i, at))
  where
    go : IsThere (y ∷ ys) v → IsThere ys v
    go (zero, here) =
        let e : y ≡ v = some_is y v here in
        let lt : x < v = up 0 (suc i) x v (omega arith) refl at in
        let bad : ⊥ = omega arith in absurd bad
    go (suc j, here) = (j, here)

pub ascending_same : (xs ys : List ℕ) → Ascend xs → Ascend ys → ((v : ℕ) → IsThere xs v → IsThere ys v) → ((v : ℕ) → IsThere ys v → IsThere xs v) → xs ≡ ys
ascending_same [] [] up up' there back = refl
ascending_same [] (y ∷ ys) up up' there back = let at = (back y (0, refl)).1 in let bad : ⊥ = cc in absurd bad
ascending_same (x ∷ xs) [] up up' there back = let at = (there x (0, refl)).1 in let bad : ⊥ = cc in absurd bad
ascending_same (x ∷ xs) (y ∷ ys) up up' there back =
    let low : y ≤ x = head_le x y xs ys up' (there x (0, refl)) in
    let high : x ≤ y = head_le y x ys xs up (back y (0, refl)) in
    let same : x ≡ y = omega arith in
    let rest : xs ≡ ys = ascending_same xs ys (ascend_tail x xs up) (ascend_tail y ys up') (tail_there x y xs ys same up there) (tail_there y x ys xs (sym same) up' back) in
    ap (λ z. z ∷ xs) same ∙ ap (λ zs. y ∷ zs) rest

-- ---- numbers of one list in another

-- an entry of a map is that of an entry
pub entry_of : {X Y : Type 0} (f : X → Y) (xs : List X) (i : ℕ) (y : Y) → slice_get (map f xs) i ≡ Some y → (x : X) × (slice_get xs i ≡ Some x) × (f x ≡ y)
entry_of f xs i y at = go (slice_get xs i) refl (sym (slice_get-map f xs i) ∙ at)
  where
    go : (o : Option _) → slice_get xs i ≡ o → option_map f o ≡ Some y → (x : _) × (slice_get xs i ≡ Some x) × (f x ≡ y)
    go None e is = let bad : ⊥ = cc in absurd bad
    go (Some x) e is = (x, e, some_is (f x) y is)

-- where different entries have different numbers below a count, there are no more entries than that
pub few_numbered : (f : ℕ → ℕ) (xs : List ℕ) (n : ℕ) → ((i a : ℕ) → slice_get xs i ≡ Some a → f a < n) → ((i j a b : ℕ) → slice_get xs i ≡ Some a → slice_get xs j ≡ Some b → f a ≡ f b → i ≡ j) → length xs ≤ n
few_numbered f xs n low apart = subst (λ m. m ≤ n) (length-map xs f) (few_once (map f xs) n
    (λ i j y at_i at_j. let a = entry_of f xs i y at_i in let b = entry_of f xs j y at_j in apart i j a.0 b.0 a.1 b.1 (a.2 ∙ sym b.2))
    (λ k y at. let a = entry_of f xs k y at in subst (λ x. x < n) a.2 (low k a.0 a.1)))

-- ---- cycles

-- no cycle goes by an order
pub no_cycle : (R S : ℕ → ℕ → Type 0) (cycle : List ℕ) → ((a b : ℕ) → R a b → S a b) → ((a b c : ℕ) → S a b → S b c → S a c) → ((a : ℕ) → S a a → ⊥) → IsCycleBy R cycle → ⊥
no_cycle R S cycle steps joins never is = at_end (length cycle) refl is.some
  where
    from_first : (i : ℕ) → i < length cycle → (number_in_place cycle 0 ≡ number_in_place cycle i) ⊎ S (number_in_place cycle 0) (number_in_place cycle i)
    from_first zero lt = inl refl
    from_first (suc i) lt =
        let e : i + 1 ≡ suc i = omega arith in
        let on : S (number_in_place cycle i) (number_in_place cycle (suc i)) = subst (λ j. S (number_in_place cycle i) (number_in_place cycle j)) e (steps _ _ (is.onward i (omega arith))) in
        inr (⊎_elim
        (λ (here : number_in_place cycle 0 ≡ number_in_place cycle i). subst (λ x. S x (number_in_place cycle (suc i))) (sym here) on)
        (λ (before : S (number_in_place cycle 0) (number_in_place cycle i)). joins _ _ _ before on)
        (from_first i (omega arith)))

    at_end : (n : ℕ) → length cycle ≡ n → 0 < n → ⊥
    at_end zero size some = let bad : ⊥ = omega arith in bad
    at_end (suc i) size some =
        let last : i + 1 ≡ length cycle = omega arith in
        let round : S (number_in_place cycle i) (number_in_place cycle 0) = steps _ _ (is.round i last) in
        ⊎_elim
        (λ (here : number_in_place cycle 0 ≡ number_in_place cycle i). never (number_in_place cycle i) (subst (λ x. S (number_in_place cycle i) x) here round))
        (λ (before : S (number_in_place cycle 0) (number_in_place cycle i)). never (number_in_place cycle 0) (joins _ _ _ before round))
        (from_first i (omega arith))
