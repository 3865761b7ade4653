-- Finite graphs in which no steps lead from a node back to it: their nodes have an order, by the most steps that lead on.
use Rattle.std.proofs.Common.{◌≡◌, ℕ, zero, suc, ◌<◌, ◌≤◌, Bool, true, false, cond, ◌&&◌, ◌||◌, ◌⊎◌, inl, inr, nat_eq, List, [], ◌∷◌, length, Option, Some, None, refl, sym, ap, ◌∙◌, subst, arith, ⊎_elim, eqb-true, eq-eqb}
use Rattle.std.specs.List.{AllByRecursion, IsDistinct, list_any}
use Rattle.std.proofs.lemmas.Map.Steps.{length-le_from_distinct_below}
use Rattle.cost_theory.specs.Graph.{Graph, end_of, any_below}
use Rattle.cost_theory.proofs.Basics.{search_below, and_left, and_right, and_both}
use Rattle.cost_theory.proofs.Exists.{any-none, none-any}
use Rattle.cost_theory.proofs.Contexts.{is_number, number-some}

-- steps over the edges that pass a test
abbrev pub AreSteps : Graph → (ℕ → Bool) → Option ℕ → List ℕ → Type 0
AreSteps g step p [] = Unit {0}
AreSteps g step p (e ∷ es) = (e < g.edges) × (p ≡ Some (g.source e)) × (step e ≡ true) × AreSteps g step (g.target e) es

-- whether so many steps lead on from a place
abbrev pub do_steps_lead : Graph → (ℕ → Bool) → ℕ → Option ℕ → Bool
do_steps_lead g step zero p = true
do_steps_lead g step (suc m) p = any_below g.edges (λ e. is_number (g.source e) p && (step e && do_steps_lead g step m (g.target e)))

pub any-found : (n : ℕ) (p : ℕ → Bool) → any_below n p ≡ true → (k : ℕ) × (k < n) × (p k ≡ true)
any-found n p h = ⊎_elim (λ found. found) (λ none. let q : any_below n p ≡ false = none-any n p none in let bad : ⊥ = cc in absurd bad) (search_below n p)

pub any-some : (n : ℕ) (p : ℕ → Bool) (k : ℕ) → k < n → p k ≡ true → any_below n p ≡ true
any-some n p k lt h = go (any_below n p) refl
  where
    go : (b : Bool) → any_below n p ≡ b → any_below n p ≡ true
    go true is = is
    go false is = let q : p k ≡ false = any-none n p is k lt in let bad : ⊥ = cc in absurd bad

-- the greatest number up to n that passes a test
abbrev pub top : ℕ → (ℕ → Bool) → ℕ
top zero p = 0
top (suc n) p = cond (p (suc n)) (suc n) (top n p)

pub top-holds : (n : ℕ) (p : ℕ → Bool) → p 0 ≡ true → p (top n p) ≡ true
top-holds zero p at = at
top-holds (suc n) p at = go (p (suc n)) refl (top-holds n p at)
  where
    go : (b : Bool) → p (suc n) ≡ b → p (top n p) ≡ true → p (cond b (suc n) (top n p)) ≡ true
    go true is below = is
    go false is below = below

pub top-most : (n : ℕ) (p : ℕ → Bool) (k : ℕ) → k ≤ n → p k ≡ true → k ≤ top n p
top-most zero p k le h = le
top-most (suc n) p k le h = go (p (suc n)) refl (λ low. top-most n p k low h)
  where
    go : (b : Bool) → p (suc n) ≡ b → (k ≤ n → k ≤ top n p) → k ≤ cond b (suc n) (top n p)
    go true is below = le
    go false is below = below (last (k_is k n le))
      where
        k_is : (k n : ℕ) → k ≤ suc n → (k ≤ n) ⊎ (k ≡ suc n)
        k_is k n h = grind arith

        last : (k ≤ n) ⊎ (k ≡ suc n) → k ≤ n
        last (inl low) = low
        last (inr e) = let q : p k ≡ false = ap p e ∙ is in let bad : ⊥ = cc in absurd bad

module _ (g : Graph) (step : ℕ → Bool) where
  pub steps_found : (m : ℕ) (p : Option ℕ) → do_steps_lead g step m p ≡ true → (es : List ℕ) × AreSteps g step p es × (length es ≡ m)
  steps_found zero p h = ([], tt, refl)
  steps_found (suc m) p h = go (any-found g.edges (λ e. is_number (g.source e) p && (step e && do_steps_lead g step m (g.target e))) h) (λ o r. steps_found m o r)
    where
      go : (e : ℕ) × (e < g.edges) × ((is_number (g.source e) p && (step e && do_steps_lead g step m (g.target e))) ≡ true) →
          ((o : Option ℕ) → do_steps_lead g step m o ≡ true → (es : List ℕ) × AreSteps g step o es × (length es ≡ m)) → (es : List ℕ) × AreSteps g step p es × (length es ≡ suc m)
      go f further =
          let both : (step f.0 && do_steps_lead g step m (g.target f.0)) ≡ true = and_right (is_number (g.source f.0) p) (step f.0 && do_steps_lead g step m (g.target f.0)) f.2 in
          let more : (es : List ℕ) × AreSteps g step (g.target f.0) es × (length es ≡ m) = further (g.target f.0) (and_right (step f.0) (do_steps_lead g step m (g.target f.0)) both) in (
            f.0 ∷ more.0,
            (f.1, number-some (g.source f.0) p (and_left (is_number (g.source f.0) p) (step f.0 && do_steps_lead g step m (g.target f.0)) f.2), and_left (step f.0) (do_steps_lead g step m (g.target f.0)) both, more.1),
            ap suc more.2,
          )

  pub step_before : (e m : ℕ) → e < g.edges → step e ≡ true → do_steps_lead g step m (g.target e) ≡ true → do_steps_lead g step (suc m) (Some (g.source e)) ≡ true
  step_before e m lt passes h = any-some g.edges (λ d. is_number (g.source d) (Some (g.source e)) && (step d && do_steps_lead g step m (g.target d))) e lt
      (and_both (is_number (g.source e) (Some (g.source e))) (step e && do_steps_lead g step m (g.target e)) (eq-eqb (g.source e) (g.source e) refl)
      (and_both (step e) (do_steps_lead g step m (g.target e)) passes h))

  -- the nodes of such steps are numbered apart, below a size
  module _ (size : ℕ) (label : ℕ → ℕ) (In : ℕ → Type 0)
      (starts : (e : ℕ) → e < g.edges → step e ≡ true → In (g.source e))
      (leads : (e : ℕ) → e < g.edges → step e ≡ true → (u : ℕ) × (g.target e ≡ Some u) × In u)
      (fits : (v : ℕ) → In v → label v < size)
      (apart : (u v : ℕ) → In u → In v → label u ≡ label v → u ≡ v)
      (acyclic : (v e : ℕ) (es : List ℕ) → AreSteps g step (Some v) (e ∷ es) → end_of g (Some v) (e ∷ es) ≡ Some v → ⊥) where
    abbrev pub visited : Option ℕ → List ℕ → List ℕ
    visited None es = []
    visited (Some v) [] = label v ∷ []
    visited (Some v) (e ∷ es) = label v ∷ visited (g.target e) es

    pub visited-length : (es : List ℕ) (v : ℕ) → AreSteps g step (Some v) es → length (visited (Some v) es) ≡ suc (length es)
    visited-length [] v are = refl
    visited-length (e ∷ es) v are =
        let u : (u : ℕ) × (g.target e ≡ Some u) × In u = leads e are.0 are.2 in
        ap suc (ap (λ o. length (visited o es)) u.1 ∙ visited-length es u.0 (subst (λ o. AreSteps g step o es) u.1 are.3))

    -- a number among them is that of a node that the steps come to
    pub visited-found : (es : List ℕ) (u q : ℕ) → In u → AreSteps g step (Some u) es → list_any (nat_eq q) (visited (Some u) es) ≡ true →
        (v : ℕ) × In v × (label v ≡ q) × ((xs : List ℕ) × AreSteps g step (Some u) xs × (end_of g (Some u) xs ≡ Some v))
    visited-found [] u q in_u are h = go (nat_eq q (label u)) refl h
      where
        go : (b : Bool) → nat_eq q (label u) ≡ b → (b || false) ≡ true →
            (v : ℕ) × In v × (label v ≡ q) × ((xs : List ℕ) × AreSteps g step (Some u) xs × (end_of g (Some u) xs ≡ Some v))
        go true is h = (u, in_u, sym (eqb-true q (label u) is), ([], tt, refl))
        go false is h = let bad : ⊥ = cc in absurd bad
    visited-found (e ∷ es) u q in_u are h = go (nat_eq q (label u)) refl h (leads e are.0 are.2) (λ t in_t more found. visited-found es t q in_t more found)
      where
        go : (b : Bool) → nat_eq q (label u) ≡ b → (b || list_any (nat_eq q) (visited (g.target e) es)) ≡ true → (t : ℕ) × (g.target e ≡ Some t) × In t →
            ((t : ℕ) → In t → AreSteps g step (Some t) es → list_any (nat_eq q) (visited (Some t) es) ≡ true →
            (v : ℕ) × In v × (label v ≡ q) × ((xs : List ℕ) × AreSteps g step (Some t) xs × (end_of g (Some t) xs ≡ Some v))) →
            (v : ℕ) × In v × (label v ≡ q) × ((xs : List ℕ) × AreSteps g step (Some u) xs × (end_of g (Some u) xs ≡ Some v))
        go true is h t ih = (u, in_u, sym (eqb-true q (label u) is), ([], tt, refl))
        go false is h t ih =
            let r : (v : ℕ) × In v × (label v ≡ q) × ((xs : List ℕ) × AreSteps g step (Some t.0) xs × (end_of g (Some t.0) xs ≡ Some v)) =
            ih t.0 t.2 (subst (λ o. AreSteps g step o es) t.1 are.3) (subst (λ o. list_any (nat_eq q) (visited o es) ≡ true) t.1 h) in (
              r.0,
              r.1,
              r.2,
              (
                e ∷ r.3.0,
                (are.0, are.1, are.2, subst (λ o. AreSteps g step o r.3.0) (sym t.1) r.3.1),
                ap (λ o. end_of g o r.3.0) t.1 ∙ r.3.2,
              ),
            )

    pub none_equal : (q : ℕ) (xs : List ℕ) → list_any (nat_eq q) xs ≡ false → AllByRecursion (λ y. nat_eq q y ≡ false) xs
    none_equal q [] h = tt
    none_equal q (x ∷ xs) h = (left (nat_eq q x) (list_any (nat_eq q) xs) h, none_equal q xs (right (nat_eq q x) (list_any (nat_eq q) xs) h))
      where
        left : (a b : Bool) → (a || b) ≡ false → a ≡ false
        left a b h = grind arith

        right : (a b : Bool) → (a || b) ≡ false → b ≡ false
        right a b h = grind arith

    -- no two of them are equal
    pub visited-distinct : (es : List ℕ) (v : ℕ) → In v → AreSteps g step (Some v) es → IsDistinct nat_eq (visited (Some v) es)
    unfolding IsDistinct
    visited-distinct [] v in_v are = (tt, tt)
    visited-distinct (e ∷ es) v in_v are =
        let u : (u : ℕ) × (g.target e ≡ Some u) × In u = leads e are.0 are.2 in
        let more : AreSteps g step (Some u.0) es = subst (λ o. AreSteps g step o es) u.1 are.3 in (
          none_equal (label v) (visited (g.target e) es) (fresh (list_any (nat_eq (label v)) (visited (g.target e) es)) refl u more),
          subst (λ o. IsDistinct nat_eq (visited o es)) (sym u.1) (visited-distinct es u.0 u.2 more),
        )
      where
        fresh : (b : Bool) → list_any (nat_eq (label v)) (visited (g.target e) es) ≡ b → (u : (u : ℕ) × (g.target e ≡ Some u) × In u) → AreSteps g step (Some u.0) es →
            list_any (nat_eq (label v)) (visited (g.target e) es) ≡ false
        fresh false is u more = is
        fresh true is u more =
            let r : (t : ℕ) × In t × (label t ≡ label v) × ((xs : List ℕ) × AreSteps g step (Some u.0) xs × (end_of g (Some u.0) xs ≡ Some t)) =
            visited-found es u.0 (label v) u.2 more (subst (λ o. list_any (nat_eq (label v)) (visited o es) ≡ true) u.1 is) in
            let back : r.0 ≡ v = apart r.0 v r.1 in_v r.2 in
            absurd (acyclic v e r.3.0 (are.0, are.1, are.2, subst (λ o. AreSteps g step o r.3.0) (sym u.1) r.3.1)
            (ap (λ o. end_of g o r.3.0) u.1 ∙ r.3.2 ∙ ap Some back))

    pub visited-below : (es : List ℕ) (v : ℕ) → In v → AreSteps g step (Some v) es → (q : ℕ) → list_any (nat_eq q) (visited (Some v) es) ≡ true → q < size
    visited-below es v in_v are q h =
        let r : (t : ℕ) × In t × (label t ≡ q) × ((xs : List ℕ) × AreSteps g step (Some v) xs × (end_of g (Some v) xs ≡ Some t)) = visited-found es v q in_v are h in
        subst (λ x. x < size) r.2 (fits r.0 r.1)

    -- so there are fewer steps than numbers
    pub steps-lt : (es : List ℕ) (v : ℕ) → In v → AreSteps g step (Some v) es → length es < size
    steps-lt es v in_v are =
        let most : length (visited (Some v) es) ≤ size = length-le_from_distinct_below (visited (Some v) es) size (visited-distinct es v in_v are) (visited-below es v in_v are) in
        let q : length (visited (Some v) es) ≡ suc (length es) = visited-length es v are in
        omega arith

    -- the most steps that lead on from a node
    unfoldable pub rank : ℕ → ℕ
    rank v = top size (λ m. do_steps_lead g step m (Some v))

    pub rank-lt : (v : ℕ) → In v → rank v < size
    unfolding rank
    rank-lt v in_v =
        let held : do_steps_lead g step (top size (λ m. do_steps_lead g step m (Some v))) (Some v) ≡ true = top-holds size (λ m. do_steps_lead g step m (Some v)) refl in
        let r : (es : List ℕ) × AreSteps g step (Some v) es × (length es ≡ top size (λ m. do_steps_lead g step m (Some v))) = steps_found (top size (λ m. do_steps_lead g step m (Some v))) (Some v) held in
        subst (λ x. x < size) r.2 (steps-lt r.0 v in_v r.1)

    pub rank-falls : (e u : ℕ) → e < g.edges → step e ≡ true → g.target e ≡ Some u → rank u < rank (g.source e)
    unfolding rank
    rank-falls e u lt passes to =
        let held : do_steps_lead g step (top size (λ m. do_steps_lead g step m (Some u))) (Some u) ≡ true = top-holds size (λ m. do_steps_lead g step m (Some u)) refl in
        let before : do_steps_lead g step (suc (top size (λ m. do_steps_lead g step m (Some u)))) (Some (g.source e)) ≡ true =
        step_before e (top size (λ m. do_steps_lead g step m (Some u))) lt passes (subst (λ o. do_steps_lead g step (top size (λ m. do_steps_lead g step m (Some u))) o ≡ true) (sym to) held) in
        let r : (es : List ℕ) × AreSteps g step (Some (g.source e)) es × (length es ≡ suc (top size (λ m. do_steps_lead g step m (Some u)))) =
        steps_found (suc (top size (λ m. do_steps_lead g step m (Some u)))) (Some (g.source e)) before in
        let short : length r.0 < size = steps-lt r.0 (g.source e) (starts e lt passes) r.1 in
        let q : length r.0 ≡ suc (top size (λ m. do_steps_lead g step m (Some u))) = r.2 in
        let most : suc (top size (λ m. do_steps_lead g step m (Some u))) ≤ top size (λ m. do_steps_lead g step m (Some (g.source e))) =
        top-most size (λ m. do_steps_lead g step m (Some (g.source e))) (suc (top size (λ m. do_steps_lead g step m (Some u)))) (omega arith) before in
        omega arith
