-- Among the runs of a kind from a node one costs the least, if there is any: a run that goes over an edge twice has a shorter one.
use Rattle.std.proofs.Common.{◌≡◌, ℕ, zero, suc, ◌+◌, ◌*◌, ◌<◌, ◌≤◌, Bool, true, false, ◌||◌, nat_eq, ◌⊎◌, inl, inr, ⊎_elim, List, [], ◌∷◌, length, Option, Some, None, refl, sym, ap, ◌∙◌, subst, arith, eqb-true, mul-le-mul_right}
use Rattle.std.specs.List.{AllByRecursion, IsDistinct, list_any}
use Rattle.std.proofs.lemmas.Bool.{cases_Bool, cases_lt, cases_eq}
use Rattle.std.proofs.lemmas.Map.Steps.{length-le_from_distinct_below}
use Rattle.cost_theory.specs.Graph.{Graph, total}
use Rattle.cost_theory.specs.Least.{IsLeastIfAny}
use Rattle.cost_theory.specs.LeastTurns.{IsRun}
use Rattle.cost_theory.proofs.Laws.{below_suc, some_same}
use Rattle.cycle_laws.specs.LeastLaws.{LeastWithinEdges}

-- ---- least values

pub least_or : {A : Type 0} (P Q : A → Type 0) (value : A → ℕ) (a b : Option ℕ) → IsLeastIfAny P value a → IsLeastIfAny Q value b → (o : Option ℕ) × IsLeastIfAny (λ x. P x ⊎ Q x) value o
least_or P Q value None None p q = (None, λ x h. ⊎_elim (λ i. p x i) (λ i. q x i) h)
least_or P Q value None (Some y) p q = (Some y, record { reached = (q.reached.0, inr q.reached.1, q.reached.2); least = λ x h. ⊎_elim (λ i. absurd (p x i)) (λ i. q.least x i) h })
least_or P Q value (Some x) None p q = (Some x, record { reached = (p.reached.0, inl p.reached.1, p.reached.2); least = λ y h. ⊎_elim (λ i. p.least y i) (λ i. absurd (q y i)) h })
least_or P Q value (Some x) (Some y) p q = ⊎_elim
    (λ (l : x < y). (Some x, record { reached = (p.reached.0, inl p.reached.1, p.reached.2); least = λ z h. ⊎_elim (λ i. p.least z i) (λ i. (let r : y ≤ value z = q.least z i in let s : x ≤ value z = omega arith in s)) h }))
    (λ (ge : y ≤ x). (Some y, record { reached = (q.reached.0, inr q.reached.1, q.reached.2); least = λ z h. ⊎_elim (λ i. (let r : x ≤ value z = p.least z i in let s : y ≤ value z = omega arith in s)) (λ i. q.least z i) h }))
    (cases_lt x y)

pub least_as : {A : Type 0} (P Q : A → Type 0) (value : A → ℕ) (o : Option ℕ) → ((x : A) → P x → Q x) → ((x : A) → Q x → P x) → IsLeastIfAny P value o → IsLeastIfAny Q value o
least_as P Q value None there back h = λ x q. h x (back x q)
least_as P Q value (Some m) there back h = record { reached = (h.reached.0, there h.reached.0 h.reached.1, h.reached.2); least = λ x q. h.least x (back x q) }

none_equal : (q : ℕ) (xs : List ℕ) → list_any (nat_eq q) xs ≡ false → AllByRecursion (λ y. nat_eq q y ≡ false) xs
none_equal q [] h = tt
none_equal q (x ∷ xs) h = (left (nat_eq q x) (list_any (nat_eq q) xs) h, none_equal q xs (right (nat_eq q x) (list_any (nat_eq q) xs) h))
  where
    left : (a b : Bool) → (a || b) ≡ false → a ≡ false
    left a b h = grind arith

    right : (a b : Bool) → (a || b) ≡ false → b ≡ false
    right a b h = grind arith

or_cases : (a b : Bool) → (a || b) ≡ true → (a ≡ true) ⊎ (b ≡ true)
or_cases true b h = inl refl
or_cases false b h = inr h

module _ (g : Graph) (last step : ℕ → Bool) (c : ℕ → ℕ) where
  abbrev pub Run : Option ℕ → List ℕ → Type 0
  Run p es = IsRun g false last step p es

  -- the rest of a run from an edge of it on
  abbrev From : ℕ → ℕ → Type 0
  From e x = (es : List ℕ) × Run (Some (g.source e)) (e ∷ es) × IsDistinct nat_eq (e ∷ es) × (total c (e ∷ es) ≤ x)

  from_in : (e : ℕ) (fs : List ℕ) (p : Option ℕ) → Run p fs → IsDistinct nat_eq fs → list_any (nat_eq e) fs ≡ true → From e (total c fs)
  unfolding IsDistinct
  from_in e [] p run distinct h = let bad : ⊥ = cc in absurd bad
  from_in e (f ∷ fs) p run distinct h = ⊎_elim
      (λ (here : nat_eq e f ≡ true). subst (λ i. From i (total c (f ∷ fs))) (sym (eqb-true e f here)) (fs, (run.0, refl, run.2), distinct, (let r : total c (f ∷ fs) ≤ total c (f ∷ fs) = omega arith in r)))
      (λ (later : list_any (nat_eq e) fs ≡ true). ⊎_elim
      (λ (a : (last f ≡ true) × (fs ≡ [])). let q : list_any (nat_eq e) [] ≡ true = subst (λ xs. list_any (nat_eq e) xs ≡ true) a.1 later in let bad : ⊥ = cc in absurd bad)
      (λ (a : (step f ≡ true) × Run (g.target f) fs).
      let r : From e (total c fs) = from_in e fs (g.target f) a.1 distinct.1 later in
      (r.0, r.1, r.2, (let le : total c (e ∷ r.0) ≤ total c fs = r.3 in let s : total c (e ∷ r.0) ≤ c f + total c fs = omega arith in s)))
      run.2)
      (or_cases (nat_eq e f) (list_any (nat_eq e) fs) h)

  -- a run that goes over each edge once, and costs no more
  pub shorten : (es : List ℕ) (p : Option ℕ) → Run p es → (fs : List ℕ) × Run p fs × IsDistinct nat_eq fs × (total c fs ≤ total c es)
  unfolding IsDistinct
  shorten [] p run = let q : false ≡ true = run in let bad : ⊥ = cc in absurd bad
  shorten (e ∷ es) p run = ⊎_elim
      (λ (a : (last e ≡ true) × (es ≡ [])). (e ∷ [], (run.0, run.1, inl (a.0, refl)), (tt, tt), (let r : c e + 0 ≤ c e + total c es = omega arith in r)))
      (λ (a : (step e ≡ true) × Run (g.target e) es). longer a.0 (shorten es (g.target e) a.1))
      run.2
    where
      longer : step e ≡ true → (fs : List ℕ) × Run (g.target e) fs × IsDistinct nat_eq fs × (total c fs ≤ total c es) → (fs : List ℕ) × Run p fs × IsDistinct nat_eq fs × (total c fs ≤ c e + total c es)
      longer st ih = ⊎_elim
          (λ (there : list_any (nat_eq e) ih.0 ≡ true).
          let r : From e (total c ih.0) = from_in e ih.0 (g.target e) ih.1 ih.2 there in
          (e ∷ r.0, subst (λ o. Run o (e ∷ r.0)) (sym run.1) r.1, r.2, (let le : total c (e ∷ r.0) ≤ total c ih.0 = r.3 in let le2 : total c ih.0 ≤ total c es = ih.3 in let s : total c (e ∷ r.0) ≤ c e + total c es = omega arith in s)))
          (λ (fresh : list_any (nat_eq e) ih.0 ≡ false).
          (e ∷ ih.0, (run.0, run.1, inr (st, ih.1)), (none_equal e ih.0 fresh, ih.2), (let le : total c ih.0 ≤ total c es = ih.3 in let s : c e + total c ih.0 ≤ c e + total c es = omega arith in s)))
          (cases_Bool (list_any (nat_eq e) ih.0))

  pub low : (es : List ℕ) (p : Option ℕ) → Run p es → (q : ℕ) → list_any (nat_eq q) es ≡ true → q < g.edges
  low [] p run q h = let bad : ⊥ = cc in absurd bad
  low (e ∷ es) p run q h = ⊎_elim
      (λ (here : nat_eq q e ≡ true). subst (λ i. i < g.edges) (sym (eqb-true q e here)) run.0)
      (λ (later : list_any (nat_eq q) es ≡ true). ⊎_elim
      (λ (a : (last e ≡ true) × (es ≡ [])). let z : list_any (nat_eq q) [] ≡ true = subst (λ xs. list_any (nat_eq q) xs ≡ true) a.1 later in let bad : ⊥ = cc in absurd bad)
      (λ (a : (step e ≡ true) × Run (g.target e) es). low es (g.target e) a.1 q later)
      run.2)
      (or_cases (nat_eq q e) (list_any (nat_eq q) es) h)

  -- ---- runs of so many edges at most
  abbrev Within : ℕ → ℕ → List ℕ → Type 0
  Within m v es = Run (Some v) es × (length es ≤ m)

  abbrev Ends : ℕ → List ℕ → Type 0
  Ends i es = (es ≡ i ∷ []) × (last i ≡ true)

  abbrev Goes : ℕ → ℕ → List ℕ → Type 0
  Goes m i es = (fs : List ℕ) × (es ≡ i ∷ fs) × (step i ≡ true) × ((u : ℕ) × (g.target i ≡ Some u) × Within m u fs)

  abbrev FirstIs : ℕ → ℕ → ℕ → List ℕ → Type 0
  FirstIs m v i es = (i < g.edges) × (g.source i ≡ v) × (Ends i es ⊎ Goes m i es)

  abbrev FirstBelow : ℕ → ℕ → ℕ → List ℕ → Type 0
  FirstBelow m v n es = (i : ℕ) × (i < n) × FirstIs m v i es

  ends_least : (i : ℕ) → (o : Option ℕ) × IsLeastIfAny (Ends i) (total c) o
  ends_least i = go (last i) refl
    where
      go : (b : Bool) → last i ≡ b → (o : Option ℕ) × IsLeastIfAny (Ends i) (total c) o
      go false h = (None, λ es e. (let q : last i ≡ true = e.1 in let bad : ⊥ = cc in bad))
      go true h = (Some (c i + 0), record { reached = (i ∷ [], (refl, h), refl); least = λ es e. (let q : total c es ≡ c i + 0 = ap (total c) e.0 in omega arith) })

  goes_least : (m i : ℕ) → ((u : ℕ) → (o : Option ℕ) × IsLeastIfAny (Within m u) (total c) o) → (o : Option ℕ) × IsLeastIfAny (Goes m i) (total c) o
  goes_least m i ih = go (step i) (g.target i) refl refl
    where
      after : (u : ℕ) → step i ≡ true → g.target i ≡ Some u → (o : Option ℕ) → IsLeastIfAny (Within m u) (total c) o → (o : Option ℕ) × IsLeastIfAny (Goes m i) (total c) o
      after u st to None h = (None, λ es e. h e.0 (subst (λ x. Within m x e.0) (some_same _ _ (sym e.3.1 ∙ to)) e.3.2))
      after u st to (Some x) h = (
        Some (c i + x),
        record {
          reached = (i ∷ h.reached.0, (h.reached.0, refl, st, (u, to, h.reached.1)), ap (λ y. c i + y) h.reached.2);
          least = λ es e.
              let le : x ≤ total c e.0 = h.least e.0 (subst (λ x. Within m x e.0) (some_same _ _ (sym e.3.1 ∙ to)) e.3.2) in
              let q : total c es ≡ c i + total c e.0 = ap (total c) e.1 in
              omega arith;
        },
      )

      go : (b : Bool) (t : Option ℕ) → step i ≡ b → g.target i ≡ t → (o : Option ℕ) × IsLeastIfAny (Goes m i) (total c) o
      go false t st to = (None, λ es e. (let q : step i ≡ true = e.2 in let bad : ⊥ = cc in bad))
      go true None st to = (None, λ es e. (let q : None ≡ Some e.3.0 = sym to ∙ e.3.1 in let bad : ⊥ = cc in bad))
      go true (Some u) st to = after u st to (ih u).0 (ih u).1

  first_least : (m v i : ℕ) → ((u : ℕ) → (o : Option ℕ) × IsLeastIfAny (Within m u) (total c) o) → (o : Option ℕ) × IsLeastIfAny (FirstIs m v i) (total c) o
  first_least m v i ih = ⊎_elim
      (λ (lt : i < g.edges). ⊎_elim
      (λ (e : g.source i ≡ v).
      let both = least_or (Ends i) (Goes m i) (total c) (ends_least i).0 (goes_least m i ih).0 (ends_least i).1 (goes_least m i ih).1 in
      (both.0, least_as (λ es. Ends i es ⊎ Goes m i es) (FirstIs m v i) (total c) both.0 (λ es h. (lt, e, h)) (λ es h. h.2) both.1))
      (λ (ne : g.source i ≡ v → ⊥). (None, λ es h. ne h.1))
      (cases_eq (g.source i) v))
      (λ (ge : g.edges ≤ i). (None, λ es h. (let l : i < g.edges = h.0 in let bad : ⊥ = omega arith in bad)))
      (cases_lt i g.edges)

  below_least : (m v n : ℕ) → ((u : ℕ) → (o : Option ℕ) × IsLeastIfAny (Within m u) (total c) o) → (o : Option ℕ) × IsLeastIfAny (FirstBelow m v n) (total c) o
  below_least m v zero ih = (None, λ es h. (let l : h.0 < 0 = h.1 in let bad : ⊥ = omega arith in bad))
  below_least m v (suc n) ih =
      let one = below_least m v n ih in
      let other = first_least m v n ih in
      let both = least_or (FirstBelow m v n) (FirstIs m v n) (total c) one.0 other.0 one.1 other.1 in (
        both.0,
        least_as (λ es. FirstBelow m v n es ⊎ FirstIs m v n es) (FirstBelow m v (suc n)) (total c) both.0
            (λ es h. ⊎_elim (λ (b : FirstBelow m v n es). (b.0, (let l : b.0 < n = b.1 in let r : b.0 < suc n = omega arith in r), b.2)) (λ (f : FirstIs m v n es). (n, (let r : n < suc n = omega arith in r), f)) h)
            (λ es h. ⊎_elim (λ (l : h.0 < n). inl (h.0, l, h.2)) (λ (e : h.0 ≡ n). inr (subst (λ i. FirstIs m v i es) e h.2)) (below_suc h.0 n h.1)) both.1,
      )

  within_least : (m v : ℕ) → (o : Option ℕ) × IsLeastIfAny (Within m v) (total c) o
  within_least zero v = (None, none)
    where
      none : (es : List ℕ) → Within 0 v es → ⊥
      none [] h = let q : false ≡ true = h.0 in let bad : ⊥ = cc in bad
      none (e ∷ es) h = let l : length (e ∷ es) ≤ 0 = h.1 in let bad : ⊥ = omega arith in bad
  within_least (suc m) v =
      let r = below_least m v g.edges (λ u. within_least m u) in
      (r.0, least_as (FirstBelow m v g.edges) (Within (suc m) v) (total c) r.0 there back r.1)
    where
      there : (es : List ℕ) → FirstBelow m v g.edges es → Within (suc m) v es
      there es h = ⊎_elim
          (λ (e : Ends h.0 es). subst (λ xs. Within (suc m) v xs) (sym e.0) ((h.2.0, ap Some (sym h.2.1), inl (e.1, refl)), (let r : 1 ≤ suc m = omega arith in r)))
          (λ (e : Goes m h.0 es). subst (λ xs. Within (suc m) v xs) (sym e.1)
          ((h.2.0, ap Some (sym h.2.1), inr (e.2, subst (λ o. Run o e.0) (sym e.3.1) e.3.2.0)), (let l : length e.0 ≤ m = e.3.2.1 in let r : suc (length e.0) ≤ suc m = omega arith in r)))
          h.2.2

      back : (es : List ℕ) → Within (suc m) v es → FirstBelow m v g.edges es
      back [] h = let q : false ≡ true = h.0 in let bad : ⊥ = cc in absurd bad
      back (e ∷ es) h = (
        e,
        h.0.0,
        (
          h.0.0,
          sym (some_same _ _ h.0.1),
          ⊎_elim
              (λ (a : (last e ≡ true) × (es ≡ [])). inl (ap (λ xs. e ∷ xs) a.1, a.0))
              (λ (a : (step e ≡ true) × Run (g.target e) es). inr (es, refl, a.0, at (g.target e) refl a.1))
              h.0.2,
        ),
      )
        where
          at : (o : Option ℕ) → g.target e ≡ o → Run o es → (u : ℕ) × (g.target e ≡ Some u) × Within m u es
          at None to run = absurd (nowhere es run)
            where
              nowhere : (xs : List ℕ) → Run None xs → ⊥
              nowhere [] r = let q : false ≡ true = r in let bad : ⊥ = cc in bad
              nowhere (x ∷ xs) r = let q : None ≡ Some (g.source x) = r.1 in let bad : ⊥ = cc in bad
          at (Some u) to run = (u, to, (run, (let l : suc (length es) ≤ suc m = h.1 in let r : length es ≤ m = omega arith in r)))

  -- each edge once at most
  pub few_edges : (most : ℕ) → ((e : ℕ) → e < g.edges → c e ≤ most) → (es : List ℕ) (p : Option ℕ) → Run p es → (fs : List ℕ) × Run p fs × (total c fs ≤ g.edges * most)
  few_edges most low_costs es p run =
      let r = shorten es p run in
      let short : length r.0 ≤ g.edges = length-le_from_distinct_below r.0 g.edges r.2 (low r.0 p r.1) in
      let sum : total c r.0 ≤ length r.0 * most = sum_of r.0 p r.1 in
      let top : length r.0 * most ≤ g.edges * most = mul-le-mul_right most short in
      (r.0, r.1, omega arith)
    where
      sum_of : (fs : List ℕ) (p : Option ℕ) → Run p fs → total c fs ≤ length fs * most
      sum_of [] p run = omega arith
      sum_of (e ∷ es) p run = ⊎_elim
          (λ (a : (last e ≡ true) × (es ≡ [])).
          let z : total c es ≡ 0 = ap (total c) a.1 in
          let le : c e ≤ most = low_costs e run.0 in
          let q : suc (length es) * most ≡ most + length es * most = omega arith in
          let r : c e + total c es ≤ suc (length es) * most = omega arith in r)
          (λ (a : (step e ≡ true) × Run (g.target e) es).
          let ih : total c es ≤ length es * most = sum_of es (g.target e) a.1 in
          let le : c e ≤ most = low_costs e run.0 in
          let q : suc (length es) * most ≡ most + length es * most = omega arith in
          let r : c e + total c es ≤ suc (length es) * most = omega arith in r)
          run.2

  -- one of all runs
  pub run_least : (v : ℕ) → (o : Option ℕ) × IsLeastIfAny (Run (Some v)) (total c) o
  run_least v = ((within_least g.edges v).0, whole (within_least g.edges v).0 (within_least g.edges v).1)
    where
      short : (es : List ℕ) → Run (Some v) es → (fs : List ℕ) × Within g.edges v fs × (total c fs ≤ total c es)
      short es run = let r = shorten es (Some v) run in (r.0, (r.1, length-le_from_distinct_below r.0 g.edges r.2 (low r.0 (Some v) r.1)), r.3)

      whole : (o : Option ℕ) → IsLeastIfAny (Within g.edges v) (total c) o → IsLeastIfAny (Run (Some v)) (total c) o
      whole None h = λ es run. (let r = short es run in h r.0 r.1)
      whole (Some x) h = record {
        reached = (h.reached.0, h.reached.1.0, h.reached.2);
        least = λ es run. (let r = short es run in let le : x ≤ total c r.0 = h.least r.0 r.1 in let le2 : total c r.0 ≤ total c es = r.2 in omega arith);
      }

pub within_edges : LeastWithinEdges
within_edges g last step c v x most h low_costs =
    let r = few_edges g last step c most low_costs h.reached.0 (Some v) h.reached.1 in
    let le : x ≤ total c r.0 = h.least r.0 r.1 in
    let top : total c r.0 ≤ g.edges * most = r.2 in
    omega arith
