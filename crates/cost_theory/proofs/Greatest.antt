-- Greatest values that are put together, and the greatest cost of a run over an acyclic part of a graph.
use Rattle.std.proofs.Common.{◌≡◌, ℕ, zero, suc, ◌+◌, ◌<◌, ◌≤◌, max, Bool, true, false, ◌⊎◌, inl, inr, nat_eq, List, [], ◌∷◌, Option, Some, None, refl, sym, ap, ◌∙◌, subst, arith, eqb-true, eq-eqb, ⊎_elim, le_refl}
use Rattle.cost_theory.proofs.Basics.{below_suc}
use Rattle.cost_theory.specs.Graph.{Graph, total}
use Rattle.cost_theory.specs.Worst.{IsGreatestIfAny}
use Rattle.cost_theory.specs.LeastTurns.{IsRun}

-- the greater of two optional numbers
abbrev pub greater : Option ℕ → Option ℕ → Option ℕ
greater None other = other
greater (Some a) None = Some a
greater (Some a) (Some b) = Some (max a b)

-- an optional number and a cost before it
abbrev pub plus : ℕ → Option ℕ → Option ℕ
plus c None = None
plus c (Some a) = Some (c + a)

-- a number where a test holds
abbrev pub where_true : Bool → Option ℕ → Option ℕ
where_true true o = o
where_true false o = None

pub greatest_or : {A : Type 0} (P Q : A → Type 0) (value : A → ℕ) (a b : Option ℕ) → IsGreatestIfAny P value a → IsGreatestIfAny Q value b →
    IsGreatestIfAny (λ x. P x ⊎ Q x) value (greater a b)
greatest_or P Q value None None p q = λ x either. ⊎_elim (p x) (q x) either
greatest_or P Q value None (Some b) p q = record {
  reached = (q.reached.0, inr q.reached.1, q.reached.2);
  most = λ x either. ⊎_elim (λ h. absurd (p x h)) (q.most x) either;
}
greatest_or P Q value (Some a) None p q = record {
  reached = (p.reached.0, inl p.reached.1, p.reached.2);
  most = λ x either. ⊎_elim (p.most x) (λ h. absurd (q x h)) either;
}
greatest_or {A = A} P Q value (Some a) (Some b) p q = record {
  reached = ⊎_elim
      (λ (le : a ≤ b). (let r : (x : A) × (P x ⊎ Q x) × (value x ≡ max a b) = (q.reached.0, inr q.reached.1, (let e : value q.reached.0 ≡ b = q.reached.2 in omega arith)) in r))
      (λ (le : b ≤ a). (let r : (x : A) × (P x ⊎ Q x) × (value x ≡ max a b) = (p.reached.0, inl p.reached.1, (let e : value p.reached.0 ≡ a = p.reached.2 in omega arith)) in r))
      (either a b);
  most = λ x e. ⊎_elim (λ h. let m : value x ≤ a = p.most x h in omega arith) (λ h. let m : value x ≤ b = q.most x h in omega arith) e;
}
  where
    either : (a b : ℕ) → (a ≤ b) ⊎ (b ≤ a)
    either a b = grind arith

-- the same things, under another name
pub greatest_as : {A : Type 0} (P Q : A → Type 0) (value : A → ℕ) (o : Option ℕ) → ((x : A) → P x → Q x) → ((x : A) → Q x → P x) →
    IsGreatestIfAny P value o → IsGreatestIfAny Q value o
greatest_as P Q value None to from p = λ x q. p x (from x q)
greatest_as P Q value (Some a) to from p = record {
  reached = (p.reached.0, to p.reached.0 p.reached.1, p.reached.2);
  most = λ x q. p.most x (from x q);
}

-- lists that begin with e
abbrev pub After : ℕ → (List ℕ → Type 0) → List ℕ → Type 0
After e P [] = ⊥
After e P (x ∷ xs) = (x ≡ e) × P xs

pub greatest_after : (c : ℕ → ℕ) (e : ℕ) (P : List ℕ → Type 0) (o : Option ℕ) → IsGreatestIfAny P (total c) o → IsGreatestIfAny (After e P) (total c) (plus (c e) o)
greatest_after c e P None p = go
  where
    go : (xs : List ℕ) → After e P xs → ⊥
    go [] h = h
    go (x ∷ xs) h = p xs h.1
greatest_after c e P (Some a) p = record {
  reached = (e ∷ p.reached.0, (refl, p.reached.1), ap (λ x. c e + x) p.reached.2);
  most = most;
}
  where
    most : (xs : List ℕ) → After e P xs → total c xs ≤ c e + a
    most [] h = absurd h
    most (x ∷ xs) h = let q : c x ≡ c e = ap c h.0 in let m : total c xs ≤ a = p.most xs h.1 in let r : c x + total c xs ≤ c e + a = omega arith in r

-- the best of the runs that begin with an edge below i, from a table of the best runs behind each edge
abbrev pub best_edge : Graph → (ℕ → Bool) → (ℕ → Bool) → (ℕ → ℕ) → (ℕ → Option ℕ) → ℕ → Option ℕ
best_edge g last step c behind e = greater (where_true (last e) (Some (c e + 0))) (where_true (step e) (plus (c e) (behind e)))

abbrev pub best_below : Graph → Bool → (ℕ → Bool) → (ℕ → Bool) → (ℕ → ℕ) → (ℕ → Option ℕ) → ℕ → ℕ → Option ℕ
best_below g anywhere last step c behind v zero = where_true anywhere (Some 0)
best_below g anywhere last step c behind v (suc i) =
    greater (best_below g anywhere last step c behind v i) (where_true (nat_eq (g.source i) v) (best_edge g last step c behind i))

-- a run's first edge is below i, if it has one
abbrev pub BeginsBelow : ℕ → List ℕ → Type 0
BeginsBelow i [] = Unit {0}
BeginsBelow i (e ∷ es) = e < i

-- what may follow edge e in a run
abbrev pub Follows : Graph → Bool → (ℕ → Bool) → (ℕ → Bool) → ℕ → List ℕ → Type 0
Follows g anywhere last step e es = ((last e ≡ true) × (es ≡ [])) ⊎ ((step e ≡ true) × IsRun g anywhere last step (g.target e) es)

module _ (g : Graph) (anywhere : Bool) (last step : ℕ → Bool) (c : ℕ → ℕ) (behind : ℕ → Option ℕ) where
  pub best_last : (e : ℕ) → IsGreatestIfAny (After e (λ xs. (last e ≡ true) × (xs ≡ []))) (total c) (where_true (last e) (Some (c e + 0)))
  best_last e = go (last e)
    where
      go : (b : Bool) → IsGreatestIfAny (After e (λ xs. (b ≡ true) × (xs ≡ []))) (total c) (where_true b (Some (c e + 0)))
      go true = record { reached = (e ∷ [], (refl, (refl, refl)), refl); most = most }
        where
          most : (xs : List ℕ) → After e (λ xs. (true ≡ true) × (xs ≡ [])) xs → total c xs ≤ c e + 0
          most [] h = absurd h
          most (x ∷ xs) h = let q : c x ≡ c e = ap c h.0 in let m : total c xs ≡ 0 = ap (total c) h.1.1 in let r : c x + total c xs ≤ c e + 0 = omega arith in r
      go false = none
        where
          none : (xs : List ℕ) → After e (λ xs. (false ≡ true) × (xs ≡ [])) xs → ⊥
          none [] h = h
          none (x ∷ xs) h = let q : false ≡ true = h.1.0 in let bad : ⊥ = cc in bad

  pub best_step : (e : ℕ) → (step e ≡ true → IsGreatestIfAny (IsRun g anywhere last step (g.target e)) (total c) (behind e)) →
      IsGreatestIfAny (After e (λ xs. (step e ≡ true) × IsRun g anywhere last step (g.target e) xs)) (total c) (where_true (step e) (plus (c e) (behind e)))
  best_step e known = go (step e) known
    where
      go : (b : Bool) → (b ≡ true → IsGreatestIfAny (IsRun g anywhere last step (g.target e)) (total c) (behind e)) →
          IsGreatestIfAny (After e (λ xs. (b ≡ true) × IsRun g anywhere last step (g.target e) xs)) (total c) (where_true b (plus (c e) (behind e)))
      go true h = greatest_as (After e (IsRun g anywhere last step (g.target e))) (After e (λ xs. (true ≡ true) × IsRun g anywhere last step (g.target e) xs)) (total c) (plus (c e) (behind e))
          to from (greatest_after c e (IsRun g anywhere last step (g.target e)) (behind e) (h refl))
        where
          to : (xs : List ℕ) → After e (IsRun g anywhere last step (g.target e)) xs → After e (λ xs. (true ≡ true) × IsRun g anywhere last step (g.target e) xs) xs
          to [] h = h
          to (x ∷ xs) h = (h.0, (refl, h.1))

          from : (xs : List ℕ) → After e (λ xs. (true ≡ true) × IsRun g anywhere last step (g.target e) xs) xs → After e (IsRun g anywhere last step (g.target e)) xs
          from [] h = h
          from (x ∷ xs) h = (h.0, h.1.1)
      go false h = none
        where
          none : (xs : List ℕ) → After e (λ xs. (false ≡ true) × IsRun g anywhere last step (g.target e) xs) xs → ⊥
          none [] h = h
          none (x ∷ xs) h = let q : false ≡ true = h.1.0 in let bad : ⊥ = cc in bad

  -- the runs that begin with edge e
  pub best_edge-is : (e : ℕ) → (step e ≡ true → IsGreatestIfAny (IsRun g anywhere last step (g.target e)) (total c) (behind e)) →
      IsGreatestIfAny (After e (Follows g anywhere last step e)) (total c) (best_edge g last step c behind e)
  best_edge-is e known = greatest_as
      (λ es. After e (λ xs. (last e ≡ true) × (xs ≡ [])) es ⊎ After e (λ xs. (step e ≡ true) × IsRun g anywhere last step (g.target e) xs) es)
      (After e (Follows g anywhere last step e)) (total c) (best_edge g last step c behind e) to from
      (greatest_or (After e (λ xs. (last e ≡ true) × (xs ≡ []))) (After e (λ xs. (step e ≡ true) × IsRun g anywhere last step (g.target e) xs)) (total c)
      (where_true (last e) (Some (c e + 0))) (where_true (step e) (plus (c e) (behind e))) (best_last e) (best_step e known))
    where
      to : (es : List ℕ) → (After e (λ xs. (last e ≡ true) × (xs ≡ [])) es ⊎ After e (λ xs. (step e ≡ true) × IsRun g anywhere last step (g.target e) xs) es) → After e (Follows g anywhere last step e) es
      to [] h = ⊎_elim (λ x. x) (λ x. x) h
      to (x ∷ xs) h = ⊎_elim (λ a. (a.0, inl a.1)) (λ b. (b.0, inr b.1)) h

      from : (es : List ℕ) → After e (Follows g anywhere last step e) es → (After e (λ xs. (last e ≡ true) × (xs ≡ [])) es ⊎ After e (λ xs. (step e ≡ true) × IsRun g anywhere last step (g.target e) xs) es)
      from [] h = absurd h
      from (x ∷ xs) h = ⊎_elim (λ a. inl (h.0, a)) (λ b. inr (h.0, b)) h.1

  -- the runs from v that begin with an edge below i
  pub best_below-is : (v i : ℕ) → i ≤ g.edges →
      ((e : ℕ) → e < g.edges → g.source e ≡ v → step e ≡ true → IsGreatestIfAny (IsRun g anywhere last step (g.target e)) (total c) (behind e)) →
      IsGreatestIfAny (λ es. IsRun g anywhere last step (Some v) es × BeginsBelow i es) (total c) (best_below g anywhere last step c behind v i)
  best_below-is v zero le known = go anywhere
    where
      go : (b : Bool) → IsGreatestIfAny (λ es. IsRun g b last step (Some v) es × BeginsBelow 0 es) (total c) (where_true b (Some 0))
      go true = record { reached = ([], (refl, tt), refl); most = most }
        where
          most : (xs : List ℕ) → IsRun g true last step (Some v) xs × BeginsBelow 0 xs → total c xs ≤ 0
          most [] h = le_refl 0
          most (x ∷ xs) h = let low : x < 0 = h.1 in let bad : ⊥ = omega arith in absurd bad
      go false = none
        where
          none : (xs : List ℕ) → IsRun g false last step (Some v) xs × BeginsBelow 0 xs → ⊥
          none [] h = let q : false ≡ true = h.0 in let bad : ⊥ = cc in bad
          none (x ∷ xs) h = let low : x < 0 = h.1 in let bad : ⊥ = omega arith in bad
  best_below-is v (suc i) le known = more (best_below-is v i (omega arith) known) (nat_eq (g.source i) v) refl
    where
      more : IsGreatestIfAny (λ es. IsRun g anywhere last step (Some v) es × BeginsBelow i es) (total c) (best_below g anywhere last step c behind v i) →
          (b : Bool) → nat_eq (g.source i) v ≡ b →
          IsGreatestIfAny (λ es. IsRun g anywhere last step (Some v) es × BeginsBelow (suc i) es) (total c)
          (greater (best_below g anywhere last step c behind v i) (where_true b (best_edge g last step c behind i)))
      more ih true is = greatest_as
          (λ es. (IsRun g anywhere last step (Some v) es × BeginsBelow i es) ⊎ After i (Follows g anywhere last step i) es)
          (λ es. IsRun g anywhere last step (Some v) es × BeginsBelow (suc i) es) (total c)
          (greater (best_below g anywhere last step c behind v i) (best_edge g last step c behind i)) to from
          (greatest_or (λ es. IsRun g anywhere last step (Some v) es × BeginsBelow i es) (After i (Follows g anywhere last step i)) (total c)
          (best_below g anywhere last step c behind v i) (best_edge g last step c behind i) ih (best_edge-is i (known i (omega arith) at)))
        where
          at : g.source i ≡ v
          at = eqb-true (g.source i) v is

          to : (es : List ℕ) → ((IsRun g anywhere last step (Some v) es × BeginsBelow i es) ⊎ After i (Follows g anywhere last step i) es) → IsRun g anywhere last step (Some v) es × BeginsBelow (suc i) es
          to [] h = ⊎_elim (λ a. (a.0, tt)) (λ b. absurd b) h
          to (x ∷ xs) h = ⊎_elim (λ a. (a.0, (let lt : x < i = a.1 in let r : x < suc i = omega arith in r)))
              (λ b. let eq : x ≡ i = b.0 in (
                (subst (λ y. y < g.edges) (sym eq) le, ap Some (sym (subst (λ y. g.source y ≡ v) (sym eq) at)), subst (λ y. Follows g anywhere last step y xs) (sym eq) b.1),
                (let r : x < suc i = omega arith in r),
              )) h

          from : (es : List ℕ) → IsRun g anywhere last step (Some v) es × BeginsBelow (suc i) es → (IsRun g anywhere last step (Some v) es × BeginsBelow i es) ⊎ After i (Follows g anywhere last step i) es
          from [] h = inl (h.0, tt)
          from (x ∷ xs) h = ⊎_elim (λ lt. inl (h.0, lt)) (λ eq. inr (eq, subst (λ y. Follows g anywhere last step y xs) eq h.0.2)) (below_suc x i h.1)
      more ih false is = greatest_as
          (λ es. (IsRun g anywhere last step (Some v) es × BeginsBelow i es) ⊎ (⊥ × (es ≡ es)))
          (λ es. IsRun g anywhere last step (Some v) es × BeginsBelow (suc i) es) (total c)
          (greater (best_below g anywhere last step c behind v i) None) to from
          (greatest_or (λ es. IsRun g anywhere last step (Some v) es × BeginsBelow i es) (λ es. ⊥ × (es ≡ es)) (total c)
          (best_below g anywhere last step c behind v i) None ih (λ x h. h.0))
        where
          to : (es : List ℕ) → ((IsRun g anywhere last step (Some v) es × BeginsBelow i es) ⊎ (⊥ × (es ≡ es))) → IsRun g anywhere last step (Some v) es × BeginsBelow (suc i) es
          to [] h = ⊎_elim (λ a. (a.0, tt)) (λ b. absurd b.0) h
          to (x ∷ xs) h = ⊎_elim (λ a. (a.0, (let lt : x < i = a.1 in let r : x < suc i = omega arith in r))) (λ b. absurd b.0) h

          from : (es : List ℕ) → IsRun g anywhere last step (Some v) es × BeginsBelow (suc i) es → (IsRun g anywhere last step (Some v) es × BeginsBelow i es) ⊎ (⊥ × (es ≡ es))
          from [] h = inl (h.0, tt)
          from (x ∷ xs) h = ⊎_elim (λ lt. inl (h.0, lt))
              (λ eq. absurd (let p : Some v ≡ Some (g.source x) = h.0.1 in let q : v ≡ g.source x = cc in
              let t : nat_eq (g.source i) v ≡ true = eq-eqb (g.source i) v (sym (q ∙ ap g.source eq)) in let bad : ⊥ = cc in bad)) (below_suc x i h.1)

-- all runs from v, from the best runs behind its edges
pub whole : (g : Graph) (anywhere : Bool) (last step : ℕ → Bool) (c : ℕ → ℕ) (v : ℕ) (behind : ℕ → Option ℕ) →
    ((e : ℕ) → e < g.edges → g.source e ≡ v → step e ≡ true → IsGreatestIfAny (IsRun g anywhere last step (g.target e)) (total c) (behind e)) →
    IsGreatestIfAny (IsRun g anywhere last step (Some v)) (total c) (best_below g anywhere last step c behind v g.edges)
whole g anywhere last step c v behind known = greatest_as (λ es. IsRun g anywhere last step (Some v) es × BeginsBelow g.edges es) (IsRun g anywhere last step (Some v)) (total c)
    (best_below g anywhere last step c behind v g.edges) (λ es h. h.0) (λ es run. (run, below es run))
    (best_below-is g anywhere last step c behind v g.edges (le_refl g.edges) known)
  where
    below : (es : List ℕ) → IsRun g anywhere last step (Some v) es → BeginsBelow g.edges es
    below [] run = tt
    below (e ∷ es) run = run.0

-- the best run from a place, of at most so many edges
abbrev pub best_run : Graph → Bool → (ℕ → Bool) → (ℕ → Bool) → (ℕ → ℕ) → ℕ → Option ℕ → Option ℕ
best_run g anywhere last step c zero p = where_true anywhere (Some 0)
best_run g anywhere last step c (suc m) None = where_true anywhere (Some 0)
best_run g anywhere last step c (suc m) (Some v) = best_below g anywhere last step c (λ e. best_run g anywhere last step c m (g.target e)) v g.edges

module _ (g : Graph) (anywhere : Bool) (last step : ℕ → Bool) (c : ℕ → ℕ) where
  pub nowhere : IsGreatestIfAny (IsRun g anywhere last step None) (total c) (where_true anywhere (Some 0))
  nowhere = go anywhere
    where
      go : (b : Bool) → IsGreatestIfAny (IsRun g b last step None) (total c) (where_true b (Some 0))
      go true = record { reached = ([], refl, refl); most = most }
        where
          most : (xs : List ℕ) → IsRun g true last step None xs → total c xs ≤ 0
          most [] h = le_refl 0
          most (x ∷ xs) h = let q : None ≡ Some (g.source x) = h.1 in let bad : ⊥ = cc in absurd bad
      go false = none
        where
          none : (xs : List ℕ) → IsRun g false last step None xs → ⊥
          none [] h = let q : false ≡ true = h in let bad : ⊥ = cc in bad
          none (x ∷ xs) h = let q : None ≡ Some (g.source x) = h.1 in let bad : ⊥ = cc in bad

  -- where each step leads nearer, there is a best run
  pub best_run-is : (far : ℕ → ℕ) → ((e v : ℕ) → e < g.edges → step e ≡ true → g.target e ≡ Some v → far v < far (g.source e)) →
      (m v : ℕ) → far v ≤ m → IsGreatestIfAny (IsRun g anywhere last step (Some v)) (total c) (best_run g anywhere last step c (suc m) (Some v))
  best_run-is far nearer zero v near = whole g anywhere last step c v (λ e. best_run g anywhere last step c zero (g.target e)) (λ e lt at st. known e lt at st)
    where
      known : (e : ℕ) → e < g.edges → g.source e ≡ v → step e ≡ true → IsGreatestIfAny (IsRun g anywhere last step (g.target e)) (total c) (best_run g anywhere last step c zero (g.target e))
      known e lt at st = go (g.target e) refl
        where
          go : (o : Option ℕ) → g.target e ≡ o → IsGreatestIfAny (IsRun g anywhere last step o) (total c) (best_run g anywhere last step c zero o)
          go None to = nowhere
          go (Some u) to = let lt' : far u < far (g.source e) = nearer e u lt st to in let q : far (g.source e) ≡ far v = ap far at in let bad : ⊥ = omega arith in absurd bad
  best_run-is far nearer (suc m) v near = whole g anywhere last step c v (λ e. best_run g anywhere last step c (suc m) (g.target e)) (λ e lt at st. known e lt at st (λ u near'. best_run-is far nearer m u near'))
    where
      known : (e : ℕ) → e < g.edges → g.source e ≡ v → step e ≡ true →
          ((u : ℕ) → far u ≤ m → IsGreatestIfAny (IsRun g anywhere last step (Some u)) (total c) (best_run g anywhere last step c (suc m) (Some u))) →
          IsGreatestIfAny (IsRun g anywhere last step (g.target e)) (total c) (best_run g anywhere last step c (suc m) (g.target e))
      known e lt at st ih = go (g.target e) refl
        where
          go : (o : Option ℕ) → g.target e ≡ o → IsGreatestIfAny (IsRun g anywhere last step o) (total c) (best_run g anywhere last step c (suc m) o)
          go None to = nowhere
          go (Some u) to = ih u (let lt' : far u < far (g.source e) = nearer e u lt st to in let q : far (g.source e) ≡ far v = ap far at in omega arith)
