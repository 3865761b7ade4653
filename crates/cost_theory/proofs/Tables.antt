-- The tables of accepted loops exist, for any costs: iterations from the innermost loops outwards, and what is left from the outermost inwards.
use Rattle.std.proofs.Common.{◌≡◌, ℕ, zero, suc, ◌+◌, ◌*◌, ◌<◌, ◌≤◌, Bool, true, false, cond, not, ◌⊎◌, inl, inr, ltb, List, [], ◌∷◌, Option, Some, None, unwrap_or, refl, sym, ap, ◌∙◌, subst, arith, lt-ltb, ltb-true}
use Rattle.cost_theory.specs.Graph.{Graph, Loops, total, only, is_round, enters, is_back, IsPlain, IsClosing}
use Rattle.cost_theory.specs.Worst.{Numbers, IsGreatest, IsGreatestIfAny, charged}
use Rattle.cost_theory.specs.Accepted.{IsProgram, AreAccepted, IsPlainOrder}
use Rattle.cost_theory.proofs.Basics.{and_left, and_right, not_true, sum-same}
use Rattle.cost_theory.proofs.Append.{leads_to_header}
use Rattle.cost_theory.proofs.Nesting.{side_header, header_held, headers-distinct, size, size-lt, accepted_entered}
use Rattle.cost_theory.proofs.Exists.{best_closing}
use Rattle.cost_theory.proofs.Closings.{header_closes}

pub greatest_value : {A : Type 0} (P : A → Type 0) (f f' : A → ℕ) (m : ℕ) → ((x : A) → P x → f x ≡ f' x) → IsGreatest P f m → IsGreatest P f' m
greatest_value P f f' m same best = record {
  reached = (best.reached.0, best.reached.1, sym (same best.reached.0 best.reached.1) ∙ best.reached.2);
  most = λ x p. subst (λ y. y ≤ m) (same x p) (best.most x p);
}

-- numbers of which only the iterations are meant
abbrev pub table : (ℕ → ℕ) → Numbers
table i = record { worst = λ f. 0; iteration = i; plain = λ v. 0; closing = λ k v. None; left = λ v. 0; context = λ f. 0 }

module _ (g : Graph) (l : Loops) (extent : ℕ → ℕ → Bool) (prog : IsProgram g) (acc : AreAccepted g l extent) where
  -- Two tables that agree on the loops within k charge the edges of a path that closes k the same.
  pub charged_same : (c i i' : ℕ → ℕ) → (k : ℕ) → k < l.loops →
      ((j : ℕ) → j < l.loops → size g l j < size g l k → i j ≡ i' j) →
      (es : List ℕ) (p : Option ℕ) → is_round l k p ≡ true → IsClosing g l k p es →
      total (charged g l (table i) c) es ≡ total (charged g l (table i') c) es
  charged_same c i i' k kl same [] p round closes = refl
  charged_same c i i' k kl same (e ∷ es) p round closes = go closes.2 (λ r cl. charged_same c i i' k kl same es (g.target e) r cl)
    where
      in_u : l.inside k (g.source e) ≡ true
      in_u = subst (λ o. is_round l k o ≡ true) closes.1 round

      edge : ((j : ℕ) → j < l.loops → enters l j (g.source e) (g.target e) ≡ true → i j ≡ i' j) → charged g l (table i) c e ≡ charged g l (table i') c e
      edge agree = ap (λ x. c e + x) (sum-same l.loops (λ j. only (enters l j (g.source e) (g.target e)) (l.bound j * i j)) (λ j. only (enters l j (g.source e) (g.target e)) (l.bound j * i' j))
          (λ j jl. term j jl (enters l j (g.source e) (g.target e)) refl))
        where
          term : (j : ℕ) → j < l.loops → (b : Bool) → enters l j (g.source e) (g.target e) ≡ b → only b (l.bound j * i j) ≡ only b (l.bound j * i' j)
          term j jl false is = refl
          term j jl true is = ap (λ x. l.bound j * x) (agree j jl is)

      go : (((is_back g l k e ≡ true) × (es ≡ [])) ⊎ (IsPlain g l e × (is_round l k (g.target e) ≡ true) × IsClosing g l k (g.target e) es)) →
          (is_round l k (g.target e) ≡ true → IsClosing g l k (g.target e) es → total (charged g l (table i) c) es ≡ total (charged g l (table i') c) es) →
          charged g l (table i) c e + total (charged g l (table i) c) es ≡ charged g l (table i') c e + total (charged g l (table i') c) es
      go (inl last) ih =
          let a : charged g l (table i) c e ≡ charged g l (table i') c e = edge (λ j jl en.
          let to : g.target e ≡ Some (l.header k) = leads_to_header g l e k last.0 in
          let in_j : is_round l j (g.target e) ≡ true = and_right (not (l.inside j (g.source e))) (is_round l j (g.target e)) en in
          let out_j : l.inside j (g.source e) ≡ false = not_true (l.inside j (g.source e)) (and_left (not (l.inside j (g.source e))) (is_round l j (g.target e)) en) in
          let heads : l.header k ≡ l.header j = side_header g l extent prog (accepted_entered acc) e j (l.header k) closes.0 jl to (subst (λ o. is_round l j o ≡ true) to in_j) out_j in
          let eq : k ≡ j = headers-distinct g l extent prog (accepted_entered acc) k j kl jl heads in
          let t : l.inside j (g.source e) ≡ true = subst (λ x. l.inside x (g.source e) ≡ true) eq in_u in
          let bad : ⊥ = cc in absurd bad) in
          let b : total (charged g l (table i) c) es ≡ total (charged g l (table i') c) es = ap (total (charged g l (table i) c)) last.1 ∙ sym (ap (total (charged g l (table i') c)) last.1) in
          omega arith
      go (inr more) ih =
          let a : charged g l (table i) c e ≡ charged g l (table i') c e = edge (λ j jl en. inner j jl en (g.target e) refl) in
          let b : total (charged g l (table i) c) es ≡ total (charged g l (table i') c) es = ih more.1 more.2 in
          omega arith
        where
          inner : (j : ℕ) → j < l.loops → enters l j (g.source e) (g.target e) ≡ true → (o : Option ℕ) → g.target e ≡ o → i j ≡ i' j
          inner j jl en None to = let r : is_round l k None ≡ true = subst (λ o. is_round l k o ≡ true) to more.1 in let bad : ⊥ = cc in absurd bad
          inner j jl en (Some v) to = same j jl (size-lt g l extent prog (accepted_entered acc) e j k v closes.0 jl kl to in_u
              (subst (λ o. is_round l k o ≡ true) to more.1)
              (subst (λ o. is_round l j o ≡ true) to (and_right (not (l.inside j (g.source e))) (is_round l j (g.target e)) en))
              (not_true (l.inside j (g.source e)) (and_left (not (l.inside j (g.source e))) (is_round l j (g.target e)) en)))

  module _ (count : ℕ) (place : ℕ → ℕ) (order : IsPlainOrder g l count place) (c : ℕ → ℕ) where
    -- the iterations are right for the loops below a size
    abbrev pub IsTableBelow : ℕ → (ℕ → ℕ) → Type 0
    IsTableBelow m i = (k : ℕ) → k < l.loops → size g l k < m → IsGreatest (IsClosing g l k (Some (l.header k))) (total (charged g l (table i) c)) (i k)

    -- the greatest of the closing paths from a header, under a table
    pub best_turn : (i : ℕ → ℕ) (k : ℕ) → k < l.loops → IsGreatest (IsClosing g l k (Some (l.header k))) (total (charged g l (table i) c))
        (unwrap_or (best_closing g l prog count place order (charged g l (table i) c) k (l.header k)).0 0)
    best_turn i k kl = go (best_closing g l prog count place order (charged g l (table i) c) k (l.header k)).0 (best_closing g l prog count place order (charged g l (table i) c) k (l.header k)).1
      where
        go : (o : Option ℕ) → IsGreatestIfAny (IsClosing g l k (Some (l.header k))) (total (charged g l (table i) c)) o →
            IsGreatest (IsClosing g l k (Some (l.header k))) (total (charged g l (table i) c)) (unwrap_or o 0)
        go None h = absurd (let z : (zs : List ℕ) × IsClosing g l k (Some (l.header k)) zs = header_closes g l extent prog acc k kl in h z.0 z.1)
        go (Some x) h = h

    pub iteration_below : (m : ℕ) → (i : ℕ → ℕ) × IsTableBelow m i
    iteration_below zero = (λ k. 0, λ k kl low. absurd (let bad : ⊥ = omega arith in bad))
    iteration_below (suc m) = next (iteration_below m)
      where
        next : ((i : ℕ → ℕ) × ((k : ℕ) → k < l.loops → size g l k < m → IsGreatest (IsClosing g l k (Some (l.header k))) (total (charged g l (table i) c)) (i k))) →
            (i : ℕ → ℕ) × ((k : ℕ) → k < l.loops → size g l k < suc m → IsGreatest (IsClosing g l k (Some (l.header k))) (total (charged g l (table i) c)) (i k))
        next before = (new, good)
          where
            value : ℕ → ℕ
            value k = unwrap_or (best_closing g l prog count place order (charged g l (table before.0) c) k (l.header k)).0 0

            new : ℕ → ℕ
            new k = cond (ltb (size g l k) m) (before.0 k) (value k)

            old_is : (k : ℕ) → size g l k < m → before.0 k ≡ new k
            old_is k low = sym (ap (λ b. cond b (before.0 k) (value k)) (lt-ltb (size g l k) m low))

            same : (k : ℕ) → k < l.loops → size g l k < suc m → (es : List ℕ) → IsClosing g l k (Some (l.header k)) es → total (charged g l (table before.0) c) es ≡ total (charged g l (table new) c) es
            same k kl low es closes = charged_same c before.0 new k kl (λ j jl less. old_is j (omega arith)) es (Some (l.header k)) (header_held g l extent prog (accepted_entered acc) k kl) closes

            good : (k : ℕ) → k < l.loops → size g l k < suc m → IsGreatest (IsClosing g l k (Some (l.header k))) (total (charged g l (table new) c)) (new k)
            good k kl low = pick (ltb (size g l k) m) refl
              where
                pick : (b : Bool) → ltb (size g l k) m ≡ b → IsGreatest (IsClosing g l k (Some (l.header k))) (total (charged g l (table new) c)) (cond b (before.0 k) (value k))
                pick true is = greatest_value (IsClosing g l k (Some (l.header k))) (total (charged g l (table before.0) c)) (total (charged g l (table new) c)) (before.0 k) (same k kl low)
                    (before.1 k kl (ltb-true (size g l k) m is))
                pick false is = greatest_value (IsClosing g l k (Some (l.header k))) (total (charged g l (table before.0) c)) (total (charged g l (table new) c)) (value k) (same k kl low) (best_turn before.0 k kl)
