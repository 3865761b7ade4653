-- The energies of the runs on the inputs that count, input by input.
use Rattle.std.proofs.Common.{◌≡◌, ℕ, zero, suc, ◌+◌, ◌<◌, Bool, true, false, cond, List, [], ◌∷◌, ◌++◌, map, length, take, get_or, Option, Some, None, refl, sym, ap, ◌∙◌, subst, arith}
use Rattle.std.specs.Prelude.{IsSome, sum_by, unwrap_or, count_by}
use Rattle.std.specs.List.{All, filter}
use Rattle.std.proofs.lemmas.List.{take_more}
use Rattle.std.proofs.lemmas.List.Elements.{All-nil, All-push, All-head, All-tail, filter-append}
use Rattle.std.proofs.lemmas.List.Sums.{sum_by_push, sum_by-cons, length-filter}
use Rattle.gain_tuner.specs.Spending.{IsSpent, spent_on}

-- ---- one input more

module _ (p : List ℕ → Bool) (xs : List (List ℕ)) (k : ℕ) (x : List ℕ) (lt : k < length xs) (at : get_or xs k [] ≡ x) where
  more : take (k + 1) xs ≡ take k xs ++ x ∷ []
  more = take_more xs k [] lt ∙ ap (λ (y : List ℕ). take k xs ++ y ∷ []) at

  pub kept_more : p x ≡ true → filter p (take (k + 1) xs) ≡ filter p (take k xs) ++ x ∷ []
  kept_more e = ap (filter p) more ∙ (filter-append p (take k xs) (x ∷ []) ∙ ap (λ b. filter p (take k xs) ++ cond b (x ∷ []) []) e)

  nothing : (ys : List (List ℕ)) → ys ++ [] ≡ ys
  nothing [] = refl
  nothing (y ∷ ys) = ap (λ zs. y ∷ zs) (nothing ys)

  pub left_more : p x ≡ false → filter p (take (k + 1) xs) ≡ filter p (take k xs)
  left_more e = ap (filter p) more ∙ (filter-append p (take k xs) (x ∷ []) ∙ (ap (λ b. filter p (take k xs) ++ cond b (x ∷ []) []) e ∙ nothing (filter p (take k xs))))

module _ (stored machine : List ℕ) where
  pub none_spent : IsSpent stored machine [] 0
  none_spent = record { ends = All-nil (λ input. IsSome (spent_on stored machine input)); sum = refl }

  one_more : (ys : List (List ℕ)) (x : List ℕ) (energy one : ℕ) → spent_on stored machine x ≡ Some one → IsSpent stored machine ys energy → IsSpent stored machine (ys ++ x ∷ []) (energy + one)
  one_more ys x energy one e h =
      let f : List ℕ → ℕ = λ input. unwrap_or (spent_on stored machine input) 0 in
      let value : f x ≡ one = ap (λ (o : Option ℕ). unwrap_or o 0) e in
      let some : IsSome (spent_on stored machine x) = subst (λ (o : Option ℕ). IsSome o) (sym e) refl in
      record {
        ends = All-push (λ input. IsSome (spent_on stored machine input)) ys x h.ends some;
        sum = ap (λ a. a + one) h.sum ∙ (ap (λ b. sum_by f ys + b) (sym value) ∙ sym (sum_by_push f ys x));
      }

  pub spent_more : (p : List ℕ → Bool) (xs : List (List ℕ)) (k : ℕ) (x : List ℕ) (energy one : ℕ) → k < length xs → get_or xs k [] ≡ x → p x ≡ true → spent_on stored machine x ≡ Some one →
      IsSpent stored machine (filter p (take k xs)) energy → IsSpent stored machine (filter p (take (k + 1) xs)) (energy + one)
  spent_more p xs k x energy one lt at kept e h = subst (λ ys. IsSpent stored machine ys (energy + one)) (sym (kept_more p xs k x lt at kept)) (one_more (filter p (take k xs)) x energy one e h)

  pub spent_less : (p : List ℕ → Bool) (xs : List (List ℕ)) (k : ℕ) (x : List ℕ) (energy : ℕ) → k < length xs → get_or xs k [] ≡ x → p x ≡ false →
      IsSpent stored machine (filter p (take k xs)) energy → IsSpent stored machine (filter p (take (k + 1) xs)) energy
  spent_less p xs k x energy lt at left h = subst (λ ys. IsSpent stored machine ys energy) (sym (left_more p xs k x lt at left)) h

  -- a run that is out of steps
  pub out_of_steps : (p : List ℕ → Bool) (xs : List (List ℕ)) (k : ℕ) (x : List ℕ) → k < length xs → get_or xs k [] ≡ x → p x ≡ true → spent_on stored machine x ≡ None →
      All (λ input. IsSome (spent_on stored machine input)) (filter p xs) → ⊥
  out_of_steps p [] k x lt at kept e all = omega (arith, lt)
  out_of_steps p (y ∷ xs) zero x lt at kept e all =
      let there : All (λ input. IsSome (spent_on stored machine input)) (y ∷ filter p xs) = subst (λ b. All (λ input. IsSome (spent_on stored machine input)) (cond b (y ∷ filter p xs) (filter p xs))) (ap p at ∙ kept) all in
      let some : IsSome (spent_on stored machine x) = subst (λ z. IsSome (spent_on stored machine z)) at (All-head (λ input. IsSome (spent_on stored machine input)) y (filter p xs) there) in
      let none : IsSome {T = ℕ} None = subst (λ (o : Option ℕ). IsSome o) e some in
      let bad : ⊥ = cc in bad
  out_of_steps p (y ∷ xs) (suc k) x lt at kept e all = out_of_steps p xs k x (omega (arith, lt)) at kept e (rest (p y) refl)
    where
      rest : (b : Bool) → p y ≡ b → All (λ input. IsSome (spent_on stored machine input)) (filter p xs)
      rest true q = let there : All (λ input. IsSome (spent_on stored machine input)) (y ∷ filter p xs) = subst (λ b. All (λ input. IsSome (spent_on stored machine input)) (cond b (y ∷ filter p xs) (filter p xs))) q all in All-tail (λ input. IsSome (spent_on stored machine input)) y (filter p xs) there
      rest false q = subst (λ b. All (λ input. IsSome (spent_on stored machine input)) (cond b (y ∷ filter p xs) (filter p xs))) q all

-- ---- how many

pub flags_count : (p : List ℕ → Bool) (xs : List (List ℕ)) → count_by (λ b. b) (map p xs) ≡ length (filter p xs)
flags_count p xs = counted xs ∙ sym (length-filter p xs)
  where
    counted : (ys : List (List ℕ)) → count_by (λ b. b) (map p ys) ≡ count_by p ys
    counted [] = refl
    counted (y ∷ ys) = sum_by-cons (λ (b : Bool). cond b 1 0) (p y) (map p ys) ∙ (ap (λ n. cond (p y) 1 0 + n) (counted ys) ∙ sym (sum_by-cons (λ z. cond (p z) 1 0) y ys))
