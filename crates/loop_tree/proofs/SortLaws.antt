-- Numbers in order.
use Rattle.std.proofs.Common.{◌≡◌, ◌≢◌, ℕ, zero, suc, ◌+◌, ◌<◌, ◌≤◌, nat_eq, List, [], ◌∷◌, get_or, refl, sym, ap, ◌∙◌, arith, Some, ⊎_elim}
use Rattle.std.specs.Prelude.{slice_get}
use Rattle.std.specs.Ordering.{nat_cmp}
use Rattle.std.specs.List.{Contains}
use Rattle.std.specs.List.Sorted.{IsPermutation, IsSorted, IsNonDecreasing}
use Rattle.std.proofs.lemmas.Bool.{cases_eq, cases_lt, eq-eqb, ne_eqb}
use Rattle.std.proofs.lemmas.Option.{slice_get-get_or, slice_get_within, get_or_from_slice_get}
use Rattle.std.proofs.lemmas.List.Sorted.{IsNonDecreasingBy-from_sort, Contains-permutation, IsPermutation-sym, sum_by-IsPermutation}
use Rattle.std.proofs.lemmas.List.Recursion.{is_sum_by}
use Rattle.cost_theory.specs.Graph.{only}
use Rattle.flow_graph.specs.FlowGraph.{FlowGraph}
use Rattle.graph_algorithms.specs.Bodies.{IsIn, AreNodes}
use Rattle.loop_file.specs.declared.notes.LoopNote.{LoopNote}
use Rattle.loop_forest.specs.Found.{IsAscending}
use Rattle.loop_tree.specs.Passes.{IsNumberedBody}

-- ---- the same numbers
contains_in : (xs : List ℕ) (x : ℕ) → Contains xs x → IsIn xs x
contains_in xs x h = (h.0, slice_get-get_or xs h.0 x h.1 ∙ ap Some h.2)

in_contains : (xs : List ℕ) (x : ℕ) → IsIn xs x → Contains xs x
in_contains xs x h = (h.0, slice_get_within xs h.0 x h.1, get_or_from_slice_get xs h.0 x x h.1)

pub in_permuted : (xs ys : List ℕ) (x : ℕ) → IsPermutation xs ys → IsIn xs x → IsIn ys x
in_permuted xs ys x p h = contains_in ys x (Contains-permutation xs ys x p (in_contains xs x h))

-- ---- each once
abbrev pub AreOnce : List ℕ → Type 0
AreOnce xs = (i j v : ℕ) → slice_get xs i ≡ Some v → slice_get xs j ≡ Some v → i ≡ j

abbrev pub times : ℕ → List ℕ → ℕ
times v [] = 0
times v (x ∷ xs) = only (nat_eq x v) 1 + times v xs

times_permuted : (v : ℕ) (xs ys : List ℕ) → IsPermutation xs ys → times v ys ≡ times v xs
times_permuted v xs ys p =
    is_sum_by (times v) (λ x. only (nat_eq x v) 1) refl (λ x zs. refl) ys ∙
    (sum_by-IsPermutation (λ x. only (nat_eq x v) 1) xs ys p ∙ sym (is_sum_by (times v) (λ x. only (nat_eq x v) 1) refl (λ x zs. refl) xs))

here : (x v : ℕ) → x ≡ v → only (nat_eq x v) 1 ≡ 1
here x v e = ap (λ b. only b 1) (eq-eqb x v e)

apart : (x v : ℕ) → (x ≡ v → ⊥) → only (nat_eq x v) 1 ≡ 0
apart x v ne = ap (λ b. only b 1) (ne_eqb x v ne)

absent : (v : ℕ) (xs : List ℕ) → ((p : ℕ) → slice_get xs p ≡ Some v → ⊥) → times v xs ≡ 0
absent v [] none = refl
absent v (x ∷ xs) none =
    let h : only (nat_eq x v) 1 ≡ 0 = apart x v (λ e. none 0 (ap Some e)) in
    let ih : times v xs ≡ 0 = absent v xs (λ p. none (suc p)) in
    let r : only (nat_eq x v) 1 + times v xs ≡ 0 = omega arith in r

present : (v : ℕ) (xs : List ℕ) (p : ℕ) → slice_get xs p ≡ Some v → 1 ≤ times v xs
present v [] p h = let bad : ⊥ = cc in absurd bad
present v (x ∷ xs) zero h = let e : x ≡ v = cc in let one : only (nat_eq x v) 1 ≡ 1 = here x v e in let r : 1 ≤ only (nat_eq x v) 1 + times v xs = omega arith in r
present v (x ∷ xs) (suc p) h = let ih : 1 ≤ times v xs = present v xs p h in let r : 1 ≤ only (nat_eq x v) 1 + times v xs = omega arith in r

once_times : (v : ℕ) (xs : List ℕ) → AreOnce xs → times v xs ≤ 1
once_times v [] once = omega arith
once_times v (x ∷ xs) once = ⊎_elim
    (λ (e : x ≡ v).
    let one : only (nat_eq x v) 1 ≡ 1 = here x v e in
    let none : times v xs ≡ 0 = absent v xs (λ p h. let bad : 0 ≡ suc p = once 0 (suc p) v (ap Some e) h in let b : ⊥ = omega arith in b) in
    let r : only (nat_eq x v) 1 + times v xs ≤ 1 = omega arith in r)
    (λ (ne : x ≡ v → ⊥).
    let none : only (nat_eq x v) 1 ≡ 0 = apart x v ne in
    let ih : times v xs ≤ 1 = once_times v xs (λ i j w hi hj. let e : suc i ≡ suc j = once (suc i) (suc j) w hi hj in (let r : i ≡ j = omega arith in r)) in
    let r : only (nat_eq x v) 1 + times v xs ≤ 1 = omega arith in r)
    (cases_eq x v)

twice : (v : ℕ) (xs : List ℕ) (i j : ℕ) → i < j → slice_get xs i ≡ Some v → slice_get xs j ≡ Some v → 2 ≤ times v xs
twice v [] i j lt hi hj = let bad : ⊥ = cc in absurd bad
twice v (x ∷ xs) i zero lt hi hj = let bad : ⊥ = omega arith in absurd bad
twice v (x ∷ xs) zero (suc j) lt hi hj =
    let e : x ≡ v = cc in
    let one : only (nat_eq x v) 1 ≡ 1 = here x v e in
    let more : 1 ≤ times v xs = present v xs j hj in
    let r : 2 ≤ only (nat_eq x v) 1 + times v xs = omega arith in r
twice v (x ∷ xs) (suc i) (suc j) lt hi hj =
    let ih : 2 ≤ times v xs = twice v xs i j (omega arith) hi hj in
    let r : 2 ≤ only (nat_eq x v) 1 + times v xs = omega arith in r

pub once_permuted : (xs ys : List ℕ) → IsPermutation xs ys → AreOnce xs → AreOnce ys
once_permuted xs ys p once i j v hi hj =
    let few : times v xs ≤ 1 = once_times v xs once in
    let same : times v ys ≡ times v xs = times_permuted v xs ys p in
    ⊎_elim
    (λ (lt : i < j). let two : 2 ≤ times v ys = twice v ys i j lt hi hj in absurd (let bad : ⊥ = omega arith in bad))
    (λ (ge : j ≤ i). ⊎_elim
    (λ (lt : j < i). let two : 2 ≤ times v ys = twice v ys j i lt hj hi in absurd (let bad : ⊥ = omega arith in bad))
    (λ (le : i ≤ j). let r : i ≡ j = omega arith in r)
    (cases_lt j i))
    (cases_lt i j)

-- ---- a body in order
pub sorted_numbered : (v : FlowGraph) (note : LoopNote) (xs ys : List ℕ) → IsPermutation xs ys → IsNumberedBody v note xs → IsNumberedBody v note ys
sorted_numbered v note xs ys p is = record {
  nodes = record {
    within = λ k x h. let w = in_permuted ys xs x (IsPermutation-sym xs ys p) (k, h) in is.nodes.within w.0 x w.1;
    once = once_permuted xs ys p is.nodes.once;
  };
  exact = λ i at g. (
    λ h. (is.exact i at g).0 (in_permuted ys xs i (IsPermutation-sym xs ys p) h),
    λ h. in_permuted xs ys i p ((is.exact i at g).1 h),
  );
}

pub sorted_ascending : (count : ℕ) (xs : List ℕ) → AreNodes count xs → IsSorted nat_cmp xs → IsAscending count xs
sorted_ascending count xs are sorted = record {
  within = are.within;
  ascending = λ i j x y lt hi hj.
      let rising : IsNonDecreasing xs = IsNonDecreasingBy-from_sort (λ z. z) xs sorted in
      let le : get_or xs i 0 ≤ get_or xs j 0 = rising i j 0 (omega arith) (slice_get_within xs j y hj) in
      let ex : get_or xs i 0 ≡ x = get_or_from_slice_get xs i x 0 hi in
      let ey : get_or xs j 0 ≡ y = get_or_from_slice_get xs j y 0 hj in
      ⊎_elim
      (λ (e : x ≡ y). let same : i ≡ j = are.once i j x hi (hj ∙ ap Some (sym e)) in absurd (let bad : ⊥ = omega arith in bad))
      (λ (ne : x ≡ y → ⊥). let d : x ≢ y = ne in (let r : x < y = omega arith in r))
      (cases_eq x y);
}
