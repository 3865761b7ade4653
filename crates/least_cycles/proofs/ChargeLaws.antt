-- What edges are charged by the loops that they enter.
use Rattle.std.proofs.Common.{◌≡◌, ◌≢◌, ℕ, zero, suc, ◌+◌, ◌^◌, ◌<◌, ◌≤◌, ◌⊎◌, List, [], ◌∷◌, ◌++◌, length, length-append, slice_set, Option, Some, None, refl, sym, ap, ◌∙◌, subst, arith, ⊎_elim, get_or-set_other, get_or-set_same, length-set}
use Rattle.std.proofs.lemmas.Bool.{cases_lt}
use Rattle.std.proofs.lemmas.List.{get_or_past}
use Rattle.graph_algorithms.specs.Arcs.{number_in_place}
use Rattle.cost_theory.specs.Worst.{at_some}
use Rattle.flow_graph.specs.FlowGraph.{FlowGraph}
use Rattle.loop_forest.specs.Tree.{LoopView}
use Rattle.graph_algorithms.specs.Keys.{option_at}
use Rattle.least_cycles.specs.declared.charges.Charges.{Charges}
use Rattle.least_cycles.specs.Charging.{IsEntered, AreEnteredLoops, charge_by, cost_with, AreSmallCharges, AreCharges}

some_within : (xs : List (Option ℕ)) (i k : ℕ) → option_at xs i ≡ Some k → i < length xs
some_within [] i k at = let bad : ⊥ = cc in absurd bad
some_within (x ∷ xs) zero k at = omega arith
some_within (x ∷ xs) (suc i) k at = let r = some_within xs i k at in omega arith

pub charge_low : (v : FlowGraph) (charges : Charges) → AreSmallCharges v charges → (e : ℕ) → charge_by charges.entries.items charges.found.items e ≤ 2 ^ 48
charge_low v charges are e = go (option_at charges.entries.items e)
  where
    go : (o : Option ℕ) → at_some o (number_in_place charges.found.items) ≤ 2 ^ 48
    go None = omega arith
    go (Some l) = are.low l

pub with_low : (v : FlowGraph) (costs : List ℕ) (charges : Charges) → ((e : ℕ) → number_in_place costs e ≤ 2 ^ 49) → AreSmallCharges v charges → (e : ℕ) → cost_with costs charges e ≤ 2 ^ 50
with_low v costs charges low are e = let a = low e in let b = charge_low v charges are e in omega arith

pub small_charges : (v : FlowGraph) (t : LoopView) (charges : Charges) → AreCharges v t charges → AreSmallCharges v charges
small_charges v t charges are = record {
  size = are.entered.size;
  within = λ e l at.
      let size = are.entered.size in
      let el : e < length charges.entries.items = some_within charges.entries.items e l at in
      let into = (are.entered.each e (omega arith)).some l at in
      let low = into.0 in
      let count = are.size in
      omega arith;
  low = are.low;
}

before_push : (xs : List (Option ℕ)) (x : Option ℕ) (i : ℕ) → i < length xs → option_at (xs ++ x ∷ []) i ≡ option_at xs i
before_push [] x i lt = let bad : ⊥ = omega arith in absurd bad
before_push (y ∷ ys) x zero lt = refl
before_push (y ∷ ys) x (suc i) lt = before_push ys x i (omega arith)

at_push : (xs : List (Option ℕ)) (x : Option ℕ) → option_at (xs ++ x ∷ []) (length xs) ≡ x
at_push [] x = refl
at_push (y ∷ ys) x = at_push ys x

pub entered_more : (v : FlowGraph) (t : LoopView) (e : ℕ) (entries : List (Option ℕ)) (o : Option ℕ) → AreEnteredLoops v t e entries → IsEntered v t e o → AreEnteredLoops v t (e + 1) (entries ++ o ∷ [])
entered_more v t e entries o are is = record {
  size = let s = are.size in let a : length (entries ++ o ∷ []) ≡ length entries + 1 = length-append entries (o ∷ []) in omega arith;
  each = λ d dl. ⊎_elim
      (λ (low : d < e). subst (IsEntered v t d) (sym (before_push entries o d (let s = are.size in omega arith))) (are.each d low))
      (λ (high : e ≤ d).
      let s = are.size in
      let last : d ≡ length entries = omega arith in
      let same : d ≡ e = omega arith in
      subst (λ x. IsEntered v t x (option_at (entries ++ o ∷ []) d)) (sym same)
      (subst (IsEntered v t e) (sym (ap (option_at (entries ++ o ∷ [])) last ∙ at_push entries o)) is))
      (cases_lt d e);
}

-- the charge of one loop is put in
pub charges_low : (found : List ℕ) (l x k : ℕ) → x ≤ 2 ^ 48 → ((j : ℕ) → number_in_place found j ≤ 2 ^ 48) → number_in_place (slice_set found l x) k ≤ 2 ^ 48
charges_low found l x k low all = ⊎_elim
    (λ (within : l < length found). ⊎_elim
    (λ (same : k ≡ l). let here : number_in_place (slice_set found l x) k ≡ x = ap (number_in_place (slice_set found l x)) same ∙ get_or-set_same found l x 0 within in let r : number_in_place (slice_set found l x) k ≤ 2 ^ 48 = omega arith in r)
    (λ (other : k ≢ l). subst (λ y. y ≤ 2 ^ 48) (sym (get_or-set_other found l k x 0 other)) (all k))
    (same_or k l))
    (λ (past : length found ≤ l). ⊎_elim
    (λ (same : k ≡ l).
    let size : length (slice_set found l x) ≡ length found = length-set found l x in
    let none : number_in_place (slice_set found l x) k ≡ 0 = get_or_past (slice_set found l x) k 0 (omega arith) in
    let r : number_in_place (slice_set found l x) k ≤ 2 ^ 48 = omega arith in r)
    (λ (other : k ≢ l). subst (λ y. y ≤ 2 ^ 48) (sym (get_or-set_other found l k x 0 other)) (all k))
    (same_or k l))
    (cases_lt l (length found))
  where
    same_or : (a b : ℕ) → (a ≡ b) ⊎ (a ≢ b)
    same_or a b = grind arith
