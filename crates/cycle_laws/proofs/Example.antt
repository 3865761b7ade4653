-- A node that branches to itself or to an exit: its loop has to turn twice.
use Rattle.std.proofs.Common.{◌≡◌, ℕ, zero, suc, ◌+◌, ◌<◌, ◌≤◌, true, false, inl, inr, List, [], ◌∷◌, Option, Some, None, refl, ap, ◌∙◌, arith}
use Rattle.cost_theory.specs.Graph.{total}
use Rattle.cost_theory.specs.Least.{IsLeastIfAny, IsUpTo, WayToEnd, IsWay, way_cost}
use Rattle.cost_theory.specs.Least.WayToEnd.{Exits, Returns}
use Rattle.cost_theory.specs.LeastTurns.{IsRun, turn_step, turn_last}
use Rattle.cost_theory.specs.Steps.{Transition}
use Rattle.cost_theory.specs.Steps.Transition.{Along, Exit}
use Rattle.cost_theory.proofs.Laws.{some_same, small, small_loop, small_extent, small_program, small_accepted, no_callee}
use Rattle.cycle_laws.specs.Charged.{Charged, charged_cost, leads_on, ends_exit, HasPlainReturns, AreCharged}
use Rattle.cycle_laws.specs.LeastLaws.{IsOverEdge}
use Rattle.cycle_laws.specs.Met.{LeastHypothesesAreMet}
use Rattle.cycle_laws.proofs.OneEdge.{stable_is}

abbrev one_each : ℕ → ℕ
one_each e = 1

abbrev exits_in : ℕ → Option ℕ
exits_in zero = Some 2
exits_in (suc zero) = Some 1
exits_in (suc (suc v)) = None

abbrev closes_in : ℕ → ℕ → Option ℕ
closes_in k zero = Some 1
closes_in k (suc v) = None

abbrev small_charged : Charged
small_charged = record { least = record { to_return = λ v. None; to_exit = exits_in; to_end = exits_in }; turn = λ k. 1; closing = closes_in }

abbrev cost : ℕ → ℕ
cost = charged_cost small small_loop one_each small_charged

none_some : {A : Type 0} (x : ℕ) → None ≡ Some x → A
none_some x e = let bad : ⊥ = cc in absurd bad

exit_reached : (v x : ℕ) → exits_in v ≡ Some x → (es : List ℕ) × IsRun small false (ends_exit small small_charged.least) (leads_on small) (Some v) es × (total cost es ≡ x)
exit_reached zero x e = (1 ∷ 2 ∷ [], (omega arith, refl, inr (refl, (omega arith, refl, inl (refl, refl)))), some_same 2 x e)
exit_reached (suc zero) x e = (2 ∷ [], (omega arith, refl, inl (refl, refl)), some_same 1 x e)
exit_reached (suc (suc v)) x e = none_some x e

exit_stable : (e b : ℕ) → e < 3 → IsOverEdge small (ends_exit small small_charged.least) (leads_on small) cost exits_in e b → IsUpTo (exits_in (small.source e)) b
exit_stable zero b el (inl a) = let q : false ≡ true = a.0 in let bad : ⊥ = cc in absurd bad
exit_stable zero b el (inr a) =
    let u : 0 ≡ a.1.0 = some_same 0 a.1.0 a.1.2 in
    let more : 2 ≡ a.1.1 = some_same 2 a.1.1 (ap exits_in u ∙ a.1.3) in
    let sum : b ≡ 1 + a.1.1 = a.1.4 in
    (2, refl, omega arith)
exit_stable (suc zero) b el (inl a) = let q : false ≡ true = a.0 in let bad : ⊥ = cc in absurd bad
exit_stable (suc zero) b el (inr a) =
    let u : 1 ≡ a.1.0 = some_same 1 a.1.0 a.1.2 in
    let more : 1 ≡ a.1.1 = some_same 1 a.1.1 (ap exits_in u ∙ a.1.3) in
    let sum : b ≡ 1 + a.1.1 = a.1.4 in
    (2, refl, omega arith)
exit_stable (suc (suc e)) b el (inl a) = let sum : b ≡ cost (suc (suc e)) = a.1 in let c : cost (suc (suc e)) ≡ 1 = refl in (1, refl, omega arith)
exit_stable (suc (suc e)) b el (inr a) = none_some a.1.0 a.1.2

return_stable : (e b : ℕ) → e < 3 → IsOverEdge small small.returns (leads_on small) cost (λ v. None) e b → IsUpTo None b
return_stable e b el (inl a) = let q : false ≡ true = a.0 in let bad : ⊥ = cc in absurd bad
return_stable e b el (inr a) = none_some a.1.1 a.1.3

close_reached : (k v x : ℕ) → closes_in k v ≡ Some x → (es : List ℕ) × IsRun small false (turn_last small small_loop k) (turn_step small small_loop k) (Some v) es × (total cost es ≡ x)
close_reached k zero x e = (0 ∷ [], (omega arith, refl, inl (refl, refl)), some_same 1 x e)
close_reached k (suc v) x e = none_some x e

close_stable : (k e b : ℕ) → e < 3 → IsOverEdge small (turn_last small small_loop k) (turn_step small small_loop k) cost (closes_in k) e b → IsUpTo (closes_in k (small.source e)) b
close_stable k zero b el (inl a) = let sum : b ≡ 1 = a.1 in (1, refl, omega arith)
close_stable k zero b el (inr a) = let q : false ≡ true = a.0 in let bad : ⊥ = cc in absurd bad
close_stable k (suc zero) b el (inl a) = let q : false ≡ true = a.0 in let bad : ⊥ = cc in absurd bad
close_stable k (suc zero) b el (inr a) = let q : false ≡ true = a.0 in let bad : ⊥ = cc in absurd bad
close_stable k (suc (suc e)) b el (inl a) = let q : false ≡ true = a.0 in let bad : ⊥ = cc in absurd bad
close_stable k (suc (suc e)) b el (inr a) = none_some a.1.0 a.1.2

ends_at : (v : ℕ) → IsLeastIfAny (IsWay small small_charged.least v) (way_cost small small_charged.least v) (exits_in v)
ends_at zero = record { reached = (Exits, refl, refl); least = least }
  where
    least : (way : WayToEnd) → IsWay small small_charged.least 0 way → 2 ≤ way_cost small small_charged.least 0 way
    least Exits h = omega arith
    least (Returns e) h = let q : false ≡ true = h.0 in let bad : ⊥ = cc in absurd bad
ends_at (suc zero) = record { reached = (Exits, refl, refl); least = least }
  where
    least : (way : WayToEnd) → IsWay small small_charged.least 1 way → 1 ≤ way_cost small small_charged.least 1 way
    least Exits h = omega arith
    least (Returns e) h = let q : false ≡ true = h.0 in let bad : ⊥ = cc in absurd bad
ends_at (suc (suc v)) = never
  where
    never : (way : WayToEnd) → IsWay small small_charged.least (suc (suc v)) way → ⊥
    never Exits h = let q : false ≡ true = h in let bad : ⊥ = cc in bad
    never (Returns e) h = let q : false ≡ true = h.0 in let bad : ⊥ = cc in bad

small_numbers : AreCharged small small_loop one_each small_charged
small_numbers = record {
  to_return = stable_is small small.returns (leads_on small) cost (λ v. None) (λ v x e. none_some x e) return_stable;
  to_exit = stable_is small (ends_exit small small_charged.least) (leads_on small) cost exits_in exit_reached exit_stable;
  to_end = ends_at;
  closing = λ k v kl. stable_is small (turn_last small small_loop k) (turn_step small small_loop k) cost (closes_in k) (close_reached k) (close_stable k) v;
  turn = λ k kl. refl;
}

small_returns : HasPlainReturns small
small_returns = record {
  one_return = λ d e f u v dl el same calls to_u to_v. absurd (no_callee f calls);
  return_last = λ d e dl el same returns. (let q : false ≡ true = returns in let bad : ⊥ = cc in absurd bad);
}

abbrev small_run : List Transition
small_run = Along 0 ∷ Along 0 ∷ Along 1 ∷ Exit 2 ∷ []

pub small_met : LeastHypothesesAreMet
small_met = record {
  graph = small;
  loops = small_loop;
  extent = small_extent;
  weights = one_each;
  numbers = small_charged;
  charged = record {
    program = small_program;
    returns = small_returns;
    accepted = small_accepted;
    weights = λ d e f dl el same calls. absurd (no_callee f calls);
    numbers = small_numbers;
  };
  looped = refl;
  turns = refl;
  run = small_run;
  kept = (
    record { edge = omega arith; from = refl; move = (refl, refl); within = λ k kl. (let r : 1 ≤ 3 = omega arith in r); late = λ k kl out. (let q : false ≡ true = out in let bad : ⊥ = cc in absurd bad) },
    (
      record { edge = omega arith; from = refl; move = (refl, refl); within = λ k kl. (let r : 2 ≤ 3 = omega arith in r); late = λ k kl out. (let q : false ≡ true = out in let bad : ⊥ = cc in absurd bad) },
      (
        record { edge = omega arith; from = refl; move = (refl, refl); within = λ k kl. (let r : 2 ≤ 3 = omega arith in r); late = λ k kl out. (let r : 2 ≤ 2 = omega arith in r) },
        (record { edge = omega arith; from = refl; move = refl; within = λ k kl. (let r : 2 ≤ 3 = omega arith in r); late = λ k kl out. (let q : false ≡ true = out in let bad : ⊥ = cc in absurd bad) }, tt),
      ),
    ),
  );
  exits = (2, refl);
  cycles_are = refl;
}
