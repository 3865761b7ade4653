-- The definitions are met: a node that branches to itself or to an exit is an accepted program with a loop at its entry.
use Rattle.std.proofs.Common.{◌≡◌, ℕ, zero, suc, ◌+◌, ◌<◌, Bool, true, false, nat_eq, List, [], ◌∷◌, Option, Some, None, refl, sym, ap, subst, arith, eqb-true}
use Rattle.cost_theory.specs.Graph.{Graph, Loops, IsWalk, end_of, IsPlain}
use Rattle.cost_theory.specs.Accepted.{IsNode, IsProgram, IsInBody, AreAccepted, IsPlainOrder}
use Rattle.cost_theory.proofs.Nesting.{some_same}
use Rattle.cost_theory.proofs.Orders.{order-no_cycle}

abbrev pub small_source : ℕ → ℕ
small_source zero = 0
small_source (suc zero) = 0
small_source (suc (suc e)) = 1

abbrev pub small_target : ℕ → Option ℕ
small_target zero = Some 0
small_target (suc zero) = Some 1
small_target (suc (suc e)) = None

abbrev pub small_exits : ℕ → Bool
small_exits zero = false
small_exits (suc zero) = false
small_exits (suc (suc e)) = true

abbrev pub small : Graph
small = record {
  edges = 3;
  source = small_source;
  target = small_target;
  callee = λ e. None;
  returns = λ e. false;
  exits = small_exits;
  functions = 1;
  entry = λ f. 0;
  owner = λ v. 0;
}

abbrev pub small_loop : Loops
small_loop = record { loops = 1; header = λ k. 0; bound = λ k. 3; least_trips = λ k. 2; inside = λ k v. nat_eq v 0 }

abbrev pub small_extent : ℕ → ℕ → Bool
small_extent k v = nat_eq v 0

pub small_reached : (e : ℕ) → e < 3 → (es : List ℕ) × IsWalk small (Some 0) es × (end_of small (Some 0) es ≡ Some (small_source e))
small_reached zero lt = ([], tt, refl)
small_reached (suc zero) lt = ([], tt, refl)
small_reached (suc (suc e)) lt = (1 ∷ [], (omega arith, refl, tt), refl)

pub small_stays : (e v : ℕ) → e < 3 → small_target e ≡ Some v → IsNode small v × (small.owner v ≡ small.owner (small_source e))
small_stays zero v lt to = (subst (λ u. IsNode small u) (some_same 0 v to) (0, omega arith, refl), refl)
small_stays (suc zero) v lt to = (subst (λ u. IsNode small u) (some_same 1 v to) (2, omega arith, refl), refl)
small_stays (suc (suc e)) v lt to = let bad : ⊥ = cc in absurd bad

pub small_ends : (e : ℕ) → small_exits e ≡ true → (small_target e ≡ None) × (small.callee e ≡ None)
small_ends zero h = let bad : ⊥ = cc in absurd bad
small_ends (suc zero) h = let bad : ⊥ = cc in absurd bad
small_ends (suc (suc e)) h = (refl, refl)

pub no_callee : (f : ℕ) → None ≡ Some f → ⊥
no_callee f h = let bad : ⊥ = cc in bad

pub small_program : IsProgram small
small_program = record {
  main = omega arith;
  entry_owner = λ f fl. omega arith;
  owner_function = λ e lt. omega arith;
  reached = small_reached;
  stays = small_stays;
  entry_node = λ f fl. (0, omega arith, refl);
  callee_function = λ e f lt calls. absurd (no_callee f calls);
  one_callee = λ d e dl el same. refl;
  call_end = λ u f call. absurd (no_callee f call.3);
  comes_back = λ u f r call rl returns owner. absurd (no_callee f call.3);
  comes_back_only = λ e f v lt calls to. absurd (no_callee f calls);
  called = λ f fl ne. absurd (ne (omega arith));
  return_end = λ e lt returns. absurd (let bad : ⊥ = cc in bad);
  exit_end = λ e lt exits. small_ends e exits;
  no_recursion = λ f next fs calls. no_callee next calls.0.2.3;
}

pub small_order : IsPlainOrder small small_loop 2 (λ v. v)
small_order = record { below = λ v node. subst (λ u. u < 2) node.2 (low node.0); rises = rises }
  where
    low : (e : ℕ) → small_source e < 2
    low zero = omega arith
    low (suc zero) = omega arith
    low (suc (suc e)) = omega arith

    rises : (e v : ℕ) → e < 3 → IsPlain small small_loop e → small_target e ≡ Some v → small_source e < v
    rises zero v lt plain to = let back : true ≡ false = plain 0 (omega arith) in let bad : ⊥ = cc in absurd bad
    rises (suc zero) v lt plain to = let is : 1 ≡ v = some_same 1 v to in omega arith
    rises (suc (suc e)) v lt plain to = let bad : ⊥ = cc in absurd bad

pub small_accepted : AreAccepted small small_loop small_extent
small_accepted = record {
  bodies = λ k v kl. (to v, from v);
  header_reached = λ k kl none. none (0, omega arith, refl);
  distinct = λ j k kl same. (let lt : j < k = same.0 in let bad : ⊥ = omega arith in bad);
  back_edge = λ k kl none. (let back : true ≡ false = none 0 (omega arith) in let bad : ⊥ = cc in bad);
  no_side = λ k from to kl side. side.1 (eqb-true to 0 side.0);
  no_crossing = λ j k jl kl crossing. (let a : nat_eq crossing.1.0 0 ≡ true = crossing.1.1 in let b : nat_eq crossing.1.0 0 ≡ false = crossing.1.2 in let bad : ⊥ = cc in bad);
  not_deep = λ k kl deep. (let d : 16 < 0 + 1 = deep in let bad : ⊥ = omega arith in bad);
  no_cycle = order-no_cycle small small_loop 2 (λ v. v) small_order;
}
  where
    to : (v : ℕ) → nat_eq v 0 ≡ true → IsInBody small 0 (λ u. nat_eq u 0) v
    to v h = (refl, refl, (0, [], (omega arith, ap Some (eqb-true v 0 h), tt), refl, (refl, tt)))

    from : (v : ℕ) → IsInBody small 0 (λ u. nat_eq u 0) v → nat_eq v 0 ≡ true
    from v b = subst (λ u. nat_eq u 0 ≡ true) (sym (some_same v (small_source b.2.0) b.2.2.1)) b.2.4.0
