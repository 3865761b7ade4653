-- An accepted program has its least cycles with charged loops: they are found from the called functions upwards and from the innermost loops
-- outwards, and then the ends from the callers downwards. So numbers that are found anew from those before stay the same after so many times.
use Rattle.std.proofs.Common.{◌≡◌, ℕ, zero, suc, ◌+◌, ◌*◌, ◌<◌, ◌≤◌, Bool, true, false, not, ◌&&◌, ◌||◌, nat_lt, ◌⊎◌, inl, inr, ⊎_elim, List, [], ◌∷◌, Option, Some, None, is_some, unwrap_or, refl, sym, ap, ◌∙◌, subst, arith, eqb-true, mul-le-mul_right}
use Rattle.std.proofs.lemmas.Bool.{cases_eq, cases_lt, cases_Bool}
use Rattle.cost_theory.specs.Graph.{Graph, Loops, IsPlain, IsClosing, total, sum_below, only, is_round, is_header, is_back, enters}
use Rattle.cost_theory.specs.Worst.{at_some}
use Rattle.cost_theory.specs.Accepted.{IsProgram, AreAccepted, IsCallOrder, IsInBody}
use Rattle.cost_theory.specs.Least.{IsLeastIfAny, Least, callee_value, least_call, least_cost, WayToEnd, IsWay, way_cost, end_after}
use Rattle.cost_theory.specs.Least.WayToEnd.{Exits, Returns}
use Rattle.cost_theory.specs.LeastTurns.{IsRun, turn_step, turn_last}
use Rattle.cost_theory.proofs.Laws.{sum-same, term-le-sum, below_suc, and_left, and_right, and_both, not_true, some_same, nested, accepted_entered, header_held, header_closes, AreNested, entered-header, no_numbers, charge_none}
use Rattle.cost_theory.proofs.Laws as theory
use Rattle.cycle_laws.specs.Charged.{Charged, calls_so, calls_exit, charged_trips, charge_of, charged_cost, leads_on, ends_exit, AreCharged}
use Rattle.cycle_laws.specs.LeastLaws.{ChargedExist}
use Rattle.cycle_laws.proofs.LeastRuns.{least_or, least_as, run_least}
use Rattle.cycle_laws.proofs.Alike.{least_same, any_same, table_same}

-- ---- numbers that agree at the functions that a function calls

module _ (g : Graph) (l : Loops) (extent : ℕ → ℕ → Bool) (w : ℕ → ℕ) (prog : IsProgram g) (acc : AreAccepted g l extent) (n n' : Charged) (f : ℕ)
    (callee : (e h : ℕ) → e < g.edges → g.owner (g.source e) ≡ f → g.callee e ≡ Some h → (n.least.to_return (g.entry h) ≡ n'.least.to_return (g.entry h)) × (n.least.to_exit (g.entry h) ≡ n'.least.to_exit (g.entry h))) where
  within_nest : AreNested g l
  within_nest = nested g l extent prog (accepted_entered acc)

  price_same : (e : ℕ) → e < g.edges → g.owner (g.source e) ≡ f → least_cost g w n.least e ≡ least_cost g w n'.least e
  price_same e el own = ap (λ x. w e + x) (by_target (g.target e))
    where
      values : (one other : ℕ → Option ℕ) → ((h : ℕ) → g.callee e ≡ Some h → one (g.entry h) ≡ other (g.entry h)) → callee_value g one e ≡ callee_value g other e
      values one other same = by_callee (g.callee e) refl
        where
          by_callee : (o : Option ℕ) → g.callee e ≡ o → at_some o (λ h. unwrap_or (one (g.entry h)) 0) ≡ at_some o (λ h. unwrap_or (other (g.entry h)) 0)
          by_callee None h = refl
          by_callee (Some i) h = ap (λ o. unwrap_or o 0) (same i h)

      by_target : (o : Option ℕ) → least_call g n.least e o ≡ least_call g n'.least e o
      by_target None = values n.least.to_exit n'.least.to_exit (λ h calls. (callee e h el own calls).1)
      by_target (Some t) = values n.least.to_return n'.least.to_return (λ h calls. (callee e h el own calls).0)

  exits_same : (e : ℕ) → e < g.edges → g.owner (g.source e) ≡ f → calls_exit g n.least e ≡ calls_exit g n'.least e
  exits_same e el own = by_callee (g.callee e) refl
    where
      by_callee : (o : Option ℕ) → g.callee e ≡ o → calls_so o (λ h. is_some (n.least.to_exit (g.entry h))) ≡ calls_so o (λ h. is_some (n'.least.to_exit (g.entry h)))
      by_callee None h = refl
      by_callee (Some i) h = ap is_some (callee e i el own h).1

  trips_same : (k : ℕ) → k < l.loops → g.owner (l.header k) ≡ f → charged_trips g l n.least k ≡ charged_trips g l n'.least k
  trips_same k kl own = ap (λ b. only (not b) (l.least_trips k)) (any_same g.edges (λ e. l.inside k (g.source e) && (g.exits e || calls_exit g n.least e)) (λ e. l.inside k (g.source e) && (g.exits e || calls_exit g n'.least e))
      (λ e el. each e el (l.inside k (g.source e)) refl))
    where
      each : (e : ℕ) → e < g.edges → (b : Bool) → l.inside k (g.source e) ≡ b → (l.inside k (g.source e) && (g.exits e || calls_exit g n.least e)) ≡ (l.inside k (g.source e) && (g.exits e || calls_exit g n'.least e))
      each e el false h = ap (λ b. b && (g.exits e || calls_exit g n.least e)) h ∙ sym (ap (λ b. b && (g.exits e || calls_exit g n'.least e)) h)
      each e el true h =
          let body : IsInBody g (l.header k) (extent k) (g.source e) = (acc.bodies k (g.source e) kl).0 h in
          ap (λ b. l.inside k (g.source e) && (g.exits e || b)) (exits_same e el (body.0 ∙ own))

  -- what an edge is charged, where the turns of the loops that it enters agree
  charge_same : (e : ℕ) → e < g.edges → g.owner (g.source e) ≡ f → ((j : ℕ) → j < l.loops → enters l j (g.source e) (g.target e) ≡ true → g.owner (l.header j) ≡ f → n.turn j ≡ n'.turn j) → charge_of g l n e ≡ charge_of g l n' e
  charge_same e el own turns = sum-same l.loops (λ j. only (enters l j (g.source e) (g.target e)) (charged_trips g l n.least j * n.turn j)) (λ j. only (enters l j (g.source e) (g.target e)) (charged_trips g l n'.least j * n'.turn j))
      (λ j jl. each j jl (enters l j (g.source e) (g.target e)) refl)
    where
      each : (j : ℕ) → j < l.loops → (b : Bool) → enters l j (g.source e) (g.target e) ≡ b →
          only (enters l j (g.source e) (g.target e)) (charged_trips g l n.least j * n.turn j) ≡ only (enters l j (g.source e) (g.target e)) (charged_trips g l n'.least j * n'.turn j)
      each j jl false h = ap (λ b. only b (charged_trips g l n.least j * n.turn j)) h ∙ sym (ap (λ b. only b (charged_trips g l n'.least j * n'.turn j)) h)
      each j jl true h =
          let to : g.target e ≡ Some (l.header j) = entered-header g l w no_numbers within_nest e j el jl h in
          let here : g.owner (l.header j) ≡ f = (prog.stays e (l.header j) el to).1 ∙ own in
          ap (λ x. only (enters l j (g.source e) (g.target e)) (x * n.turn j)) (trips_same j jl here) ∙
          ap (λ x. only (enters l j (g.source e) (g.target e)) (charged_trips g l n'.least j * x)) (turns j jl h here)

-- ---- numbers found anew from those before

module _ (g : Graph) (l : Loops) (extent : ℕ → ℕ → Bool) (w : ℕ → ℕ) (prog : IsProgram g) (acc : AreAccepted g l extent) where
  pub nest : AreNested g l
  nest = nested g l extent prog (accepted_entered acc)

  stays : (e v : ℕ) → e < g.edges → g.target e ≡ Some v → g.owner v ≡ g.owner (g.source e)
  stays e v el to = (prog.stays e v el to).1

  abbrev cost : Charged → ℕ → ℕ
  cost n = charged_cost g l w n

  abbrev pub Turn : ℕ → ℕ → List ℕ → Type 0
  Turn k v = IsRun g false (turn_last g l k) (turn_step g l k) (Some v)

  to_header : (k d : ℕ) → is_back g l k d ≡ true → g.target d ≡ Some (l.header k)
  to_header k d back = go (g.target d) (and_right (l.inside k (g.source d)) (is_header l k (g.target d)) back)
    where
      go : (o : Option ℕ) → is_header l k o ≡ true → o ≡ Some (l.header k)
      go None at = let bad : ⊥ = cc in absurd bad
      go (Some v) at = ap Some (eqb-true v (l.header k) at)

  -- a back edge is charged nothing
  back_free : (n : Charged) (k e : ℕ) → k < l.loops → e < g.edges → is_back g l k e ≡ true → charge_of g l n e ≡ 0
  back_free n k e kl el back = charge_none g l w (charged_trips g l n.least) n.turn nest e (λ j jl. free j jl (enters l j (g.source e) (g.target e)) refl)
    where
      free : (j : ℕ) → j < l.loops → (b : Bool) → enters l j (g.source e) (g.target e) ≡ b → (enters l j (g.source e) (g.target e) && nat_lt 0 (charged_trips g l n.least j)) ≡ false
      free j jl false h = ap (λ b. b && nat_lt 0 (charged_trips g l n.least j)) h
      free j jl true h =
          let at_j : g.target e ≡ Some (l.header j) = entered-header g l w no_numbers nest e j el jl h in
          let same : j ≡ k = nest.distinct j k jl kl (some_same _ _ (sym at_j ∙ to_header k e back)) in
          let inn : l.inside j (g.source e) ≡ true = subst (λ i. l.inside i (g.source e) ≡ true) (sym same) (and_left (l.inside k (g.source e)) (is_header l k (g.target e)) back) in
          let out : l.inside j (g.source e) ≡ false = not_true (l.inside j (g.source e)) (and_left (not (l.inside j (g.source e))) (is_round l j (g.target e)) h) in
          let bad : ⊥ = cc in absurd bad

  pub in_body : (k e : ℕ) → (turn_last g l k e ≡ true) ⊎ (turn_step g l k e ≡ true) → l.inside k (g.source e) ≡ true
  in_body k e (inl back) = and_left (l.inside k (g.source e)) (is_header l k (g.target e)) back
  in_body k e (inr st) = and_left (l.inside k (g.source e)) (is_round l k (g.target e) && not (is_header l k (g.target e))) st

  pub body_owner : (k v : ℕ) → k < l.loops → l.inside k v ≡ true → g.owner v ≡ g.owner (l.header k)
  body_owner k v kl inside = ((acc.bodies k v kl).0 inside).0

  -- the least way to an end
  module _ (n : Least) (v : ℕ) where
    abbrev Below : ℕ → WayToEnd → Type 0
    Below m way = ((way ≡ Exits) × (is_some (n.to_exit v) ≡ true)) ⊎ ((i : ℕ) × (i < m) × (way ≡ Returns i) × IsWay g n v (Returns i))

    decide : (i : ℕ) → IsWay g n v (Returns i) ⊎ (IsWay g n v (Returns i) → ⊥)
    decide i = ⊎_elim
        (λ (r : is_some (n.to_return v) ≡ true). ⊎_elim
        (λ (il : i < g.edges). by_callee (g.callee i) (g.target i) refl refl r il)
        (λ (ge : g.edges ≤ i). inr (λ h. (let l : i < g.edges = h.1.0 in let bad : ⊥ = omega arith in bad)))
        (cases_lt i g.edges))
        (λ (r : is_some (n.to_return v) ≡ false). inr (λ h. (let q : is_some (n.to_return v) ≡ true = h.0 in let bad : ⊥ = cc in bad)))
        (cases_Bool (is_some (n.to_return v)))
      where
        by_callee : (o t : Option ℕ) → g.callee i ≡ o → g.target i ≡ t → is_some (n.to_return v) ≡ true → i < g.edges → IsWay g n v (Returns i) ⊎ (IsWay g n v (Returns i) → ⊥)
        by_callee None t calls to r il = inr (λ h. (let q : None ≡ Some (g.owner v) = sym calls ∙ h.1.1 in let bad : ⊥ = cc in bad))
        by_callee (Some f) None calls to r il = inr (λ h. (let q : None ≡ Some h.1.2.0 = sym to ∙ h.1.2.1 in let bad : ⊥ = cc in bad))
        by_callee (Some f) (Some u) calls to r il = ⊎_elim
            (λ (e : f ≡ g.owner v). ⊎_elim
            (λ (s : is_some (n.to_end u) ≡ true). inl (r, (il, calls ∙ ap Some e, (u, to, s))))
            (λ (s : is_some (n.to_end u) ≡ false). inr (λ h. (let same : h.1.2.0 ≡ u = some_same _ _ (sym h.1.2.1 ∙ to) in
            let q : is_some (n.to_end u) ≡ true = subst (λ x. is_some (n.to_end x) ≡ true) same h.1.2.2 in let bad : ⊥ = cc in bad)))
            (cases_Bool (is_some (n.to_end u))))
            (λ (ne : f ≡ g.owner v → ⊥). inr (λ h. ne (some_same _ _ (sym calls ∙ h.1.1))))
            (cases_eq f (g.owner v))

    exits_least : (o : Option ℕ) × IsLeastIfAny (Below 0) (way_cost g n v) o
    exits_least = ⊎_elim
        (λ (some : is_some (n.to_exit v) ≡ true). (
          Some (way_cost g n v Exits),
          record {
            reached = (Exits, inl (refl, some), refl);
            least = λ way h. ⊎_elim (λ e. (let q : way_cost g n v way ≡ way_cost g n v Exits = ap (way_cost g n v) e.0 in omega arith)) (λ r. (let l : r.0 < 0 = r.1 in let bad : ⊥ = omega arith in absurd bad)) h;
          },
        ))
        (λ (none : is_some (n.to_exit v) ≡ false). (None, λ way h. ⊎_elim (λ e. (let q : is_some (n.to_exit v) ≡ true = e.1 in let bad : ⊥ = cc in bad)) (λ r. (let l : r.0 < 0 = r.1 in let bad : ⊥ = omega arith in bad)) h))
        (cases_Bool (is_some (n.to_exit v)))

    one_least : (i : ℕ) → (o : Option ℕ) × IsLeastIfAny (λ way. (way ≡ Returns i) × IsWay g n v (Returns i)) (way_cost g n v) o
    one_least i = ⊎_elim
        (λ (is : IsWay g n v (Returns i)). (
          Some (way_cost g n v (Returns i)),
          record {
            reached = (Returns i, (refl, is), refl);
            least = λ way h. (let q : way_cost g n v way ≡ way_cost g n v (Returns i) = ap (way_cost g n v) h.0 in omega arith);
          },
        ))
        (λ (never : IsWay g n v (Returns i) → ⊥). (None, λ way h. never h.1))
        (decide i)

    below_least : (m : ℕ) → (o : Option ℕ) × IsLeastIfAny (Below m) (way_cost g n v) o
    below_least zero = exits_least
    below_least (suc m) =
        let one = below_least m in
        let other = one_least m in
        let both = least_or (Below m) (λ way. (way ≡ Returns m) × IsWay g n v (Returns m)) (way_cost g n v) one.0 other.0 one.1 other.1 in (
          both.0,
          least_as (λ way. Below m way ⊎ ((way ≡ Returns m) × IsWay g n v (Returns m))) (Below (suc m)) (way_cost g n v) both.0
              (λ way h. ⊎_elim (λ (b : Below m way). ⊎_elim (λ e. inl e) (λ r. inr (r.0, (let l : r.0 < m = r.1 in let s : r.0 < suc m = omega arith in s), r.2, r.3)) b) (λ r. inr (m, (let s : m < suc m = omega arith in s), r.0, r.1)) h)
              (λ way h. ⊎_elim (λ e. inl (inl e)) (λ r. ⊎_elim (λ (l : r.0 < m). inl (inr (r.0, l, r.2, r.3))) (λ (e : r.0 ≡ m). inr (r.2 ∙ ap Returns e, subst (λ i. IsWay g n v (Returns i)) e r.3)) (below_suc r.0 m r.1)) h) both.1,
        )

    pub end_least : (o : Option ℕ) × IsLeastIfAny (IsWay g n v) (way_cost g n v) o
    end_least = ((below_least g.edges).0, least_as (Below g.edges) (IsWay g n v) (way_cost g n v) (below_least g.edges).0 there back (below_least g.edges).1)
      where
        there : (way : WayToEnd) → Below g.edges way → IsWay g n v way
        there way h = ⊎_elim (λ e. subst (λ x. IsWay g n v x) (sym e.0) e.1) (λ r. subst (λ x. IsWay g n v x) (sym r.2) r.3) h

        back : (way : WayToEnd) → IsWay g n v way → Below g.edges way
        back Exits h = inl (refl, h)
        back (Returns i) h = inr (i, h.1.0, refl, h)

  -- all numbers, found anew
  next : Charged → Charged
  next n = record {
    least = record {
      to_return = λ v. (run_least g g.returns (leads_on g) (cost n) v).0;
      to_exit = λ v. (run_least g (ends_exit g n.least) (leads_on g) (cost n) v).0;
      to_end = λ v. (end_least n.least v).0;
    };
    turn = λ k. unwrap_or ((run_least g (turn_last g l k) (turn_step g l k) (cost n) (l.header k)).0) 0;
    closing = λ k v. (run_least g (turn_last g l k) (turn_step g l k) (cost n) v).0;
  }

  abbrev Callees : Charged → Charged → ℕ → Type 0
  Callees n n' f = (e h : ℕ) → e < g.edges → g.owner (g.source e) ≡ f → g.callee e ≡ Some h → (n.least.to_return (g.entry h) ≡ n'.least.to_return (g.entry h)) × (n.least.to_exit (g.entry h) ≡ n'.least.to_exit (g.entry h))

  pub inner_rank : (k e j : ℕ) → k < l.loops → e < g.edges → j < l.loops → turn_step g l k e ≡ true → enters l j (g.source e) (g.target e) ≡ true → nest.rank j < nest.rank k
  inner_rank k e j kl el jl st en = by_target (g.target e) refl
    where
      by_target : (o : Option ℕ) → g.target e ≡ o → nest.rank j < nest.rank k
      by_target None to =
          let q : is_round l j (g.target e) ≡ true = and_right (not (l.inside j (g.source e))) (is_round l j (g.target e)) en in
          let r : false ≡ true = subst (λ o. is_round l j o ≡ true) to q in
          let bad : ⊥ = cc in absurd bad
      by_target (Some u) to = (nest.within e j k u el jl kl to (and_left (l.inside k (g.source e)) (is_round l k (g.target e) && not (is_header l k (g.target e))) st)
          (subst (λ o. is_round l k o ≡ true) to (and_left (is_round l k (g.target e)) (not (is_header l k (g.target e))) (and_right (l.inside k (g.source e)) (is_round l k (g.target e) && not (is_header l k (g.target e))) st)))
          (subst (λ o. is_round l j o ≡ true) to (and_right (not (l.inside j (g.source e))) (is_round l j (g.target e)) en))
          (not_true (l.inside j (g.source e)) (and_left (not (l.inside j (g.source e))) (is_round l j (g.target e)) en))).0

  -- where the numbers before agree, the next ones do
  closing_next : (n n' : Charged) (f k v : ℕ) → Callees n n' f → k < l.loops → g.owner (l.header k) ≡ f → g.owner v ≡ f → ((j : ℕ) → j < l.loops → g.owner (l.header j) ≡ f → nest.rank j < nest.rank k → n.turn j ≡ n'.turn j) →
      (next n).closing k v ≡ (next n').closing k v
  unfolding next
  closing_next n n' f k v callees kl own at inner =
      table_same g stays (turn_last g l k) (turn_last g l k) (turn_step g l k) (cost n) (cost n') f v _ _ at (λ e el here. refl) costs
      (run_least g (turn_last g l k) (turn_step g l k) (cost n) v).1 (run_least g (turn_last g l k) (turn_step g l k) (cost n') v).1
    where
      costs : (e : ℕ) → e < g.edges → g.owner (g.source e) ≡ f → (turn_last g l k e ≡ true) ⊎ (turn_step g l k e ≡ true) → cost n e ≡ cost n' e
      costs e el here (inl back) =
          let a : least_cost g w n.least e ≡ least_cost g w n'.least e = price_same g l extent w prog acc n n' f callees e el here in
          let b : charge_of g l n e ≡ 0 = back_free n k e kl el back in
          let d : charge_of g l n' e ≡ 0 = back_free n' k e kl el back in
          omega arith
      costs e el here (inr st) =
          let a : least_cost g w n.least e ≡ least_cost g w n'.least e = price_same g l extent w prog acc n n' f callees e el here in
          let b : charge_of g l n e ≡ charge_of g l n' e = charge_same g l extent w prog acc n n' f callees e el here (λ j jl en jown. inner j jl jown (inner_rank k e j kl el jl st en)) in
          omega arith

  -- from another function there is no rest of a turn
  closing_apart : (n n' : Charged) (k v : ℕ) → k < l.loops → (g.owner v ≡ g.owner (l.header k) → ⊥) → (next n).closing k v ≡ (next n').closing k v
  unfolding next
  closing_apart n n' k v kl apart =
      table_same g stays (turn_last g l k) (turn_last g l k) (turn_step g l k) (cost n) (cost n') (g.owner v) v _ _ refl (λ e el here. refl)
      (λ e el here which. absurd (apart (sym here ∙ body_owner k (g.source e) kl (in_body k e which))))
      (run_least g (turn_last g l k) (turn_step g l k) (cost n) v).1 (run_least g (turn_last g l k) (turn_step g l k) (cost n') v).1

  node_next : (n n' : Charged) (f v : ℕ) → Callees n n' f → g.owner v ≡ f → ((j : ℕ) → j < l.loops → g.owner (l.header j) ≡ f → n.turn j ≡ n'.turn j) →
      ((next n).least.to_return v ≡ (next n').least.to_return v) × ((next n).least.to_exit v ≡ (next n').least.to_exit v)
  unfolding next
  node_next n n' f v callees at turns = (
    table_same g stays g.returns g.returns (leads_on g) (cost n) (cost n') f v _ _ at (λ e el here. refl) (λ e el here which. costs e el here)
        (run_least g g.returns (leads_on g) (cost n) v).1 (run_least g g.returns (leads_on g) (cost n') v).1,
    table_same g stays (ends_exit g n.least) (ends_exit g n'.least) (leads_on g) (cost n) (cost n') f v _ _ at
        (λ e el here. ap (λ b. g.exits e || (not (is_some (g.target e)) && b)) (exits_same g l extent w prog acc n n' f callees e el here)) (λ e el here which. costs e el here)
        (run_least g (ends_exit g n.least) (leads_on g) (cost n) v).1 (run_least g (ends_exit g n'.least) (leads_on g) (cost n') v).1,
  )
    where
      costs : (e : ℕ) → e < g.edges → g.owner (g.source e) ≡ f → cost n e ≡ cost n' e
      costs e el here =
          let a : least_cost g w n.least e ≡ least_cost g w n'.least e = price_same g l extent w prog acc n n' f callees e el here in
          let b : charge_of g l n e ≡ charge_of g l n' e = charge_same g l extent w prog acc n n' f callees e el here (λ j jl en jown. turns j jl jown) in
          omega arith

  way_next : (n n' : Charged) (v : ℕ) → n.least.to_return v ≡ n'.least.to_return v → n.least.to_exit v ≡ n'.least.to_exit v →
      ((e u : ℕ) → e < g.edges → g.callee e ≡ Some (g.owner v) → g.target e ≡ Some u → n.least.to_end u ≡ n'.least.to_end u) → (way : WayToEnd) → IsWay g n.least v way → IsWay g n'.least v way × (way_cost g n.least v way ≡ way_cost g n'.least v way)
  way_next n n' v returns exits outer Exits is_way = (subst (λ o. is_some o ≡ true) exits is_way, ap (λ o. unwrap_or o 0) exits)
  way_next n n' v returns exits outer (Returns e) is_way =
      let u : ℕ = is_way.1.2.0 in
      let el : e < g.edges = is_way.1.0 in
      let to : g.target e ≡ Some u = is_way.1.2.1 in
      let same : n.least.to_end u ≡ n'.least.to_end u = outer e u el is_way.1.1 to in
      let behind : end_after g n.least e ≡ end_after g n'.least e =
      ap (λ o. at_some o (λ u. unwrap_or (n.least.to_end u) 0)) to ∙ (ap (λ o. unwrap_or o 0) same ∙ sym (ap (λ o. at_some o (λ u. unwrap_or (n'.least.to_end u) 0)) to)) in
      let back : unwrap_or (n.least.to_return v) 0 ≡ unwrap_or (n'.least.to_return v) 0 = ap (λ o. unwrap_or o 0) returns in (
        (subst (λ o. is_some o ≡ true) returns is_way.0, (el, is_way.1.1, (u, to, subst (λ o. is_some o ≡ true) same is_way.1.2.2))),
        ap (λ x. x + end_after g n.least e) back ∙ ap (λ x. unwrap_or (n'.least.to_return v) 0 + x) behind,
      )

  end_next : (n n' : Charged) (v : ℕ) → n.least.to_return v ≡ n'.least.to_return v → n.least.to_exit v ≡ n'.least.to_exit v →
      ((e u : ℕ) → e < g.edges → g.callee e ≡ Some (g.owner v) → g.target e ≡ Some u → n.least.to_end u ≡ n'.least.to_end u) → (next n).least.to_end v ≡ (next n').least.to_end v
  unfolding next
  end_next n n' v returns exits outer =
      least_same (IsWay g n.least v) (IsWay g n'.least v) (way_cost g n.least v) (way_cost g n'.least v) _ _
      (λ way h. way_next n n' v returns exits outer way h) (λ way h. way_next n' n v (sym returns) (sym exits) (λ e u el calls to. sym (outer e u el calls to)) way h)
      (end_least n.least v).1 (end_least n'.least v).1

  -- a turn is there
  pub closing_run : (k : ℕ) → k < l.loops → (es : List ℕ) (v : ℕ) → l.inside k v ≡ true → IsClosing g l k (Some v) es → Turn k v es
  closing_run k kl [] v inside closes = absurd closes
  closing_run k kl (e ∷ es) v inside closes = (
    closes.0,
    closes.1,
    ⊎_elim
        (λ (a : (is_back g l k e ≡ true) × (es ≡ [])). inl a)
        (λ (a : IsPlain g l e × (is_round l k (g.target e) ≡ true) × IsClosing g l k (g.target e) es). inr (step a.0 a.1, onward (g.target e) refl a.1 a.2 (λ u in_u more. closing_run k kl es u in_u more)))
        closes.2,
  )
    where
      in_u : l.inside k (g.source e) ≡ true
      in_u = subst (λ u. l.inside k u ≡ true) (some_same _ _ closes.1) inside

      step : IsPlain g l e → is_round l k (g.target e) ≡ true → turn_step g l k e ≡ true
      step plain round =
          let away : is_header l k (g.target e) ≡ false = sym (ap (λ b. b && is_header l k (g.target e)) in_u) ∙ plain k kl in
          and_both (l.inside k (g.source e)) (is_round l k (g.target e) && not (is_header l k (g.target e))) in_u (and_both (is_round l k (g.target e)) (not (is_header l k (g.target e))) round (ap not away))

      onward : (o : Option ℕ) → g.target e ≡ o → is_round l k (g.target e) ≡ true → IsClosing g l k (g.target e) es → ((u : ℕ) → l.inside k u ≡ true → IsClosing g l k (Some u) es → Turn k u es) → IsRun g false (turn_last g l k) (turn_step g l k) (g.target e) es
      onward None to round more ih = let q : false ≡ true = subst (λ o. is_round l k o ≡ true) to round in let bad : ⊥ = cc in absurd bad
      onward (Some u) to round more ih = subst (λ o. IsRun g false (turn_last g l k) (turn_step g l k) o es) (sym to) (ih u (subst (λ o. is_round l k o ≡ true) to round) (subst (λ o. IsClosing g l k o es) to more))

  turn_there : (k : ℕ) → k < l.loops → (n : Charged) → (next n).closing k (l.header k) ≡ Some ((next n).turn k)
  unfolding next
  turn_there k kl n =
      let path = header_closes g l extent prog acc k kl in
      let run : Turn k (l.header k) path.0 = closing_run k kl path.0 (l.header k) (header_held g l extent prog (accepted_entered acc) k kl) path.1 in
      there (run_least g (turn_last g l k) (turn_step g l k) (cost n) (l.header k)).0 (run_least g (turn_last g l k) (turn_step g l k) (cost n) (l.header k)).1 path.0 run
    where
      there : (o : Option ℕ) → IsLeastIfAny (Turn k (l.header k)) (total (cost n)) o → (es : List ℕ) → Turn k (l.header k) es → o ≡ Some (unwrap_or o 0)
      there None h es run = absurd (h es run)
      there (Some x) h es run = refl

  -- numbers that are found anew as they were
  found : (n : Charged) → ((v : ℕ) → n.least.to_return v ≡ (next n).least.to_return v) → ((v : ℕ) → n.least.to_exit v ≡ (next n).least.to_exit v) → ((v : ℕ) → n.least.to_end v ≡ (next n).least.to_end v) →
      ((k v : ℕ) → k < l.loops → n.closing k v ≡ (next n).closing k v) → ((k : ℕ) → k < l.loops → n.turn k ≡ (next n).turn k) → AreCharged g l w n
  unfolding next
  found n returns exits ends closings turns = record {
    to_return = λ v. subst (λ o. IsLeastIfAny (IsRun g false g.returns (leads_on g) (Some v)) (total (cost n)) o) (sym (returns v)) (run_least g g.returns (leads_on g) (cost n) v).1;
    to_exit = λ v. subst (λ o. IsLeastIfAny (IsRun g false (ends_exit g n.least) (leads_on g) (Some v)) (total (cost n)) o) (sym (exits v)) (run_least g (ends_exit g n.least) (leads_on g) (cost n) v).1;
    to_end = λ v. subst (λ o. IsLeastIfAny (IsWay g n.least v) (way_cost g n.least v) o) (sym (ends v)) (end_least n.least v).1;
    closing = λ k v kl. subst (λ o. IsLeastIfAny (Turn k v) (total (cost n)) o) (sym (closings k v kl)) (run_least g (turn_last g l k) (turn_step g l k) (cost n) v).1;
    turn = λ k kl. closings k (l.header k) kl ∙ (turn_there k kl n ∙ ap Some (sym (turns k kl)));
  }

  -- ---- found anew so many times

  again : ℕ → Charged
  again zero = record { least = record { to_return = λ v. None; to_exit = λ v. None; to_end = λ v. None }; turn = λ k. 0; closing = λ k v. None }
  again (suc i) = next (again i)

  module _ (order : ℕ → ℕ) (falls : IsCallOrder g order) (wide : ℕ) (positive : 0 < wide) (below : (k : ℕ) → k < l.loops → nest.rank k + 1 < wide) where
    -- a called function comes before its callers
    level-le : (a b : ℕ) → a < b → a * wide + wide ≤ b * wide
    level-le a b lt =
        let le : (a + 1) * wide ≤ b * wide = mul-le-mul_right wide (let r : a + 1 ≤ b = omega arith in r) in
        let e : (a + 1) * wide ≡ a * wide + wide = omega arith in
        omega arith

    abbrev NodesAt : ℕ → Type 0
    NodesAt i = (v : ℕ) → order (g.owner v) * wide + wide ≤ i → ((again i).least.to_return v ≡ (again (suc i)).least.to_return v) × ((again i).least.to_exit v ≡ (again (suc i)).least.to_exit v)

    abbrev LoopsAt : ℕ → Type 0
    LoopsAt i = (k : ℕ) → k < l.loops → order (g.owner (l.header k)) * wide + nest.rank k < i →
        ((again i).turn k ≡ (again (suc i)).turn k) × ((v : ℕ) → g.owner v ≡ g.owner (l.header k) → (again i).closing k v ≡ (again (suc i)).closing k v)

    callees_at : (i f : ℕ) → NodesAt i → order f * wide ≤ i → Callees (again i) (again (suc i)) f
    callees_at i f nodes low e h el own calls =
        let fl : h < g.functions = prog.callee_function e h el calls in
        let before : order h < order f = subst (λ x. order h < order x) own (falls.falls (g.source e) h (e, el, refl, calls)) in
        let le : order h * wide + wide ≤ order f * wide = level-le (order h) (order f) before in
        nodes (g.entry h) (subst (λ x. order x * wide + wide ≤ i) (sym (prog.entry_owner h fl)) (let r : order h * wide + wide ≤ i = omega arith in r))

    both_at : (i : ℕ) → NodesAt i × LoopsAt i
    unfolding again next
    both_at zero = (
      λ v le. absurd (let r : order (g.owner v) * wide + wide ≤ 0 = le in none (order (g.owner v) * wide) r),
      λ k kl lt. (let r : order (g.owner (l.header k)) * wide + nest.rank k < 0 = lt in let bad : ⊥ = omega arith in absurd bad),
    )
      where
        none : (x : ℕ) → x + wide ≤ 0 → ⊥
        none x le = let s : 0 < wide = positive in let bad : ⊥ = omega arith in bad
    both_at (suc i) = go (both_at i)
      where
        go : NodesAt i × LoopsAt i → NodesAt (suc i) × LoopsAt (suc i)
        go ih = (
          λ v le.
              let f : ℕ = g.owner v in
              let s : 0 < wide = positive in
              let q : order (g.owner v) * wide + wide ≤ suc i = le in
              node_next (again i) (again (suc i)) (g.owner v) v (callees_at i (g.owner v) ih.0 (let r : order (g.owner v) * wide ≤ i = omega arith in r)) refl
              (λ j jl own. (ih.1 j jl (let b : nest.rank j + 1 < wide = below j jl in let e : order (g.owner (l.header j)) * wide ≡ order (g.owner v) * wide = ap (λ x. order x * wide) own in
              let r : order (g.owner (l.header j)) * wide + nest.rank j < i = omega arith in r)).0),
          λ k kl lt.
              let q : order (g.owner (l.header k)) * wide + nest.rank k < suc i = lt in
              let callees : Callees (again i) (again (suc i)) (g.owner (l.header k)) = callees_at i (g.owner (l.header k)) ih.0 (let r : order (g.owner (l.header k)) * wide ≤ i = omega arith in r) in
              let inner : (j : ℕ) → j < l.loops → g.owner (l.header j) ≡ g.owner (l.header k) → nest.rank j < nest.rank k → (again i).turn j ≡ (again (suc i)).turn j =
              λ j jl own less. (ih.1 j jl (let e : order (g.owner (l.header j)) * wide ≡ order (g.owner (l.header k)) * wide = ap (λ x. order x * wide) own in
              let r : order (g.owner (l.header j)) * wide + nest.rank j < i = omega arith in r)).0 in (
                ap (λ o. unwrap_or o 0) (closing_next (again i) (again (suc i)) (g.owner (l.header k)) k (l.header k) callees kl refl refl inner),
                λ v own. closing_next (again i) (again (suc i)) (g.owner (l.header k)) k v callees kl refl own inner,
              ),
        )

    all : ℕ
    all = g.functions * wide

    -- after so many times the nodes and the loops stay as they are
    nodes_stay : (i : ℕ) → all ≤ i → (v : ℕ) → ((again (suc i)).least.to_return v ≡ (again (suc (suc i))).least.to_return v) × ((again (suc i)).least.to_exit v ≡ (again (suc (suc i))).least.to_exit v)
    unfolding again next all
    nodes_stay i le v = ⊎_elim
        (λ (fl : g.owner v < g.functions).
        let low : order (g.owner v) < g.functions = falls.below (g.owner v) fl in
        let up : order (g.owner v) * wide + wide ≤ g.functions * wide = level-le (order (g.owner v)) g.functions low in
        let most : g.functions * wide ≤ i = le in
        (both_at (suc i)).0 v (let r : order (g.owner v) * wide + wide ≤ suc i = omega arith in r))
        (λ (ge : g.functions ≤ g.owner v).
        node_next (again i) (again (suc i)) (g.owner v) v
        (λ e h el own calls. absurd (let fl : g.owner (g.source e) < g.functions = prog.owner_function e el in let bad : ⊥ = omega arith in bad)) refl
        (λ j jl own. absurd (let fl : g.owner (l.header j) < g.functions = loop_function j jl in let bad : ⊥ = omega arith in bad)))
        (cases_lt (g.owner v) g.functions)
      where
        loop_function : (j : ℕ) → j < l.loops → g.owner (l.header j) < g.functions
        loop_function j jl =
            let body : IsInBody g (l.header j) (extent j) (l.header j) = (acc.bodies j (l.header j) jl).0 (header_held g l extent prog (accepted_entered acc) j jl) in
            subst (λ u. g.owner u < g.functions) (sym (some_same _ _ body.2.2.1)) (prog.owner_function body.2.0 body.2.2.0)

    loops_stay : (i : ℕ) → all ≤ i → (k : ℕ) → k < l.loops → ((again (suc i)).turn k ≡ (again (suc (suc i))).turn k) × ((v : ℕ) → (again (suc i)).closing k v ≡ (again (suc (suc i))).closing k v)
    unfolding again all
    loops_stay i le k kl = (
      here.0,
      λ v. ⊎_elim
          (λ (own : g.owner v ≡ g.owner (l.header k)). here.1 v own)
          (λ (apart : g.owner v ≡ g.owner (l.header k) → ⊥). closing_apart (again i) (again (suc i)) k v kl apart)
          (cases_eq (g.owner v) (g.owner (l.header k))),
    )
      where
        loop_function : g.owner (l.header k) < g.functions
        loop_function =
            let body : IsInBody g (l.header k) (extent k) (l.header k) = (acc.bodies k (l.header k) kl).0 (header_held g l extent prog (accepted_entered acc) k kl) in
            subst (λ u. g.owner u < g.functions) (sym (some_same _ _ body.2.2.1)) (prog.owner_function body.2.0 body.2.2.0)

        here : ((again (suc i)).turn k ≡ (again (suc (suc i))).turn k) × ((v : ℕ) → g.owner v ≡ g.owner (l.header k) → (again (suc i)).closing k v ≡ (again (suc (suc i))).closing k v)
        here =
            let low : order (g.owner (l.header k)) < g.functions = falls.below (g.owner (l.header k)) loop_function in
            let up : order (g.owner (l.header k)) * wide + wide ≤ g.functions * wide = level-le (order (g.owner (l.header k))) g.functions low in
            let b : nest.rank k + 1 < wide = below k kl in
            let most : g.functions * wide ≤ i = le in
            (both_at (suc i)).1 k kl (let r : order (g.owner (l.header k)) * wide + nest.rank k < suc i = omega arith in r)

    -- and then the ends, from the callers downwards
    ends_stay : (m i v : ℕ) → all + m < i → g.functions ≤ order (g.owner v) + m → (again (suc i)).least.to_end v ≡ (again (suc (suc i))).least.to_end v
    unfolding again
    ends_stay m zero v less low = let bad : ⊥ = omega arith in absurd bad
    ends_stay zero (suc i) v less low =
        let nodes = nodes_stay i (let r : all ≤ i = omega arith in r) v in
        end_next (again (suc i)) (again (suc (suc i))) v nodes.0 nodes.1 (λ e u el calls to. (let fl : order (g.owner v) < g.functions = falls.below (g.owner v) (prog.callee_function e (g.owner v) el calls) in let bad : ⊥ = omega arith in absurd bad))
    ends_stay (suc m) (suc i) v less low =
        let nodes = nodes_stay i (let r : all ≤ i = omega arith in r) v in
        end_next (again (suc i)) (again (suc (suc i))) v nodes.0 nodes.1 (λ e u el calls to. ends_stay m i u (let r : all + m < i = omega arith in r)
        (let above : order (g.owner v) < order (g.owner u) = subst (λ x. order (g.owner v) < order x) (sym (stays e u el to)) (falls.falls (g.source e) (g.owner v) (e, el, refl, calls)) in
        let r : g.functions ≤ order (g.owner u) + m = omega arith in r))

    pub are_found : (n : Charged) × AreCharged g l w n
    unfolding again
    are_found =
        let i : ℕ = all + g.functions + 1 in (
          again (suc (all + g.functions + 1)),
          found (again (suc (all + g.functions + 1)))
              (λ v. (nodes_stay (all + g.functions + 1) (let r : all ≤ all + g.functions + 1 = omega arith in r) v).0)
              (λ v. (nodes_stay (all + g.functions + 1) (let r : all ≤ all + g.functions + 1 = omega arith in r) v).1)
              (λ v. ends_stay g.functions (all + g.functions + 1) v (let r : all + g.functions < all + g.functions + 1 = omega arith in r) (let r : g.functions ≤ order (g.owner v) + g.functions = omega arith in r))
              (λ k v kl. (loops_stay (all + g.functions + 1) (let r : all ≤ all + g.functions + 1 = omega arith in r) k kl).1 v)
              (λ k kl. (loops_stay (all + g.functions + 1) (let r : all ≤ all + g.functions + 1 = omega arith in r) k kl).0),
        )

pub charged_exist : ChargedExist
charged_exist g l extent w prog acc =
    let o = theory.call_order g prog in
    let wide : ℕ = sum_below l.loops (λ k. (nest g l extent w prog acc).rank k) + 2 in
    are_found g l extent w prog acc o.0 o.1 (sum_below l.loops (λ k. (nest g l extent w prog acc).rank k) + 2) (let r : 0 < sum_below l.loops (λ k. (nest g l extent w prog acc).rank k) + 2 = omega arith in r)
    (λ k kl. (let le : (nest g l extent w prog acc).rank k ≤ sum_below l.loops (λ k. (nest g l extent w prog acc).rank k) = term-le-sum l.loops (λ k. (nest g l extent w prog acc).rank k) k kl in
    let r : (nest g l extent w prog acc).rank k + 1 < sum_below l.loops (λ k. (nest g l extent w prog acc).rank k) + 2 = omega arith in r))
