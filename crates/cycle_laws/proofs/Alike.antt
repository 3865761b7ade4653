-- An accepted program has one record of least cycles with charged loops.
use Rattle.std.proofs.Common.{◌≡◌, ℕ, zero, suc, ◌+◌, ◌*◌, ◌<◌, ◌≤◌, Bool, true, false, not, ◌&&◌, ◌||◌, ◌⊎◌, inl, inr, ⊎_elim, List, [], ◌∷◌, Option, Some, None, is_some, unwrap_or, refl, sym, ap, ◌∙◌, subst, arith}
use Rattle.std.proofs.lemmas.Bool.{cases_eq}
use Rattle.cost_theory.specs.Graph.{Graph, Loops, total, only, is_round, is_header, enters, any_below}
use Rattle.cost_theory.specs.Worst.{at_some}
use Rattle.cost_theory.specs.Accepted.{IsCallOrder, IsInBody}
use Rattle.cost_theory.specs.Least.{IsLeast, IsLeastIfAny, callee_value, least_call, least_cost, IsWay, way_cost, end_after, WayToEnd}
use Rattle.cost_theory.specs.Least.WayToEnd.{Exits, Returns}
use Rattle.cost_theory.specs.LeastTurns.{IsRun, turn_step, turn_last}
use Rattle.cost_theory.proofs.Laws.{sum-same, and_left, and_right, not_true, some_same, entered-header, no_numbers}
use Rattle.cost_theory.proofs.Laws as theory
use Rattle.cycle_laws.specs.Charged.{Charged, calls_so, calls_exit, charged_trips, charge_of, charged_cost, leads_on, ends_exit, AreCharged}
use Rattle.cycle_laws.specs.LeastLaws.{IsCharged, ChargedAgree}
use Rattle.cycle_laws.proofs.WalkKinds.{nest, turn_kind}

-- least values of things that are the same
least_le : {A : Type 0} (P P' : A → Type 0) (value value' : A → ℕ) (x y : ℕ) → ((a : A) → P a → P' a × (value a ≡ value' a)) → IsLeast P value x → IsLeast P' value' y → y ≤ x
least_le P P' value value' x y same one other =
    let a = one.reached.0 in
    let p = same a one.reached.1 in
    let le : y ≤ value' a = other.least a p.0 in
    let e : value a ≡ value' a = p.1 in
    let r : value a ≡ x = one.reached.2 in
    omega arith

pub least_same : {A : Type 0} (P P' : A → Type 0) (value value' : A → ℕ) (o o' : Option ℕ) → ((a : A) → P a → P' a × (value a ≡ value' a)) → ((a : A) → P' a → P a × (value' a ≡ value a)) →
    IsLeastIfAny P value o → IsLeastIfAny P' value' o' → o ≡ o'
least_same P P' value value' None None there back one other = refl
least_same P P' value value' None (Some y) there back one other = absurd (one other.reached.0 (back other.reached.0 other.reached.1).0)
least_same P P' value value' (Some x) None there back one other = absurd (other one.reached.0 (there one.reached.0 one.reached.1).0)
least_same P P' value value' (Some x) (Some y) there back one other =
    let le : y ≤ x = least_le P P' value value' x y there one other in
    let ge : x ≤ y = least_le P' P value' value y x back other one in
    let e : x ≡ y = omega arith in
    ap Some e

pub any_same : (n : ℕ) (p q : ℕ → Bool) → ((k : ℕ) → k < n → p k ≡ q k) → any_below n p ≡ any_below n q
any_same zero p q same = refl
any_same (suc n) p q same = ap (λ b. b || p n) (any_same n p q (λ k kl. same k (omega arith))) ∙ ap (λ b. any_below n q || b) (same n (omega arith))

module _ (g : Graph) (stays : (e v : ℕ) → e < g.edges → g.target e ≡ Some v → g.owner v ≡ g.owner (g.source e)) where
  -- runs of kinds and costs that agree on the edges of a function
  run_same : (last last' step : ℕ → Bool) (c c' : ℕ → ℕ) (f : ℕ) → ((e : ℕ) → e < g.edges → g.owner (g.source e) ≡ f → last e ≡ last' e) →
      ((e : ℕ) → e < g.edges → g.owner (g.source e) ≡ f → (last e ≡ true) ⊎ (step e ≡ true) → c e ≡ c' e) →
      (es : List ℕ) (p : Option ℕ) → ((v : ℕ) → p ≡ Some v → g.owner v ≡ f) → IsRun g false last step p es → IsRun g false last' step p es × (total c es ≡ total c' es)
  run_same last last' step c c' f lasts costs [] p owned run = let q : false ≡ true = run in let bad : ⊥ = cc in absurd bad
  run_same last last' step c c' f lasts costs (e ∷ es) p owned run = go run.2 (λ more. run_same last last' step c c' f lasts costs es (g.target e) (λ v to. stays e v run.0 to ∙ here) more)
    where
      here : g.owner (g.source e) ≡ f
      here = owned (g.source e) run.1

      go : ((last e ≡ true) × (es ≡ [])) ⊎ ((step e ≡ true) × IsRun g false last step (g.target e) es) → (IsRun g false last step (g.target e) es → IsRun g false last' step (g.target e) es × (total c es ≡ total c' es)) →
          IsRun g false last' step p (e ∷ es) × (c e + total c es ≡ c' e + total c' es)
      go (inl a) ih =
          let a1 : c e ≡ c' e = costs e run.0 here (inl a.0) in
          let b1 : total c es ≡ total c' es = ap (total c) a.1 ∙ sym (ap (total c') a.1) in
          ((run.0, run.1, inl (sym (lasts e run.0 here) ∙ a.0, a.1)), omega arith)
      go (inr a) ih =
          let a1 : c e ≡ c' e = costs e run.0 here (inr a.0) in
          let more = ih a.1 in
          let b1 : total c es ≡ total c' es = more.1 in
          ((run.0, run.1, inr (a.0, more.0)), omega arith)

  -- so their least costs agree
  pub table_same : (last last' step : ℕ → Bool) (c c' : ℕ → ℕ) (f v : ℕ) (o o' : Option ℕ) → g.owner v ≡ f → ((e : ℕ) → e < g.edges → g.owner (g.source e) ≡ f → last e ≡ last' e) →
      ((e : ℕ) → e < g.edges → g.owner (g.source e) ≡ f → (last e ≡ true) ⊎ (step e ≡ true) → c e ≡ c' e) →
      IsLeastIfAny (IsRun g false last step (Some v)) (total c) o → IsLeastIfAny (IsRun g false last' step (Some v)) (total c') o' → o ≡ o'
  table_same last last' step c c' f v o o' own lasts costs one other =
      least_same (IsRun g false last step (Some v)) (IsRun g false last' step (Some v)) (total c) (total c') o o'
      (λ es run. run_same last last' step c c' f lasts costs es (Some v) (λ u e. ap g.owner (sym (some_same v u e)) ∙ own) run)
      (λ es run. run_same last' last step c' c f (λ e el here. sym (lasts e el here))
      (λ e el here which. sym (costs e el here (⊎_elim (λ l. inl (lasts e el here ∙ l)) (λ s. inr s) which))) es (Some v) (λ u e. ap g.owner (sym (some_same v u e)) ∙ own) run)
      one other

module _ (g : Graph) (l : Loops) (extent : ℕ → ℕ → Bool) (w : ℕ → ℕ) (n n' : Charged) (is : IsCharged g l extent w n) (is' : IsCharged g l extent w n') (order : ℕ → ℕ) (falls : IsCallOrder g order) where
  owner_stays : (e v : ℕ) → e < g.edges → g.target e ≡ Some v → g.owner v ≡ g.owner (g.source e)
  owner_stays e v el to = (is.program.stays e v el to).1

  abbrev SameAt : ℕ → Type 0
  SameAt f = (v : ℕ) → g.owner v ≡ f → (n.least.to_return v ≡ n'.least.to_return v) × (n.least.to_exit v ≡ n'.least.to_exit v)

  -- a function, where those that it calls agree
  module _ (f : ℕ) (below : (h : ℕ) → order h < order f → SameAt h) where
    callee_same : (e h : ℕ) → e < g.edges → g.owner (g.source e) ≡ f → g.callee e ≡ Some h → (n.least.to_return (g.entry h) ≡ n'.least.to_return (g.entry h)) × (n.least.to_exit (g.entry h) ≡ n'.least.to_exit (g.entry h))
    callee_same e h el own calls =
        let low : order h < order (g.owner (g.source e)) = falls.falls (g.source e) h (e, el, refl, calls) in
        below h (subst (λ i. order h < order i) own low) (g.entry h) (is.program.entry_owner h (is.program.callee_function e h el calls))

    price_same : (e : ℕ) → e < g.edges → g.owner (g.source e) ≡ f → least_cost g w n.least e ≡ least_cost g w n'.least e
    price_same e el own = ap (λ x. w e + x) (by_target (g.target e))
      where
        values : (one other : ℕ → Option ℕ) → ((h : ℕ) → g.callee e ≡ Some h → one (g.entry h) ≡ other (g.entry h)) → callee_value g one e ≡ callee_value g other e
        values one other same = by_callee (g.callee e) refl
          where
            by_callee : (o : Option ℕ) → g.callee e ≡ o → at_some o (λ h. unwrap_or (one (g.entry h)) 0) ≡ at_some o (λ h. unwrap_or (other (g.entry h)) 0)
            by_callee None h = refl
            by_callee (Some i) h = ap (λ o. unwrap_or o 0) (same i h)

        by_target : (o : Option ℕ) → least_call g n.least e o ≡ least_call g n'.least e o
        by_target None = values n.least.to_exit n'.least.to_exit (λ h calls. (callee_same e h el own calls).1)
        by_target (Some t) = values n.least.to_return n'.least.to_return (λ h calls. (callee_same e h el own calls).0)

    exits_same : (e : ℕ) → e < g.edges → g.owner (g.source e) ≡ f → calls_exit g n.least e ≡ calls_exit g n'.least e
    exits_same e el own = by_callee (g.callee e) refl
      where
        by_callee : (o : Option ℕ) → g.callee e ≡ o → calls_so o (λ h. is_some (n.least.to_exit (g.entry h))) ≡ calls_so o (λ h. is_some (n'.least.to_exit (g.entry h)))
        by_callee None h = refl
        by_callee (Some i) h = ap is_some (callee_same e i el own h).1

    trips_same : (k : ℕ) → k < l.loops → g.owner (l.header k) ≡ f → charged_trips g l n.least k ≡ charged_trips g l n'.least k
    trips_same k kl own = ap (λ b. only (not b) (l.least_trips k)) (any_same g.edges (λ e. l.inside k (g.source e) && (g.exits e || calls_exit g n.least e)) (λ e. l.inside k (g.source e) && (g.exits e || calls_exit g n'.least e))
        (λ e el. each e el (l.inside k (g.source e)) refl))
      where
        each : (e : ℕ) → e < g.edges → (b : Bool) → l.inside k (g.source e) ≡ b → (l.inside k (g.source e) && (g.exits e || calls_exit g n.least e)) ≡ (l.inside k (g.source e) && (g.exits e || calls_exit g n'.least e))
        each e el false h = ap (λ b. b && (g.exits e || calls_exit g n.least e)) h ∙ sym (ap (λ b. b && (g.exits e || calls_exit g n'.least e)) h)
        each e el true h =
            let body : IsInBody g (l.header k) (extent k) (g.source e) = (is.accepted.bodies k (g.source e) kl).0 h in
            ap (λ b. l.inside k (g.source e) && (g.exits e || b)) (exits_same e el (body.0 ∙ own))

    -- what an edge is charged, where the turns of the loops that it enters agree
    charge_same : (e : ℕ) → e < g.edges → g.owner (g.source e) ≡ f → ((j : ℕ) → j < l.loops → enters l j (g.source e) (g.target e) ≡ true → g.owner (l.header j) ≡ f → n.turn j ≡ n'.turn j) → charge_of g l n e ≡ charge_of g l n' e
    charge_same e el own turns = sum-same l.loops (λ j. only (enters l j (g.source e) (g.target e)) (charged_trips g l n.least j * n.turn j)) (λ j. only (enters l j (g.source e) (g.target e)) (charged_trips g l n'.least j * n'.turn j))
        (λ j jl. each j jl (enters l j (g.source e) (g.target e)) refl)
      where
        each : (j : ℕ) → j < l.loops → (b : Bool) → enters l j (g.source e) (g.target e) ≡ b →
            only (enters l j (g.source e) (g.target e)) (charged_trips g l n.least j * n.turn j) ≡ only (enters l j (g.source e) (g.target e)) (charged_trips g l n'.least j * n'.turn j)
        each j jl false h = ap (λ b. only b (charged_trips g l n.least j * n.turn j)) h ∙ sym (ap (λ b. only b (charged_trips g l n'.least j * n'.turn j)) h)
        each j jl true h =
            let to : g.target e ≡ Some (l.header j) = entered-header g l w no_numbers (nest g l extent w n is) e j el jl h in
            let here : g.owner (l.header j) ≡ f = owner_stays e (l.header j) el to ∙ own in
            ap (λ x. only (enters l j (g.source e) (g.target e)) (x * n.turn j)) (trips_same j jl here) ∙
            ap (λ x. only (enters l j (g.source e) (g.target e)) (charged_trips g l n'.least j * x)) (turns j jl h here)

    -- the turns of a loop, from the innermost outwards
    closing_same : (m k : ℕ) → k < l.loops → g.owner (l.header k) ≡ f → (nest g l extent w n is).rank k < m → (v : ℕ) → g.owner v ≡ f → n.closing k v ≡ n'.closing k v
    closing_same zero k kl own low v at = let bad : ⊥ = omega arith in absurd bad
    closing_same (suc m) k kl own low v at =
        table_same g owner_stays (turn_last g l k) (turn_last g l k) (turn_step g l k) (charged_cost g l w n) (charged_cost g l w n') f v (n.closing k v) (n'.closing k v) at (λ e el here. refl)
        (λ e el here which. costs e el here which (λ j jl jown less. closing_same m j jl jown (omega arith) (l.header j) jown)) (is.numbers.closing k v kl) (is'.numbers.closing k v kl)
      where
        within : (e j : ℕ) → e < g.edges → j < l.loops → turn_step g l k e ≡ true → enters l j (g.source e) (g.target e) ≡ true → (nest g l extent w n is).rank j < (nest g l extent w n is).rank k
        within e j el jl st en = by_target (g.target e) refl
          where
            by_target : (o : Option ℕ) → g.target e ≡ o → (nest g l extent w n is).rank j < (nest g l extent w n is).rank k
            by_target None to =
                let q : is_round l j (g.target e) ≡ true = and_right (not (l.inside j (g.source e))) (is_round l j (g.target e)) en in
                let r : false ≡ true = subst (λ o. is_round l j o ≡ true) to q in
                let bad : ⊥ = cc in absurd bad
            by_target (Some u) to = ((nest g l extent w n is).within e j k u el jl kl to (and_left (l.inside k (g.source e)) (is_round l k (g.target e) && not (is_header l k (g.target e))) st)
                (subst (λ o. is_round l k o ≡ true) to (and_left (is_round l k (g.target e)) (not (is_header l k (g.target e))) (and_right (l.inside k (g.source e)) (is_round l k (g.target e) && not (is_header l k (g.target e))) st)))
                (subst (λ o. is_round l j o ≡ true) to (and_right (not (l.inside j (g.source e))) (is_round l j (g.target e)) en))
                (not_true (l.inside j (g.source e)) (and_left (not (l.inside j (g.source e))) (is_round l j (g.target e)) en))).0

        costs : (e : ℕ) → e < g.edges → g.owner (g.source e) ≡ f → (turn_last g l k e ≡ true) ⊎ (turn_step g l k e ≡ true) →
            ((j : ℕ) → j < l.loops → g.owner (l.header j) ≡ f → (nest g l extent w n is).rank j < (nest g l extent w n is).rank k → n.closing j (l.header j) ≡ n'.closing j (l.header j)) →
            charged_cost g l w n e ≡ charged_cost g l w n' e
        costs e el here (inl back) inner =
            let a : least_cost g w n.least e ≡ least_cost g w n'.least e = price_same e el here in
            let b : charge_of g l n e ≡ 0 = (turn_kind g l extent w n is k kl).free e el back in
            let d : charge_of g l n' e ≡ 0 = (turn_kind g l extent w n' is' k kl).free e el back in
            omega arith
        costs e el here (inr st) inner =
            let a : least_cost g w n.least e ≡ least_cost g w n'.least e = price_same e el here in
            let b : charge_of g l n e ≡ charge_of g l n' e = charge_same e el here (λ j jl en own.
            some_same _ _ (sym (is.numbers.turn j jl) ∙ (inner j jl own (within e j el jl st en) ∙ is'.numbers.turn j jl))) in
            omega arith

    turn_same : (k : ℕ) → k < l.loops → g.owner (l.header k) ≡ f → n.turn k ≡ n'.turn k
    turn_same k kl own = some_same _ _ (sym (is.numbers.turn k kl) ∙ (closing_same (suc ((nest g l extent w n is).rank k)) k kl own (omega arith) (l.header k) own ∙ is'.numbers.turn k kl))

    costs_same : (e : ℕ) → e < g.edges → g.owner (g.source e) ≡ f → charged_cost g l w n e ≡ charged_cost g l w n' e
    costs_same e el here =
        let a : least_cost g w n.least e ≡ least_cost g w n'.least e = price_same e el here in
        let b : charge_of g l n e ≡ charge_of g l n' e = charge_same e el here (λ j jl en own. turn_same j jl own) in
        omega arith

    function_same : SameAt f
    function_same v own = (
      table_same g owner_stays g.returns g.returns (leads_on g) (charged_cost g l w n) (charged_cost g l w n') f v (n.least.to_return v) (n'.least.to_return v) own (λ e el here. refl)
          (λ e el here which. costs_same e el here) (is.numbers.to_return v) (is'.numbers.to_return v),
      table_same g owner_stays (ends_exit g n.least) (ends_exit g n'.least) (leads_on g) (charged_cost g l w n) (charged_cost g l w n') f v (n.least.to_exit v) (n'.least.to_exit v) own
          (λ e el here. ap (λ b. g.exits e || (not (is_some (g.target e)) && b)) (exits_same e el here))
          (λ e el here which. costs_same e el here) (is.numbers.to_exit v) (is'.numbers.to_exit v),
    )

  functions_same : (r f : ℕ) → order f < r → SameAt f
  functions_same zero f low = let bad : ⊥ = omega arith in absurd bad
  functions_same (suc r) f low = function_same f (λ h less. functions_same r h (omega arith))

  at_node : (v : ℕ) → (n.least.to_return v ≡ n'.least.to_return v) × (n.least.to_exit v ≡ n'.least.to_exit v)
  at_node v = functions_same (suc (order (g.owner v))) (g.owner v) (omega arith) v refl

  at_loop : (k : ℕ) → k < l.loops → (v : ℕ) → g.owner v ≡ g.owner (l.header k) → n.closing k v ≡ n'.closing k v
  at_loop k kl v own = closing_same (g.owner (l.header k)) (λ h less. functions_same (order (g.owner (l.header k))) h less) (suc ((nest g l extent w n is).rank k)) k kl refl (omega arith) v own

  at_turn : (k : ℕ) → k < l.loops → n.turn k ≡ n'.turn k
  at_turn k kl = some_same _ _ (sym (is.numbers.turn k kl) ∙ (at_loop k kl (l.header k) refl ∙ is'.numbers.turn k kl))

  -- from a node of another function there is no rest of a turn
  elsewhere : (k v : ℕ) → k < l.loops → (g.owner v ≡ g.owner (l.header k) → ⊥) → (m : Charged) → AreCharged g l w m → m.closing k v ≡ None
  elsewhere k v kl apart m are = go (m.closing k v) (are.closing k v kl)
    where
      inside : (es : List ℕ) → IsRun g false (turn_last g l k) (turn_step g l k) (Some v) es → ⊥
      inside [] run = let q : false ≡ true = run in let bad : ⊥ = cc in bad
      inside (e ∷ es) run =
          let in_k : l.inside k (g.source e) ≡ true = ⊎_elim (λ (a : (turn_last g l k e ≡ true) × (es ≡ [])). and_left (l.inside k (g.source e)) (is_header l k (g.target e)) a.0)
          (λ (a : (turn_step g l k e ≡ true) × IsRun g false (turn_last g l k) (turn_step g l k) (g.target e) es). and_left (l.inside k (g.source e)) (is_round l k (g.target e) && not (is_header l k (g.target e))) a.0) run.2 in
          let body : IsInBody g (l.header k) (extent k) (g.source e) = (is.accepted.bodies k (g.source e) kl).0 in_k in
          apart (ap g.owner (some_same _ _ run.1) ∙ body.0)

      go : (o : Option ℕ) → IsLeastIfAny (IsRun g false (turn_last g l k) (turn_step g l k) (Some v)) (total (charged_cost g l w m)) o → o ≡ None
      go None h = refl
      go (Some x) h = absurd (inside h.reached.0 h.reached.1)

  at_closing : (k v : ℕ) → k < l.loops → n.closing k v ≡ n'.closing k v
  at_closing k v kl = ⊎_elim
      (λ (e : g.owner v ≡ g.owner (l.header k)). at_loop k kl v e)
      (λ (ne : g.owner v ≡ g.owner (l.header k) → ⊥). elsewhere k v kl ne n is.numbers ∙ sym (elsewhere k v kl ne n' is'.numbers))
      (cases_eq (g.owner v) (g.owner (l.header k)))

  -- ---- ends, from the callers inwards
  way_same : (one other : Charged) (v : ℕ) → ((u : ℕ) → one.least.to_return u ≡ other.least.to_return u) → ((u : ℕ) → one.least.to_exit u ≡ other.least.to_exit u) →
      ((e u : ℕ) → e < g.edges → g.callee e ≡ Some (g.owner v) → g.target e ≡ Some u → one.least.to_end u ≡ other.least.to_end u) → (way : WayToEnd) → IsWay g one.least v way → IsWay g other.least v way × (way_cost g one.least v way ≡ way_cost g other.least v way)
  way_same one other v returns exits outer Exits is_way = (subst (λ o. is_some o ≡ true) (exits v) is_way, ap (λ o. unwrap_or o 0) (exits v))
  way_same one other v returns exits outer (Returns e) is_way =
      let u : ℕ = is_way.1.2.0 in
      let el : e < g.edges = is_way.1.0 in
      let to : g.target e ≡ Some u = is_way.1.2.1 in
      let same : one.least.to_end u ≡ other.least.to_end u = outer e u el is_way.1.1 to in
      let behind : end_after g one.least e ≡ end_after g other.least e =
      ap (λ o. at_some o (λ u. unwrap_or (one.least.to_end u) 0)) to ∙ (ap (λ o. unwrap_or o 0) same ∙ sym (ap (λ o. at_some o (λ u. unwrap_or (other.least.to_end u) 0)) to)) in
      let back : unwrap_or (one.least.to_return v) 0 ≡ unwrap_or (other.least.to_return v) 0 = ap (λ o. unwrap_or o 0) (returns v) in (
        (subst (λ o. is_some o ≡ true) (returns v) is_way.0, (el, is_way.1.1, (u, to, subst (λ o. is_some o ≡ true) same is_way.1.2.2))),
        ap (λ x. x + end_after g one.least e) back ∙ ap (λ x. unwrap_or (other.least.to_return v) 0 + x) behind,
      )

  end_by : (v : ℕ) → ((e u : ℕ) → e < g.edges → g.callee e ≡ Some (g.owner v) → g.target e ≡ Some u → n.least.to_end u ≡ n'.least.to_end u) → n.least.to_end v ≡ n'.least.to_end v
  end_by v outer =
      least_same (IsWay g n.least v) (IsWay g n'.least v) (way_cost g n.least v) (way_cost g n'.least v) (n.least.to_end v) (n'.least.to_end v)
      (λ way h. way_same n n' v (λ u. (at_node u).0) (λ u. (at_node u).1) outer way h)
      (λ way h. way_same n' n v (λ u. sym (at_node u).0) (λ u. sym (at_node u).1) (λ e u el calls to. sym (outer e u el calls to)) way h)
      (is.numbers.to_end v) (is'.numbers.to_end v)

  above : (e v u : ℕ) → e < g.edges → g.callee e ≡ Some (g.owner v) → g.target e ≡ Some u → (order (g.owner v) < g.functions) × (order (g.owner v) < order (g.owner u))
  above e v u el calls to = (
    falls.below (g.owner v) (is.program.callee_function e (g.owner v) el calls),
    subst (λ i. order (g.owner v) < order i) (sym (owner_stays e u el to)) (falls.falls (g.source e) (g.owner v) (e, el, refl, calls)),
  )

  end_same : (m v : ℕ) → g.functions ≤ order (g.owner v) + m → n.least.to_end v ≡ n'.least.to_end v
  end_same zero v low = end_by v (λ e u el calls to. (let a : order (g.owner v) < g.functions = (above e v u el calls to).0 in let bad : ⊥ = omega arith in absurd bad))
  end_same (suc m) v low = end_by v (λ e u el calls to. end_same m u (let a : order (g.owner v) < order (g.owner u) = (above e v u el calls to).1 in let r : g.functions ≤ order (g.owner u) + m = omega arith in r))

pub charged_agree : ChargedAgree
charged_agree g l extent w n n' is nums' =
    let o = theory.call_order g is.program in
    let is' : IsCharged g l extent w n' = record { program = is.program; returns = is.returns; accepted = is.accepted; weights = is.weights; numbers = nums' } in
    record {
      to_return = λ v. (at_node g l extent w n n' is is' o.0 o.1 v).0;
      to_exit = λ v. (at_node g l extent w n n' is is' o.0 o.1 v).1;
      to_end = λ v. end_same g l extent w n n' is is' o.0 o.1 g.functions v (let r : g.functions ≤ o.0 (g.owner v) + g.functions = omega arith in r);
      closing = λ k v kl. at_closing g l extent w n n' is is' o.0 o.1 k v kl;
      turn = λ k kl. at_turn g l extent w n n' is is' o.0 o.1 k kl;
    }
