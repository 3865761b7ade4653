-- Where no loop has to turn more often than it may, the least turns and what edges are charged are within the worst numbers, whatever
-- the calls come back to.
use Rattle.std.proofs.Common.{◌≡◌, ℕ, zero, suc, ◌+◌, ◌*◌, ◌<◌, ◌≤◌, Bool, true, false, not, ◌&&◌, ◌⊎◌, inl, inr, ⊎_elim, List, [], ◌∷◌, ◌++◌, Option, Some, None, is_some, unwrap_or, refl, sym, ap, ◌∙◌, subst, arith, eqb-true, mul-le-mul_right}
use Rattle.cost_theory.specs.Graph.{Graph, Loops, end_of, IsPlain, IsPlainPath, IsClosing, total, sum_below, only, is_round, is_header, is_back, enters}
use Rattle.cost_theory.specs.Worst.{Numbers, AreNumbers, at_some, cost, charged, all_of, turns_round}
use Rattle.cost_theory.specs.Accepted.{IsCallOrder}
use Rattle.cost_theory.specs.Least.{IsLeast, IsLeastIfAny, IsUpTo, callee_value, least_call, least_cost}
use Rattle.cost_theory.specs.LeastTurns.{IsRun, turn_step}
use Rattle.cost_theory.proofs.Laws.{sum-le, and_right, and_both, and_false, some_same, accepted_entered, header_held, header_closes, entered-header, no_numbers, worst_equation, plain_from_entry, least_up_to, turns-worst}
use Rattle.cost_theory.proofs.Laws as theory
use Rattle.cycle_laws.specs.Charged.{Charged, is_closed, charged_trips, charge_of, charged_cost, leads_on}
use Rattle.cycle_laws.specs.LeastLaws.{HaveFewTrips}
use Rattle.cycle_laws.proofs.Laws.{nest, Turn, inner_rank, closing_run, body_owner}
use Rattle.least_cycles.proofs.ChargedLaws.{IsNumbered, charged_back}

module _ (g : Graph) (l : Loops) (extent : ℕ → ℕ → Bool) (w : ℕ → ℕ) (n : Charged) (a : Numbers) (is : IsNumbered g l extent w n) (nums : AreNumbers g l w a) (few : HaveFewTrips l) where
  -- what an edge costs at most: its cost with all turns of the loops that it enters
  abbrev most : ℕ → ℕ
  most = charged g l a (cost g a w)

  abbrev least : ℕ → ℕ
  least = charged_cost g l w n

  trips-le : (k : ℕ) → k < l.loops → charged_trips g l n.least k ≤ l.bound k
  trips-le k kl = go (is_closed g l n.least k)
    where
      go : (b : Bool) → only b (l.least_trips k) ≤ l.bound k
      go true = few k kl
      go false = omega arith

  charge-le : (e : ℕ) → e < g.edges → ((j : ℕ) → j < l.loops → enters l j (g.source e) (g.target e) ≡ true → n.turn j ≤ a.iteration j) →
      charge_of g l n e ≤ sum_below l.loops (λ k. only (enters l k (g.source e) (g.target e)) (all_of l a k))
  charge-le e el turns = sum-le l.loops (λ k. only (enters l k (g.source e) (g.target e)) (charged_trips g l n.least k * n.turn k)) (λ k. only (enters l k (g.source e) (g.target e)) (all_of l a k))
      (λ k kl. each k kl (enters l k (g.source e) (g.target e)) refl)
    where
      each : (k : ℕ) → k < l.loops → (b : Bool) → enters l k (g.source e) (g.target e) ≡ b → only (enters l k (g.source e) (g.target e)) (charged_trips g l n.least k * n.turn k) ≤ only (enters l k (g.source e) (g.target e)) (all_of l a k)
      each k kl false h = let z : only (enters l k (g.source e) (g.target e)) (charged_trips g l n.least k * n.turn k) ≡ 0 = ap (λ b. only b (charged_trips g l n.least k * n.turn k)) h in omega arith
      each k kl true h =
          let x : only (enters l k (g.source e) (g.target e)) (charged_trips g l n.least k * n.turn k) ≡ charged_trips g l n.least k * n.turn k = ap (λ b. only b (charged_trips g l n.least k * n.turn k)) h in
          let y : only (enters l k (g.source e) (g.target e)) (all_of l a k) ≡ l.bound k * a.iteration k = ap (λ b. only b (all_of l a k)) h in
          let one : charged_trips g l n.least k * n.turn k ≤ l.bound k * n.turn k = mul-le-mul_right (n.turn k) (trips-le k kl) in
          let two : n.turn k * l.bound k ≤ a.iteration k * l.bound k = mul-le-mul_right (l.bound k) (turns k kl h) in
          let p : n.turn k * l.bound k ≡ l.bound k * n.turn k = omega arith in
          let q : a.iteration k * l.bound k ≡ l.bound k * a.iteration k = omega arith in
          omega arith

  module _ (order : ℕ → ℕ) (falls : IsCallOrder g order) where
    abbrev IsBelow : ℕ → Type 0
    IsBelow h = (r : ℕ) → n.least.to_return (g.entry h) ≡ Some r → r ≤ a.worst h

    module _ (f : ℕ) (called : (h : ℕ) → h < g.functions → order h < order f → IsBelow h) where
      price-le : (e t : ℕ) → e < g.edges → g.owner (g.source e) ≡ f → g.target e ≡ Some t → least_cost g w n.least e ≤ cost g a w e
      price-le e t el own to =
          let x : least_call g n.least e (g.target e) ≡ callee_value g n.least.to_return e = ap (least_call g n.least e) to in
          let le : callee_value g n.least.to_return e ≤ at_some (g.callee e) a.worst = by_callee (g.callee e) refl in
          omega arith
        where
          value : (h : ℕ) → IsBelow h → unwrap_or (n.least.to_return (g.entry h)) 0 ≤ a.worst h
          value h below = go (n.least.to_return (g.entry h)) refl
            where
              go : (o : Option ℕ) → n.least.to_return (g.entry h) ≡ o → unwrap_or (n.least.to_return (g.entry h)) 0 ≤ a.worst h
              go None e = let z : unwrap_or (n.least.to_return (g.entry h)) 0 ≡ 0 = ap (λ o. unwrap_or o 0) e in omega arith
              go (Some r) e = let z : unwrap_or (n.least.to_return (g.entry h)) 0 ≡ r = ap (λ o. unwrap_or o 0) e in let le : r ≤ a.worst h = below r e in omega arith

          by_callee : (o : Option ℕ) → g.callee e ≡ o → at_some (g.callee e) (λ h. unwrap_or (n.least.to_return (g.entry h)) 0) ≤ at_some (g.callee e) a.worst
          by_callee None calls = let z : at_some (g.callee e) (λ h. unwrap_or (n.least.to_return (g.entry h)) 0) ≡ 0 = ap (λ o. at_some o (λ h. unwrap_or (n.least.to_return (g.entry h)) 0)) calls in omega arith
          by_callee (Some h) calls =
              let before : order h < order f = subst (λ x. order h < order x) own (falls.falls (g.source e) h (e, el, refl, calls)) in
              let z : at_some (g.callee e) (λ h. unwrap_or (n.least.to_return (g.entry h)) 0) ≡ unwrap_or (n.least.to_return (g.entry h)) 0 = ap (λ o. at_some o (λ h. unwrap_or (n.least.to_return (g.entry h)) 0)) calls in
              let y : at_some (g.callee e) a.worst ≡ a.worst h = ap (λ o. at_some o a.worst) calls in
              let le : unwrap_or (n.least.to_return (g.entry h)) 0 ≤ a.worst h = value h (called h (is.program.callee_function e h el calls) before) in
              omega arith

      -- one turn of a loop
      turn-le : (m k : ℕ) → k < l.loops → g.owner (l.header k) ≡ f → (nest g l extent w is.program is.accepted).rank k < m → n.turn k ≤ a.iteration k
      turn-le zero k kl own low = let bad : ⊥ = omega arith in absurd bad
      turn-le (suc m) k kl own low =
          let path = header_closes g l extent is.program is.accepted k kl in
          let held : l.inside k (l.header k) ≡ true = header_held g l extent is.program (accepted_entered is.accepted) k kl in
          let run : Turn g l extent w is.program is.accepted k (l.header k) path.0 = closing_run g l extent w is.program is.accepted k kl path.0 (l.header k) held path.1 in
          let up : IsUpTo (n.closing k (l.header k)) (total least path.0) = least_up_to (Turn g l extent w is.program is.accepted k (l.header k)) (total least) (n.closing k (l.header k)) (is.numbers.closing k (l.header k) kl) path.0 run in
          let same : n.turn k ≡ up.0 = some_same _ _ (sym (is.numbers.turn k kl) ∙ up.1) in
          let le : up.0 ≤ total least path.0 = up.2 in
          let costs : total least path.0 ≤ total most path.0 = closing-le (λ j jl jown less. turn-le m j jl jown (omega arith)) path.0 (l.header k) held path.1 in
          let top : total most path.0 ≤ a.iteration k = (nums.loops.iteration k kl).most path.0 path.1 in
          omega arith
        where
          closing-le : ((j : ℕ) → j < l.loops → g.owner (l.header j) ≡ f → (nest g l extent w is.program is.accepted).rank j < (nest g l extent w is.program is.accepted).rank k → n.turn j ≤ a.iteration j) →
              (es : List ℕ) (v : ℕ) → l.inside k v ≡ true → IsClosing g l k (Some v) es → total least es ≤ total most es
          closing-le inner [] v inside closes = absurd closes
          closing-le inner (e ∷ es) v inside closes = go closes.2 (λ u in_u more. closing-le inner es u in_u more)
            where
              in_u : l.inside k (g.source e) ≡ true
              in_u = subst (λ u. l.inside k u ≡ true) (some_same _ _ closes.1) inside

              here : g.owner (g.source e) ≡ f
              here = body_owner g l extent w is.program is.accepted k (g.source e) kl in_u ∙ own

              at_header : is_back g l k e ≡ true → g.target e ≡ Some (l.header k)
              at_header back = by_target (g.target e) refl (and_right (l.inside k (g.source e)) (is_header l k (g.target e)) back)
                where
                  by_target : (o : Option ℕ) → g.target e ≡ o → is_header l k (g.target e) ≡ true → g.target e ≡ Some (l.header k)
                  by_target None to h = let q : false ≡ true = subst (λ o. is_header l k o ≡ true) to h in let bad : ⊥ = cc in absurd bad
                  by_target (Some u) to h = to ∙ ap Some (eqb-true u (l.header k) (subst (λ o. is_header l k o ≡ true) to h))

              go : ((is_back g l k e ≡ true) × (es ≡ [])) ⊎ (IsPlain g l e × (is_round l k (g.target e) ≡ true) × IsClosing g l k (g.target e) es) →
                  ((u : ℕ) → l.inside k u ≡ true → IsClosing g l k (Some u) es → total least es ≤ total most es) → least e + total least es ≤ most e + total most es
              go (inl b) ih =
                  let p : least_cost g w n.least e ≤ cost g a w e = price-le e (l.header k) closes.0 here (at_header b.0) in
                  let z : charge_of g l n e ≡ 0 = charged_back g l extent w n is.program is.accepted e k closes.0 kl b.0 in
                  let r : total least es ≡ 0 = ap (total least) b.1 in
                  omega arith
              go (inr b) ih = by_target (g.target e) refl
                where
                  st : turn_step g l k e ≡ true
                  st =
                      let away : is_header l k (g.target e) ≡ false = sym (ap (λ x. x && is_header l k (g.target e)) in_u) ∙ b.0 k kl in
                      and_both (l.inside k (g.source e)) (is_round l k (g.target e) && not (is_header l k (g.target e))) in_u (and_both (is_round l k (g.target e)) (not (is_header l k (g.target e))) b.1 (ap not away))

                  by_target : (o : Option ℕ) → g.target e ≡ o → least e + total least es ≤ most e + total most es
                  by_target None to = let q : false ≡ true = subst (λ o. is_round l k o ≡ true) to b.1 in let bad : ⊥ = cc in absurd bad
                  by_target (Some u) to =
                      let p : least_cost g w n.least e ≤ cost g a w e = price-le e u closes.0 here to in
                      let c : charge_of g l n e ≤ sum_below l.loops (λ k. only (enters l k (g.source e) (g.target e)) (all_of l a k)) =
                      charge-le e closes.0 (λ j jl en. inner j jl (ap g.owner (some_same _ _ (sym (entered-header g l w no_numbers (nest g l extent w is.program is.accepted) e j closes.0 jl en) ∙ to)) ∙ ((is.program.stays e u closes.0 to).1 ∙ here))
                      (inner_rank g l extent w is.program is.accepted k e j kl closes.0 jl st en)) in
                      let r : total least es ≤ total most es = ih u (subst (λ o. is_round l k o ≡ true) to b.1) (subst (λ o. IsClosing g l k o es) to b.2) in
                      omega arith

      turn_here : (k : ℕ) → k < l.loops → g.owner (l.header k) ≡ f → n.turn k ≤ a.iteration k
      turn_here k kl own = turn-le (suc ((nest g l extent w is.program is.accepted).rank k)) k kl own (omega arith)

      edge-le : (e t : ℕ) → e < g.edges → g.owner (g.source e) ≡ f → g.target e ≡ Some t → least e ≤ most e
      edge-le e t el own to =
          let p : least_cost g w n.least e ≤ cost g a w e = price-le e t el own to in
          let c : charge_of g l n e ≤ sum_below l.loops (λ k. only (enters l k (g.source e) (g.target e)) (all_of l a k)) =
          charge-le e el (λ j jl en. turn_here j jl (ap g.owner (some_same _ _ (sym (entered-header g l w no_numbers (nest g l extent w is.program is.accepted) e j el jl en) ∙ to)) ∙ ((is.program.stays e t el to).1 ∙ own))) in
          omega arith

      -- a plain path to a return
      module _ (d : ℕ) (dl : d < g.edges) (returns : g.returns d ≡ true) where
        ends : (g.target d ≡ None) × (g.callee d ≡ None)
        ends = is.program.return_end d dl returns

        last-le : least d ≤ most d
        last-le =
            let x : least_call g n.least d (g.target d) ≡ callee_value g n.least.to_exit d = ap (least_call g n.least d) ends.0 in
            let y : callee_value g n.least.to_exit d ≡ 0 = ap (λ o. at_some o (λ h. unwrap_or (n.least.to_exit (g.entry h)) 0)) ends.1 in
            let c : charge_of g l n d ≤ sum_below l.loops (λ k. only (enters l k (g.source d) (g.target d)) (all_of l a k)) =
            charge-le d dl (λ j jl en. absurd (let q : enters l j (g.source d) (g.target d) ≡ false = ap (λ o. enters l j (g.source d) o) ends.0 ∙ and_false (not (l.inside j (g.source d))) in let bad : ⊥ = cc in bad)) in
            omega arith

        to_return : (xs : List ℕ) (p : Option ℕ) → ((v : ℕ) → p ≡ Some v → g.owner v ≡ f) → IsPlainPath g l p xs → end_of g p xs ≡ Some (g.source d) →
            IsRun g false g.returns (leads_on g) p (xs ++ d ∷ []) × IsPlainPath g l p (xs ++ d ∷ []) × (total least (xs ++ d ∷ []) ≤ total most (xs ++ d ∷ []))
        to_return [] p owned path at = (
          (dl, at, inl (returns, refl)),
          (dl, at, (λ k kl. ap (λ o. l.inside k (g.source d) && is_header l k o) ends.0 ∙ and_false (l.inside k (g.source d))), tt),
          (let le : least d ≤ most d = last-le in let r : least d + 0 ≤ most d + 0 = omega arith in r),
        )
        to_return (e ∷ xs) p owned path at = by_target (g.target e) refl (λ u to. to_return xs (g.target e) (λ v next. (is.program.stays e v path.0 next).1 ∙ owned (g.source e) path.1) path.3 at)
          where
            nowhere : (xs : List ℕ) → IsPlainPath g l None xs → end_of g None xs ≡ Some (g.source d) → ⊥
            nowhere [] path at = let bad : ⊥ = cc in bad
            nowhere (x ∷ xs) path at = let q : None ≡ Some (g.source x) = path.1 in let bad : ⊥ = cc in bad

            by_target : (o : Option ℕ) → g.target e ≡ o →
                ((u : ℕ) → g.target e ≡ Some u → IsRun g false g.returns (leads_on g) (g.target e) (xs ++ d ∷ []) × IsPlainPath g l (g.target e) (xs ++ d ∷ []) × (total least (xs ++ d ∷ []) ≤ total most (xs ++ d ∷ []))) →
                IsRun g false g.returns (leads_on g) p (e ∷ (xs ++ d ∷ [])) × IsPlainPath g l p (e ∷ (xs ++ d ∷ [])) × (least e + total least (xs ++ d ∷ []) ≤ most e + total most (xs ++ d ∷ []))
            by_target None to ih = absurd (nowhere xs (subst (λ o. IsPlainPath g l o xs) to path.3) (subst (λ o. end_of g o xs ≡ Some (g.source d)) to at))
            by_target (Some u) to ih =
                let r = ih u to in
                let le : least e ≤ most e = edge-le e u path.0 (owned (g.source e) path.1) to in
                let le2 : total least (xs ++ d ∷ []) ≤ total most (xs ++ d ∷ []) = r.2 in
                ((path.0, path.1, inr (ap is_some to, r.0)), (path.0, path.1, path.2, r.1), omega arith)

      last_return : (es : List ℕ) (p : Option ℕ) → ((v : ℕ) → p ≡ Some v → g.owner v ≡ f) → IsRun g false g.returns (leads_on g) p es → (d : ℕ) × (d < g.edges) × (g.returns d ≡ true) × (g.owner (g.source d) ≡ f)
      last_return [] p owned run = let q : false ≡ true = run in let bad : ⊥ = cc in absurd bad
      last_return (e ∷ es) p owned run = ⊎_elim
          (λ (b : (g.returns e ≡ true) × (es ≡ [])). (e, run.0, b.0, owned (g.source e) run.1))
          (λ (b : (leads_on g e ≡ true) × IsRun g false g.returns (leads_on g) (g.target e) es). last_return es (g.target e) (λ v to. (is.program.stays e v run.0 to).1 ∙ owned (g.source e) run.1) b.1)
          run.2

      function_below : f < g.functions → IsBelow f
      function_below fl r there =
          let h : IsLeast (IsRun g false g.returns (leads_on g) (Some (g.entry f))) (total least) r = subst (λ o. IsLeastIfAny (IsRun g false g.returns (leads_on g) (Some (g.entry f))) (total least) o) there (is.numbers.to_return (g.entry f)) in
          let own : g.owner (g.entry f) ≡ f = is.program.entry_owner f fl in
          let d = last_return h.reached.0 (Some (g.entry f)) (λ v e. ap g.owner (sym (some_same _ _ e)) ∙ own) h.reached.1 in
          let way : (xs : List ℕ) × IsPlainPath g l (Some (g.entry (g.owner (g.source d.0)))) xs × (end_of g (Some (g.entry (g.owner (g.source d.0)))) xs ≡ Some (g.source d.0)) = plain_from_entry g l extent is.program is.accepted d.0 d.1 in
          let path : IsPlainPath g l (Some (g.entry f)) way.0 = subst (λ i. IsPlainPath g l (Some (g.entry i)) way.0) d.3 way.1 in
          let end : end_of g (Some (g.entry f)) way.0 ≡ Some (g.source d.0) = subst (λ i. end_of g (Some (g.entry i)) way.0 ≡ Some (g.source d.0)) d.3 way.2 in
          let p = to_return d.0 d.1 d.2 way.0 (Some (g.entry f)) (λ v e. ap g.owner (sym (some_same _ _ e)) ∙ own) path end in
          let low : r ≤ total least (way.0 ++ d.0 ∷ []) = h.least (way.0 ++ d.0 ∷ []) p.0 in
          let mid : total least (way.0 ++ d.0 ∷ []) ≤ total most (way.0 ++ d.0 ∷ []) = p.2 in
          let high : total most (way.0 ++ d.0 ∷ []) ≤ a.plain (g.entry f) = (nums.loops.plain (g.entry f)).most (way.0 ++ d.0 ∷ []) p.1 in
          let left : a.plain (g.entry f) ≤ a.left (g.entry f) = (nums.loops.left (g.entry f)).over_plain in
          let worst : a.worst f ≡ a.left (g.entry f) + turns_round l a (Some (g.entry f)) = worst_equation g l extent w a is.program is.accepted is.weights nums f fl in
          omega arith

    functions_below : (m f : ℕ) → order f < m → f < g.functions → IsBelow f
    functions_below zero f low fl = let bad : ⊥ = omega arith in absurd bad
    functions_below (suc m) f low fl = function_below f (λ h hl less. functions_below m h (omega arith) hl) fl

    loop_below : (k : ℕ) → k < l.loops → n.turn k ≤ a.iteration k
    loop_below k kl = turn_here (g.owner (l.header k)) (λ h hl less. functions_below (order (g.owner (l.header k))) h less hl) k kl refl

  pub turn_within : (k : ℕ) → k < l.loops → n.turn k ≤ a.iteration k
  turn_within k kl = let o = theory.call_order g is.program in loop_below o.0 o.1 k kl

  pub charge_within : (e : ℕ) → e < g.edges → charge_of g l n e ≤ sum_below l.loops (λ k. only (enters l k (g.source e) (g.target e)) (all_of l a k))
  charge_within e el = charge-le e el (λ j jl en. turn_within j jl)

  -- all turns that a loop has to take, at the least cost of each
  pub trips_within : (k : ℕ) → k < l.loops → charged_trips g l n.least k * n.turn k ≤ a.worst 0
  trips_within k kl =
      let o = theory.call_order g is.program in
      let one : charged_trips g l n.least k * n.turn k ≤ l.bound k * n.turn k = mul-le-mul_right (n.turn k) (trips-le k kl) in
      let two : n.turn k * l.bound k ≤ a.iteration k * l.bound k = mul-le-mul_right (l.bound k) (turn_within k kl) in
      let p : n.turn k * l.bound k ≡ l.bound k * n.turn k = omega arith in
      let q : a.iteration k * l.bound k ≡ l.bound k * a.iteration k = omega arith in
      let top : l.bound k * a.iteration k ≤ a.worst 0 = turns-worst g l extent w a is.program is.accepted is.weights nums o.0 o.1 k kl in
      omega arith

  -- a loop that has to turn turns within the worst cycles
  pub turn_worst : (k : ℕ) → k < l.loops → 0 < l.least_trips k → n.turn k ≤ a.worst 0
  turn_worst k kl turning =
      let o = theory.call_order g is.program in
      let bound = few k kl in
      let one : 1 * n.turn k ≤ l.bound k * n.turn k = mul-le-mul_right (n.turn k) (omega arith) in
      let two : n.turn k * l.bound k ≤ a.iteration k * l.bound k = mul-le-mul_right (l.bound k) (turn_within k kl) in
      let p : n.turn k * l.bound k ≡ l.bound k * n.turn k = omega arith in
      let q : a.iteration k * l.bound k ≡ l.bound k * a.iteration k = omega arith in
      let r : 1 * n.turn k ≡ n.turn k = omega arith in
      let top : l.bound k * a.iteration k ≤ a.worst 0 = turns-worst g l extent w a is.program is.accepted is.weights nums o.0 o.1 k kl in
      omega arith
