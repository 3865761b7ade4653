-- The least cycles to an end are within the greatest cost of an edge, once for each edge and twice for each function.
use Rattle.std.proofs.Common.{◌≡◌, ℕ, zero, suc, ◌+◌, ◌*◌, ◌<◌, ◌≤◌, Bool, true, false, ⊎_elim, List, [], ◌∷◌, length, Option, Some, None, unwrap_or, refl, sym, ap, ◌∙◌, subst, arith, mul-le-mul_right}
use Rattle.std.proofs.lemmas.Map.Steps.{length-le_from_distinct_below}
use Rattle.cost_theory.specs.Graph.{Graph, Loops, total}
use Rattle.cost_theory.specs.Worst.{at_some}
use Rattle.cost_theory.specs.Accepted.{IsCallOrder}
use Rattle.cost_theory.specs.Least.{IsLeast, IsLeastIfAny, callee_value, least_call, WayToEnd, IsWay, way_cost, end_after}
use Rattle.cost_theory.specs.Least.WayToEnd.{Exits, Returns}
use Rattle.cost_theory.specs.LeastTurns.{IsRun}
use Rattle.cost_theory.proofs.Laws.{some_value, some_same}
use Rattle.cost_theory.proofs.Laws as theory
use Rattle.cycle_laws.specs.Charged.{Charged, charge_of, charged_cost, leads_on, ends_exit}
use Rattle.cycle_laws.specs.LeastLaws.{IsCharged, EndWithin}
use Rattle.cycle_laws.proofs.LeastRuns.{shorten, low}
use Rattle.cycle_laws.proofs.WalkKinds.{exit_kind, return_kind, exit_nowhere}

module _ (g : Graph) (l : Loops) (extent : ℕ → ℕ → Bool) (w : ℕ → ℕ) (n : Charged) (is : IsCharged g l extent w n) (most : ℕ) (weights : (e : ℕ) → e < g.edges → w e ≤ most)
    (steps : (e u : ℕ) → e < g.edges → g.target e ≡ Some u → charged_cost g l w n e ≤ most) where
  abbrev c : ℕ → ℕ
  c = charged_cost g l w n

  -- runs of a function whose last edges cost no more than that and some more
  sum-le : (last : ℕ → Bool) (f more : ℕ) → ((e : ℕ) → e < g.edges → g.owner (g.source e) ≡ f → last e ≡ true → c e ≤ most + more) →
      (es : List ℕ) (p : Option ℕ) → ((v : ℕ) → p ≡ Some v → g.owner v ≡ f) → IsRun g false last (leads_on g) p es → total c es ≤ length es * most + more
  sum-le last f more ends [] p owned run = let q : false ≡ true = run in let bad : ⊥ = cc in absurd bad
  sum-le last f more ends (e ∷ es) p owned run = ⊎_elim
      (λ (a : (last e ≡ true) × (es ≡ [])).
      let z : total c es ≡ 0 = ap (total c) a.1 in
      let le : c e ≤ most + more = ends e run.0 here a.0 in
      let q : suc (length es) * most ≡ most + length es * most = omega arith in
      let r : c e + total c es ≤ suc (length es) * most + more = omega arith in r)
      (λ (a : (leads_on g e ≡ true) × IsRun g false last (leads_on g) (g.target e) es).
      let u : (u : ℕ) × (g.target e ≡ Some u) = some_value (g.target e) a.0 in
      let le : c e ≤ most = steps e u.0 run.0 u.1 in
      let ih : total c es ≤ length es * most + more = sum-le last f more ends es (g.target e) (λ v to. (is.program.stays e v run.0 to).1 ∙ here) a.1 in
      let q : suc (length es) * most ≡ most + length es * most = omega arith in
      let r : c e + total c es ≤ suc (length es) * most + more = omega arith in r)
      run.2
    where
      here : g.owner (g.source e) ≡ f
      here = owned (g.source e) run.1

  least-le : (last : ℕ → Bool) (v x more : ℕ) → ((e : ℕ) → e < g.edges → g.owner (g.source e) ≡ g.owner v → last e ≡ true → c e ≤ most + more) →
      IsLeast (IsRun g false last (leads_on g) (Some v)) (total c) x → x ≤ g.edges * most + more
  least-le last v x more ends h =
      let r = shorten g last (leads_on g) c h.reached.0 (Some v) h.reached.1 in
      let short : length r.0 ≤ g.edges = length-le_from_distinct_below r.0 g.edges r.2 (low g last (leads_on g) c r.0 (Some v) r.1) in
      let sum : total c r.0 ≤ length r.0 * most + more = sum-le last (g.owner v) more ends r.0 (Some v) (λ u e. ap g.owner (sym (some_same _ _ e))) r.1 in
      let top : length r.0 * most ≤ g.edges * most = mul-le-mul_right most short in
      let le : x ≤ total c r.0 = h.least r.0 r.1 in
      omega arith

  nothing : (table : ℕ → Option ℕ) (e : ℕ) → g.callee e ≡ None → callee_value g table e ≡ 0
  nothing table e calls = ap (λ o. at_some o (λ h. unwrap_or (table (g.entry h)) 0)) calls

  to_return-le : (v r : ℕ) → n.least.to_return v ≡ Some r → r ≤ g.edges * most
  to_return-le v r there =
      let h : IsLeast (IsRun g false g.returns (leads_on g) (Some v)) (total c) r = subst (λ o. IsLeastIfAny (IsRun g false g.returns (leads_on g) (Some v)) (total c) o) there (is.numbers.to_return v) in
      let le : r ≤ g.edges * most + 0 = least-le g.returns v r 0 (λ e el own returns. ends e el returns) h in
      omega arith
    where
      ends : (e : ℕ) → e < g.edges → g.returns e ≡ true → c e ≤ most + 0
      ends e el returns =
          let end : (g.target e ≡ None) × (g.callee e ≡ None) = is.program.return_end e el returns in
          let x : least_call g n.least e (g.target e) ≡ 0 = ap (least_call g n.least e) end.0 ∙ nothing n.least.to_exit e end.1 in
          let free : charge_of g l n e ≡ 0 = (return_kind g l extent w n is).free e el returns in
          let le : w e ≤ most = weights e el in
          omega arith

  module _ (order : ℕ → ℕ) (falls : IsCallOrder g order) where
    to_exit-le : (m v z : ℕ) → order (g.owner v) < m → n.least.to_exit v ≡ Some z → z ≤ g.edges * most + order (g.owner v) * (g.edges * most)
    to_exit-le zero v z lt there = let bad : ⊥ = omega arith in absurd bad
    to_exit-le (suc m) v z lt there =
        let h : IsLeast (IsRun g false (ends_exit g n.least) (leads_on g) (Some v)) (total c) z = subst (λ o. IsLeastIfAny (IsRun g false (ends_exit g n.least) (leads_on g) (Some v)) (total c) o) there (is.numbers.to_exit v) in
        least-le (ends_exit g n.least) v z (order (g.owner v) * (g.edges * most)) (λ e el own last. ends (λ u y less is_y. to_exit-le m u y less is_y) e el own last) h
      where
        ends : ((u y : ℕ) → order (g.owner u) < m → n.least.to_exit u ≡ Some y → y ≤ g.edges * most + order (g.owner u) * (g.edges * most)) →
            (e : ℕ) → e < g.edges → g.owner (g.source e) ≡ g.owner v → ends_exit g n.least e ≡ true → c e ≤ most + order (g.owner v) * (g.edges * most)
        ends ih e el own last =
            let to : g.target e ≡ None = exit_nowhere g l extent w n is e el last in
            let x : least_call g n.least e (g.target e) ≡ callee_value g n.least.to_exit e = ap (least_call g n.least e) to in
            let free : charge_of g l n e ≡ 0 = (exit_kind g l extent w n is).free e el last in
            let le : w e ≤ most = weights e el in
            let inner : callee_value g n.least.to_exit e ≤ order (g.owner v) * (g.edges * most) = by_callee (g.callee e) refl in
            omega arith
          where
            value : (h : ℕ) → g.callee e ≡ Some h → (o : Option ℕ) → n.least.to_exit (g.entry h) ≡ o → unwrap_or o 0 ≤ order (g.owner v) * (g.edges * most)
            value h calls None there = omega arith
            value h calls (Some y) there =
                let hl : h < g.functions = is.program.callee_function e h el calls in
                let before : order h < order (g.owner v) = subst (λ i. order h < order i) own (falls.falls (g.source e) h (e, el, refl, calls)) in
                let same : order (g.owner (g.entry h)) ≡ order h = ap order (is.program.entry_owner h hl) in
                let le : y ≤ g.edges * most + order (g.owner (g.entry h)) * (g.edges * most) = ih (g.entry h) y (omega arith) there in
                let times : order (g.owner (g.entry h)) * (g.edges * most) ≡ order h * (g.edges * most) = ap (λ i. i * (g.edges * most)) same in
                let top : (order h + 1) * (g.edges * most) ≤ order (g.owner v) * (g.edges * most) = mul-le-mul_right (g.edges * most) (let r : order h + 1 ≤ order (g.owner v) = omega arith in r) in
                let q : (order h + 1) * (g.edges * most) ≡ order h * (g.edges * most) + g.edges * most = omega arith in
                omega arith

            by_callee : (o : Option ℕ) → g.callee e ≡ o → callee_value g n.least.to_exit e ≤ order (g.owner v) * (g.edges * most)
            by_callee None calls = let z : callee_value g n.least.to_exit e ≡ 0 = nothing n.least.to_exit e calls in omega arith
            by_callee (Some h) calls =
                let q : callee_value g n.least.to_exit e ≡ unwrap_or (n.least.to_exit (g.entry h)) 0 = ap (λ o. at_some o (λ h. unwrap_or (n.least.to_exit (g.entry h)) 0)) calls in
                let le : unwrap_or (n.least.to_exit (g.entry h)) 0 ≤ order (g.owner v) * (g.edges * most) = value h calls (n.least.to_exit (g.entry h)) refl in
                omega arith

    -- a node from which a run starts is one of a function
    in_function : (last : ℕ → Bool) (v : ℕ) (es : List ℕ) → IsRun g false last (leads_on g) (Some v) es → g.owner v < g.functions
    in_function last v [] run = let q : false ≡ true = run in let bad : ⊥ = cc in absurd bad
    in_function last v (e ∷ es) run = subst (λ u. g.owner u < g.functions) (sym (some_same _ _ run.1)) (is.program.owner_function e run.0)

    exit_top : (v z : ℕ) → n.least.to_exit v ≡ Some z → z ≤ g.functions * (g.edges * most)
    exit_top v z there =
        let h : IsLeast (IsRun g false (ends_exit g n.least) (leads_on g) (Some v)) (total c) z = subst (λ o. IsLeastIfAny (IsRun g false (ends_exit g n.least) (leads_on g) (Some v)) (total c) o) there (is.numbers.to_exit v) in
        let fl : g.owner v < g.functions = in_function (ends_exit g n.least) v h.reached.0 h.reached.1 in
        let lt : order (g.owner v) < g.functions = falls.below (g.owner v) fl in
        let le : z ≤ g.edges * most + order (g.owner v) * (g.edges * most) = to_exit-le (suc (order (g.owner v))) v z (omega arith) there in
        let top : (order (g.owner v) + 1) * (g.edges * most) ≤ g.functions * (g.edges * most) = mul-le-mul_right (g.edges * most) (let r : order (g.owner v) + 1 ≤ g.functions = omega arith in r) in
        let q : (order (g.owner v) + 1) * (g.edges * most) ≡ order (g.owner v) * (g.edges * most) + g.edges * most = omega arith in
        omega arith

    by_way : (v z m : ℕ) → g.functions ≤ order (g.owner v) + m →
        ((k u y : ℕ) → m ≡ suc k → g.functions ≤ order (g.owner u) + k → n.least.to_end u ≡ Some y → y ≤ g.functions * (g.edges * most) + k * (g.edges * most)) →
        (way : WayToEnd) → IsWay g n.least v way → way_cost g n.least v way ≡ z → z ≤ g.functions * (g.edges * most) + m * (g.edges * most)
    by_way v z m low inner Exits is_way value =
        let y : (y : ℕ) × (n.least.to_exit v ≡ Some y) = some_value (n.least.to_exit v) is_way in
        let q : unwrap_or (n.least.to_exit v) 0 ≡ y.0 = ap (λ o. unwrap_or o 0) y.1 in
        let le : y.0 ≤ g.functions * (g.edges * most) = exit_top v y.0 y.1 in
        let sum : unwrap_or (n.least.to_exit v) 0 ≡ z = value in
        omega arith
    by_way v z zero low inner (Returns e) is_way value =
        let fl : order (g.owner v) < g.functions = falls.below (g.owner v) (is.program.callee_function e (g.owner v) is_way.1.0 is_way.1.1) in
        let bad : ⊥ = omega arith in absurd bad
    by_way v z (suc m) low inner (Returns e) is_way value =
        let u : ℕ = is_way.1.2.0 in
        let to : g.target e ≡ Some u = is_way.1.2.1 in
        let r : (r : ℕ) × (n.least.to_return v ≡ Some r) = some_value (n.least.to_return v) is_way.0 in
        let y : (y : ℕ) × (n.least.to_end u ≡ Some y) = some_value (n.least.to_end u) is_way.1.2.2 in
        let above : order (g.owner v) < order (g.owner (g.source e)) = falls.falls (g.source e) (g.owner v) (e, is_way.1.0, refl, is_way.1.1) in
        let same : order (g.owner u) ≡ order (g.owner (g.source e)) = ap order (is.program.stays e u is_way.1.0 to).1 in
        let le : y.0 ≤ g.functions * (g.edges * most) + m * (g.edges * most) = inner m u y.0 refl (omega arith) y.1 in
        let back : r.0 ≤ g.edges * most = to_return-le v r.0 r.1 in
        let q1 : unwrap_or (n.least.to_return v) 0 ≡ r.0 = ap (λ o. unwrap_or o 0) r.1 in
        let q2 : end_after g n.least e ≡ y.0 = ap (λ o. at_some o (λ u. unwrap_or (n.least.to_end u) 0)) to ∙ ap (λ o. unwrap_or o 0) y.1 in
        let sum : unwrap_or (n.least.to_return v) 0 + end_after g n.least e ≡ z = value in
        let q3 : suc m * (g.edges * most) ≡ g.edges * most + m * (g.edges * most) = omega arith in
        omega arith

    to_end-le : (m v z : ℕ) → g.functions ≤ order (g.owner v) + m → n.least.to_end v ≡ Some z → z ≤ g.functions * (g.edges * most) + m * (g.edges * most)
    to_end-le zero v z low there =
        let h : IsLeast (IsWay g n.least v) (way_cost g n.least v) z = subst (λ o. IsLeastIfAny (IsWay g n.least v) (way_cost g n.least v) o) there (is.numbers.to_end v) in
        by_way v z zero low (λ k u y e. (let bad : ⊥ = omega arith in absurd bad)) h.reached.0 h.reached.1 h.reached.2
    to_end-le (suc m) v z low there =
        let h : IsLeast (IsWay g n.least v) (way_cost g n.least v) z = subst (λ o. IsLeastIfAny (IsWay g n.least v) (way_cost g n.least v) o) there (is.numbers.to_end v) in
        by_way v z (suc m) low (λ k u y e. let same : m ≡ k = omega arith in subst (λ i. g.functions ≤ order (g.owner u) + i → n.least.to_end u ≡ Some y → y ≤ g.functions * (g.edges * most) + i * (g.edges * most)) same (to_end-le m u y))
        h.reached.0 h.reached.1 h.reached.2

pub end_within : EndWithin
end_within g l extent w n is most weights steps v z there =
    let o = theory.call_order g is.program in
    to_end-le g l extent w n is most weights steps o.0 o.1 g.functions v z (let r : g.functions ≤ o.0 (g.owner v) + g.functions = omega arith in r) there
