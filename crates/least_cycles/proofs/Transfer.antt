-- Least costs by number are least costs in the graph; and the least way to the end of a run.
use Rattle.std.proofs.Common.{◌≡◌, ℕ, ◌+◌, ◌<◌, ◌≤◌, Bool, true, false, cond, ◌⊎◌, inl, inr, nat_le, List, [], ◌∷◌, length, slice_get, Option, Some, None, is_some, unwrap_or, refl, sym, ap, ◌∙◌, subst, arith, ⊎_elim}
use Rattle.std.proofs.lemmas.Bool.Decides.{nat_tests}
use Rattle.cost_theory.specs.Graph.{Graph, total}
use Rattle.cost_theory.specs.Least.{IsLeastIfAny, EndsWith, Least, IsReturnTo, end_after, WayToEnd as EndWay, IsWay, way_cost}
use Rattle.cost_theory.specs.LeastTurns.{IsRun}
use Rattle.cost_theory.specs.Least.WayToEnd.{Exits, Returns}
use Rattle.least_cycles.specs.declared.Hop.{Hop}
use Rattle.least_cycles.specs.declared.Way.{Way}
use Rattle.least_cycles.specs.declared.Way.TheVariants.{Last, To, Stop}
use Rattle.least_cycles.specs.Hops.{way_place, is_last, hop_tail, head_of, last_of, hop_cost, hop_graph, IsLastHop, costs, IsWalkFrom}
use Rattle.least_cycles.specs.Local.{IsWayOf, IsHopOf, AreLocal, lesser_cost, sum_of_both}
use Rattle.least_cycles.proofs.Relaxing.{some-below}

none_some : (o : Option ℕ) → o ≡ None → is_some o ≡ true → ⊥
none_some None is h = let bad : ⊥ = cc in bad
none_some (Some x) is h = let bad : ⊥ = cc in bad

some_eq : (a b : ℕ) → Some a ≡ Some b → a ≡ b
some_eq a b e = let r : a ≡ b = cc in r

module _ (g : Graph) (last step : ℕ → Bool) (c : ℕ → ℕ) (nodes edges : List ℕ) (hops : List Hop) (local : AreLocal g last step c nodes edges hops) where
  abbrev Run : Option ℕ → List ℕ → Type 0
  Run p es = IsRun g false last step p es

  clash : (b : Bool) → b ≡ false → b ≡ true → ⊥
  clash b no_way yes_way = let bad : ⊥ = cc in bad

  nowhere : (es : List ℕ) → Run None es → ⊥
  nowhere [] run = let q : false ≡ true = run in let bad : ⊥ = cc in bad
  nowhere (x ∷ xs) run = let q : None ≡ Some (g.source x) = run.1 in let bad : ⊥ = cc in bad

  -- a run in the graph, by hops
  down : (es : List ℕ) (v i : ℕ) → slice_get nodes i ≡ Some v → Run (Some v) es → (xs : List ℕ) × IsWalkFrom hops i xs × (total (costs hops) xs ≡ total c es)
  down [] v i at run = let q : false ≡ true = run in let bad : ⊥ = cc in absurd bad
  down (e ∷ es) v i at run = by_way hop.0.way refl run.2 (λ u j to. down es u j to)
    where
      v_source : v ≡ g.source e
      v_source = some_eq _ _ run.1

      place : (k : ℕ) × (slice_get edges k ≡ Some e)
      place = local.all e i run.0 (at ∙ ap (λ x. Some x) v_source)

      hop : (h : Hop) × (slice_get hops place.0 ≡ Some h) × IsHopOf g last step c nodes h e
      hop = local.hop place.0 e place.1

      below : place.0 < length hops
      below = some-below hops place.0 hop.0 hop.1

      here : i ≡ hop.0.tail
      here = local.once i hop.0.tail v at (hop.2.tail ∙ ap (λ x. Some x) (sym v_source))

      from : Some i ≡ Some (hop_tail (slice_get hops place.0))
      from = ap (λ x. Some x) here ∙ ap (λ o. Some (hop_tail o)) (sym hop.1)

      price : hop_cost (slice_get hops place.0) ≡ c e
      price = ap hop_cost hop.1 ∙ hop.2.cost

      way_is : (w : Way) → hop.0.way ≡ w → IsWayOf g last step nodes w e
      way_is w is = subst (λ x. IsWayOf g last step nodes x e) is hop.2.way

      by_way : (w : Way) → hop.0.way ≡ w → ((last e ≡ true) × (es ≡ [])) ⊎ ((step e ≡ true) × Run (g.target e) es)
          → ((u j : ℕ) → slice_get nodes j ≡ Some u → Run (Some u) es → (xs : List ℕ) × IsWalkFrom hops j xs × (total (costs hops) xs ≡ total c es))
          → (xs : List ℕ) × IsWalkFrom hops i xs × (total (costs hops) xs ≡ c e + total c es)
      by_way Last is (inl b) ih =
          let ends : last_of (slice_get hops place.0) ≡ true = ap last_of hop.1 ∙ ap is_last is in
          let none : total c es ≡ 0 = ap (total c) b.1 in
          (place.0 ∷ [], (below, from, inl (refl, ends)), (let t : hop_cost (slice_get hops place.0) + 0 ≡ c e + total c es = omega (arith, price) in t))
      by_way Last is (inr b) ih = let w : (last e ≡ true) × (step e ≡ false) = way_is Last is in absurd (clash (step e) w.1 b.0)
      by_way (To j) is (inl b) ih = let w : (last e ≡ false) × (step e ≡ true) × ((u : ℕ) × (g.target e ≡ Some u) × (slice_get nodes j ≡ Some u)) = way_is (To j) is in absurd (clash (last e) w.0 b.0)
      by_way (To j) is (inr b) ih =
          let w : (last e ≡ false) × (step e ≡ true) × ((u : ℕ) × (g.target e ≡ Some u) × (slice_get nodes j ≡ Some u)) = way_is (To j) is in
          let behind : (xs : List ℕ) × IsWalkFrom hops j xs × (total (costs hops) xs ≡ total c es) = ih w.2.0 j w.2.2 (subst (λ o. Run o es) w.2.1 b.1) in
          let to : head_of (slice_get hops place.0) ≡ Some j = ap head_of hop.1 ∙ ap way_place is in
          let rest : EndsWith (hop_graph hops) (IsLastHop hops) (head_of (slice_get hops place.0)) behind.0 = subst (λ o. EndsWith (hop_graph hops) (IsLastHop hops) o behind.0) (sym to) behind.1 in
          let same : total (costs hops) behind.0 ≡ total c es = behind.2 in
          (place.0 ∷ behind.0, (below, from, inr (ap is_some to, rest)), (let t : hop_cost (slice_get hops place.0) + total (costs hops) behind.0 ≡ c e + total c es = omega (arith, price) in t))
      by_way Stop is (inl b) ih = let w : (last e ≡ false) × ((step e ≡ false) ⊎ (g.target e ≡ None)) = way_is Stop is in absurd (clash (last e) w.0 b.0)
      by_way Stop is (inr b) ih =
          let w : (last e ≡ false) × ((step e ≡ false) ⊎ (g.target e ≡ None)) = way_is Stop is in
          absurd (⊎_elim (λ stays. clash (step e) stays b.0) (λ none. nowhere es (subst (λ o. Run o es) none b.1)) w.1)

  -- and back
  up : (xs : List ℕ) (v i : ℕ) → slice_get nodes i ≡ Some v → IsWalkFrom hops i xs → (es : List ℕ) × Run (Some v) es × (total c es ≡ total (costs hops) xs)
  up [] v i at walk = absurd walk
  up (x ∷ xs) v i at walk = by_way hop.0.way refl walk.2 (λ u j to w. up xs u j to w)
    where
      edge : (e : ℕ) × (slice_get edges x ≡ Some e)
      edge = local.no_more x walk.0

      hop : (h : Hop) × (slice_get hops x ≡ Some h) × IsHopOf g last step c nodes h edge.0
      hop = local.hop x edge.0 edge.1

      tail : i ≡ hop.0.tail
      tail = some_eq _ _ walk.1 ∙ ap hop_tail hop.1

      from : Some v ≡ Some (g.source edge.0)
      from = sym at ∙ ap (slice_get nodes) tail ∙ hop.2.tail

      price : hop_cost (slice_get hops x) ≡ c edge.0
      price = ap hop_cost hop.1 ∙ hop.2.cost

      below : edge.0 < g.edges
      below = local.edge x edge.0 edge.1

      way_is : (w : Way) → hop.0.way ≡ w → IsWayOf g last step nodes w edge.0
      way_is w is = subst (λ y. IsWayOf g last step nodes y edge.0) is hop.2.way

      by_way : (w : Way) → hop.0.way ≡ w → ((xs ≡ []) × (last_of (slice_get hops x) ≡ true)) ⊎ ((is_some (head_of (slice_get hops x)) ≡ true) × EndsWith (hop_graph hops) (IsLastHop hops) (head_of (slice_get hops x)) xs)
          → ((u j : ℕ) → slice_get nodes j ≡ Some u → IsWalkFrom hops j xs → (es : List ℕ) × Run (Some u) es × (total c es ≡ total (costs hops) xs))
          → (es : List ℕ) × Run (Some v) es × (total c es ≡ hop_cost (slice_get hops x) + total (costs hops) xs)
      by_way Last is (inl b) ih =
          let w : (last edge.0 ≡ true) × (step edge.0 ≡ false) = way_is Last is in
          let none : total (costs hops) xs ≡ 0 = ap (total (costs hops)) b.0 in
          (edge.0 ∷ [], (below, from, inl (w.0, refl)), (let t : c edge.0 + 0 ≡ hop_cost (slice_get hops x) + total (costs hops) xs = omega (arith, price) in t))
      by_way Last is (inr b) ih =
          let h : head_of (slice_get hops x) ≡ None = ap head_of hop.1 ∙ ap way_place is in
          absurd (none_some _ h b.0)
      by_way (To j) is (inl b) ih =
          let l : last_of (slice_get hops x) ≡ false = ap last_of hop.1 ∙ ap is_last is in
          let s : true ≡ false = sym b.1 ∙ l in let bad : ⊥ = cc in absurd bad
      by_way (To j) is (inr b) ih =
          let w : (last edge.0 ≡ false) × (step edge.0 ≡ true) × ((u : ℕ) × (g.target edge.0 ≡ Some u) × (slice_get nodes j ≡ Some u)) = way_is (To j) is in
          let to : head_of (slice_get hops x) ≡ Some j = ap head_of hop.1 ∙ ap way_place is in
          let behind : (es : List ℕ) × Run (Some w.2.0) es × (total c es ≡ total (costs hops) xs) = ih w.2.0 j w.2.2 (subst (λ o. EndsWith (hop_graph hops) (IsLastHop hops) o xs) to b.1) in
          let rest : Run (g.target edge.0) behind.0 = subst (λ o. Run o behind.0) (sym w.2.1) behind.1 in
          let same : total c behind.0 ≡ total (costs hops) xs = behind.2 in
          (edge.0 ∷ behind.0, (below, from, inr (w.1, rest)), (let t : c edge.0 + total c behind.0 ≡ hop_cost (slice_get hops x) + total (costs hops) xs = omega (arith, price) in t))
      by_way Stop is (inl b) ih =
          let l : last_of (slice_get hops x) ≡ false = ap last_of hop.1 ∙ ap is_last is in
          let s : true ≡ false = sym b.1 ∙ l in let bad : ⊥ = cc in absurd bad
      by_way Stop is (inr b) ih =
          let h : head_of (slice_get hops x) ≡ None = ap head_of hop.1 ∙ ap way_place is in
          absurd (none_some _ h b.0)

  -- the least by hops is the least in the graph
  pub local-least : (v i : ℕ) (o : Option ℕ) → slice_get nodes i ≡ Some v → IsLeastIfAny (IsWalkFrom hops i) (total (costs hops)) o → IsLeastIfAny (IsRun g false last step (Some v)) (total c) o
  local-least v i None at least = λ es run. (let d : (xs : List ℕ) × IsWalkFrom hops i xs × (total (costs hops) xs ≡ total c es) = down es v i at run in least d.0 d.1)
  local-least v i (Some m) at least =
      let u : (es : List ℕ) × Run (Some v) es × (total c es ≡ total (costs hops) least.reached.0) = up least.reached.0 v i at least.reached.1 in
      record {
        reached = (u.0, u.1, u.2 ∙ least.reached.2);
        least = λ es run. (let d : (xs : List ℕ) × IsWalkFrom hops i xs × (total (costs hops) xs ≡ total c es) = down es v i at run in
            let le : m ≤ total (costs hops) d.0 = least.least d.0 d.1 in
            let same : total (costs hops) d.0 ≡ total c es = d.2 in
            let r : m ≤ total c es = omega arith in r);
      }

-- the least of two kinds of things
module _ {A : Type 0} (P Q R : A → Type 0) (value : A → ℕ) (pr : (a : A) → P a → R a) (qr : (a : A) → Q a → R a) (rpq : (a : A) → R a → P a ⊎ Q a) where
  pub least-lesser : (p q : Option ℕ) → IsLeastIfAny P value p → IsLeastIfAny Q value q → IsLeastIfAny R value (lesser_cost p q)
  least-lesser None None lp lq = λ a r. ⊎_elim (λ h. lp a h) (λ h. lq a h) (rpq a r)
  least-lesser None (Some y) lp lq = record {
    reached = (lq.reached.0, qr lq.reached.0 lq.reached.1, lq.reached.2);
    least = λ a r. ⊎_elim (λ h. absurd (lp a h)) (λ h. lq.least a h) (rpq a r);
  }
  least-lesser (Some x) None lp lq = record {
    reached = (lp.reached.0, pr lp.reached.0 lp.reached.1, lp.reached.2);
    least = λ a r. ⊎_elim (λ h. lp.least a h) (λ h. absurd (lq a h)) (rpq a r);
  }
  least-lesser (Some x) (Some y) lp lq = by_test (nat_le x y) refl
    where
      le-true : (x y : ℕ) → nat_le x y ≡ true → x ≤ y
      le-true x y h = grind (arith, nat_tests)

      le-false : (x y : ℕ) → nat_le x y ≡ false → y ≤ x
      le-false x y h = grind (arith, nat_tests)

      by_test : (b : Bool) → nat_le x y ≡ b → IsLeastIfAny R value (cond b (Some x) (Some y))
      by_test true is = record {
        reached = (lp.reached.0, pr lp.reached.0 lp.reached.1, lp.reached.2);
        least = λ a r. ⊎_elim (λ h. lp.least a h) (λ h. (let le : y ≤ value a = lq.least a h in let xy : x ≤ y = le-true x y is in let r : x ≤ value a = omega arith in r)) (rpq a r);
      }
      by_test false is = record {
        reached = (lq.reached.0, qr lq.reached.0 lq.reached.1, lq.reached.2);
        least = λ a r. ⊎_elim (λ h. (let le : x ≤ value a = lp.least a h in let yx : y ≤ x = le-false x y is in let r : y ≤ value a = omega arith in r)) (λ h. lq.least a h) (rpq a r);
      }

abbrev pub IsExitWay : Graph → Least → ℕ → EndWay → Type 0
IsExitWay g n v Exits = is_some (n.to_exit v) ≡ true
IsExitWay g n v (Returns e) = ⊥

abbrev pub IsReturnWay : Graph → Least → ℕ → EndWay → Type 0
IsReturnWay g n v Exits = ⊥
IsReturnWay g n v (Returns e) = (is_some (n.to_return v) ≡ true) × IsReturnTo g n v e

exit-least : (g : Graph) (n : Least) (v : ℕ) (x : Option ℕ) → n.to_exit v ≡ x → IsLeastIfAny (IsExitWay g n v) (way_cost g n v) x
exit-least g n v None is = none
  where
    none : (way : EndWay) → IsExitWay g n v way → ⊥
    none Exits h = none_some _ is h
    none (Returns e) h = h
exit-least g n v (Some x) is = record { reached = (Exits, ap is_some is, same); least = least }
  where
    same : unwrap_or (n.to_exit v) 0 ≡ x
    same = ap (λ (o : Option ℕ). unwrap_or o 0) is

    least : (way : EndWay) → IsExitWay g n v way → x ≤ way_cost g n v way
    least Exits h = omega (arith, same)
    least (Returns e) h = absurd h

return-least : (g : Graph) (n : Least) (v : ℕ) (r a : Option ℕ) → n.to_return v ≡ r → IsLeastIfAny (IsReturnTo g n v) (end_after g n) a → IsLeastIfAny (IsReturnWay g n v) (way_cost g n v) (sum_of_both r a)
return-least g n v None a is least = none
  where
    none : (way : EndWay) → IsReturnWay g n v way → ⊥
    none Exits h = h
    none (Returns e) h = none_some _ is h.0
return-least g n v (Some r) None is least = none
  where
    none : (way : EndWay) → IsReturnWay g n v way → ⊥
    none Exits h = h
    none (Returns e) h = least e h.1
return-least g n v (Some r) (Some m) is least = record {
  reached = (Returns least.reached.0, (ap is_some is, least.reached.1), (let e : end_after g n least.reached.0 ≡ m = least.reached.2 in let t : unwrap_or (n.to_return v) 0 + end_after g n least.reached.0 ≡ r + m = omega (arith, same) in t));
  least = at_least;
}
  where
    same : unwrap_or (n.to_return v) 0 ≡ r
    same = ap (λ (o : Option ℕ). unwrap_or o 0) is

    at_least : (way : EndWay) → IsReturnWay g n v way → r + m ≤ way_cost g n v way
    at_least Exits h = absurd h
    at_least (Returns e) h = let le : m ≤ end_after g n e = least.least e h.1 in omega (arith, same)

-- Z of a node, from the least Z behind the calls of its function that come back
pub end-least : (g : Graph) (n : Least) (v : ℕ) (behind : Option ℕ) → IsLeastIfAny (IsReturnTo g n v) (end_after g n) behind
    → n.to_end v ≡ lesser_cost (n.to_exit v) (sum_of_both (n.to_return v) behind) → IsLeastIfAny (IsWay g n v) (way_cost g n v) (n.to_end v)
end-least g n v behind least is = subst (λ o. IsLeastIfAny (IsWay g n v) (way_cost g n v) o) (sym is)
    (least-lesser (IsExitWay g n v) (IsReturnWay g n v) (IsWay g n v) (way_cost g n v) exits returns either (n.to_exit v) (sum_of_both (n.to_return v) behind)
    (exit-least g n v (n.to_exit v) refl) (return-least g n v (n.to_return v) behind refl least))
  where
    exits : (way : EndWay) → IsExitWay g n v way → IsWay g n v way
    exits Exits h = h
    exits (Returns e) h = absurd h

    returns : (way : EndWay) → IsReturnWay g n v way → IsWay g n v way
    returns Exits h = absurd h
    returns (Returns e) h = h

    either : (way : EndWay) → IsWay g n v way → IsExitWay g n v way ⊎ IsReturnWay g n v way
    either Exits h = inl h
    either (Returns e) h = inr h
