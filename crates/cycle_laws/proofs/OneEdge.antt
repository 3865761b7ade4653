-- The least cycles over the edges of one node, and what an edge is charged.
use Rattle.std.proofs.Common.{◌≡◌, ℕ, ◌+◌, ◌<◌, ◌≤◌, Bool, true, false, not, ◌&&◌, nat_lt, inl, inr, ⊎_elim, List, [], ◌∷◌, Option, Some, None, refl, sym, ap, ◌∙◌, subst, arith, eq-eqb}
use Rattle.cost_theory.specs.Graph.{Graph, total, is_round, is_header, is_back, enters}
use Rattle.cost_theory.specs.Least.{IsLeastIfAny, IsUpTo}
use Rattle.cost_theory.specs.LeastTurns.{IsRun, turn_step, turn_last}
use Rattle.cost_theory.proofs.Laws.{and_both, some_same, entered-header, no_numbers, charge_none, charge_one, least_up_to, least_reached}
use Rattle.cycle_laws.specs.Charged.{charged_trips, charged_cost, leads_on, ends_exit}
use Rattle.cycle_laws.specs.LeastLaws.{IsOverEdge, IsLeastOver, ReturnOver, ExitOver, LeastClosingOver, StableIsLeast, LeastChargedOn, LeastChargedBack, LeastChargedInto}
use Rattle.cycle_laws.proofs.WalkKinds.{trips, price, nest, turn_kind}

module _ (g : Graph) (last step : ℕ → Bool) (c : ℕ → ℕ) (t : ℕ → Option ℕ) where
  nowhere : (xs : List ℕ) → IsRun g false last step None xs → ⊥
  nowhere [] r = let q : false ≡ true = r in let bad : ⊥ = cc in bad
  nowhere (x ∷ xs) r = let q : None ≡ Some (g.source x) = r.1 in let bad : ⊥ = cc in bad

  -- ---- the numbers over one edge
  module _ (least : (v : ℕ) → IsLeastIfAny (IsRun g false last step (Some v)) (total c) (t v)) where
    over_up : (e b : ℕ) → e < g.edges → IsOverEdge g last step c t e b → IsUpTo (t (g.source e)) b
    over_up e b el over = ⊎_elim
        (λ (a : (last e ≡ true) × (b ≡ c e)).
        let up : IsUpTo (t (g.source e)) (c e + 0) = least_up_to (IsRun g false last step (Some (g.source e))) (total c) (t (g.source e)) (least (g.source e)) (e ∷ []) (el, refl, inl (a.0, refl)) in
        let le : up.0 ≤ c e + 0 = up.2 in
        let eq : b ≡ c e = a.1 in
        (up.0, up.1, omega arith))
        (λ (a : (step e ≡ true) × ((u : ℕ) × (more : ℕ) × (g.target e ≡ Some u) × (t u ≡ Some more) × (b ≡ c e + more))).
        let p : (es : List ℕ) × IsRun g false last step (Some a.1.0) es × (total c es ≤ a.1.1) = least_reached (IsRun g false last step (Some a.1.0)) (total c) (t a.1.0) a.1.1 (least a.1.0) (a.1.1, a.1.3, (let q : a.1.1 ≤ a.1.1 = omega arith in q)) in
        let up : IsUpTo (t (g.source e)) (c e + total c p.0) = least_up_to (IsRun g false last step (Some (g.source e))) (total c) (t (g.source e)) (least (g.source e)) (e ∷ p.0)
        (el, refl, inr (a.0, subst (λ o. IsRun g false last step o p.0) (sym a.1.2) p.1)) in
        let le : up.0 ≤ c e + total c p.0 = up.2 in
        let pl : total c p.0 ≤ a.1.1 = p.2 in
        let eq : b ≡ c e + a.1.1 = a.1.4 in
        (up.0, up.1, omega arith))
        over

    pub least_over : (v : ℕ) → IsLeastOver g last step c t v
    least_over v = record {
      absent = λ none e b el from over.
          let up = over_up e b el over in
          let clash : None ≡ Some up.0 = sym (ap t from ∙ none) ∙ up.1 in
          let bad : ⊥ = cc in bad;
      attained = λ m is. attained m is (subst (λ o. IsLeastIfAny (IsRun g false last step (Some v)) (total c) o) is (least v));
      least = λ m is e b el from over.
          let up = over_up e b el over in
          let same : m ≡ up.0 = some_same _ _ (sym is ∙ (ap t (sym from) ∙ up.1)) in
          let le : up.0 ≤ b = up.2 in
          omega arith;
    }
      where
        by_target : (e : ℕ) (es : List ℕ) (m : ℕ) → e < g.edges → g.source e ≡ v → step e ≡ true → (o : Option ℕ) → g.target e ≡ o → IsRun g false last step o es → c e + total c es ≡ m →
            t v ≡ Some m → (e : ℕ) × (e < g.edges) × (g.source e ≡ v) × IsOverEdge g last step c t e m
        by_target e es m el from st None to run sum is = absurd (nowhere es run)
        by_target e es m el from st (Some u) to run sum is =
            let up : IsUpTo (t u) (total c es) = least_up_to (IsRun g false last step (Some u)) (total c) (t u) (least u) es run in
            let back : IsUpTo (t (g.source e)) (c e + up.0) = over_up e (c e + up.0) el (inr (st, (u, up.0, to, up.1, refl))) in
            let same : m ≡ back.0 = some_same _ _ (sym is ∙ (ap t (sym from) ∙ back.1)) in
            let le : up.0 ≤ total c es = up.2 in
            let less : back.0 ≤ c e + up.0 = back.2 in
            let eq : m ≡ c e + up.0 = omega arith in
            (e, el, from, inr (st, (u, up.0, to, up.1, eq)))

        attained : (m : ℕ) → t v ≡ Some m → IsLeastIfAny (IsRun g false last step (Some v)) (total c) (Some m) → (e : ℕ) × (e < g.edges) × (g.source e ≡ v) × IsOverEdge g last step c t e m
        attained m is h = by_run h.reached.0 h.reached.1 h.reached.2
          where
            by_run : (es : List ℕ) → IsRun g false last step (Some v) es → total c es ≡ m → (e : ℕ) × (e < g.edges) × (g.source e ≡ v) × IsOverEdge g last step c t e m
            by_run [] run sum = let q : false ≡ true = run in let bad : ⊥ = cc in absurd bad
            by_run (e ∷ es) run sum = ⊎_elim
                (λ (a : (last e ≡ true) × (es ≡ [])).
                let none : total c es ≡ 0 = ap (total c) a.1 in
                let s : c e + total c es ≡ m = sum in
                let eq : m ≡ c e = omega arith in
                (e, run.0, sym (some_same _ _ run.1), inl (a.0, eq)))
                (λ (a : (step e ≡ true) × IsRun g false last step (g.target e) es). by_target e es m run.0 (sym (some_same _ _ run.1)) a.0 (g.target e) refl a.1 sum is)
                run.2

  -- ---- and the other way round
  module _ (reached : (v x : ℕ) → t v ≡ Some x → (es : List ℕ) × IsRun g false last step (Some v) es × (total c es ≡ x)) (stable : (e b : ℕ) → e < g.edges → IsOverEdge g last step c t e b → IsUpTo (t (g.source e)) b) where
    up_to : (es : List ℕ) (v : ℕ) → IsRun g false last step (Some v) es → IsUpTo (t v) (total c es)
    up_to [] v run = let q : false ≡ true = run in let bad : ⊥ = cc in absurd bad
    up_to (e ∷ es) v run = ⊎_elim
        (λ (a : (last e ≡ true) × (es ≡ [])).
        let up : IsUpTo (t (g.source e)) (c e) = stable e (c e) run.0 (inl (a.0, refl)) in
        let le : up.0 ≤ c e = up.2 in
        (up.0, ap t (some_same _ _ run.1) ∙ up.1, omega arith))
        (λ (a : (step e ≡ true) × IsRun g false last step (g.target e) es). by_target (g.target e) refl a.0 a.1 (λ u more. up_to es u more))
        run.2
      where
        by_target : (o : Option ℕ) → g.target e ≡ o → step e ≡ true → IsRun g false last step (g.target e) es → ((u : ℕ) → IsRun g false last step (Some u) es → IsUpTo (t u) (total c es)) → IsUpTo (t v) (c e + total c es)
        by_target None to st more ih = absurd (nowhere es (subst (λ o. IsRun g false last step o es) to more))
        by_target (Some u) to st more ih =
            let rest : IsUpTo (t u) (total c es) = ih u (subst (λ o. IsRun g false last step o es) to more) in
            let up : IsUpTo (t (g.source e)) (c e + rest.0) = stable e (c e + rest.0) run.0 (inr (st, (u, rest.0, to, rest.1, refl))) in
            let le : rest.0 ≤ total c es = rest.2 in
            let more : up.0 ≤ c e + rest.0 = up.2 in
            (up.0, ap t (some_same _ _ run.1) ∙ up.1, omega arith)

    pub stable_is : (v : ℕ) → IsLeastIfAny (IsRun g false last step (Some v)) (total c) (t v)
    stable_is v = go (t v) refl
      where
        go : (o : Option ℕ) → t v ≡ o → IsLeastIfAny (IsRun g false last step (Some v)) (total c) o
        go None is = λ es run. (let up = up_to es v run in let clash : None ≡ Some up.0 = sym is ∙ up.1 in let bad : ⊥ = cc in bad)
        go (Some x) is = record {
          reached = reached v x is;
          least = λ es run. (let up = up_to es v run in let same : x ≡ up.0 = some_same _ _ (sym is ∙ up.1) in let le : up.0 ≤ total c es = up.2 in omega arith);
        }

pub stable_least : StableIsLeast
stable_least g last step c t reached stable v = stable_is g last step c t reached stable v

pub return_over : ReturnOver
return_over g l w n are v = least_over g g.returns (leads_on g) (charged_cost g l w n) n.least.to_return are.to_return v

pub exit_over : ExitOver
exit_over g l w n are v = least_over g (ends_exit g n.least) (leads_on g) (charged_cost g l w n) n.least.to_exit are.to_exit v

pub closing_over : LeastClosingOver
closing_over g l w n are k v kl = least_over g (turn_last g l k) (turn_step g l k) (charged_cost g l w n) (n.closing k) (λ u. are.closing k u kl) v

-- ---- charges

pub charged_on : LeastChargedOn
charged_on g l extent w n is e el away = charge_none g l (price g l extent w n is) (trips g l extent w n is) n.turn (nest g l extent w n is) e (λ j jl. each j jl (enters l j (g.source e) (g.target e)) refl)
  where
    each : (j : ℕ) → j < l.loops → (b : Bool) → enters l j (g.source e) (g.target e) ≡ b → (enters l j (g.source e) (g.target e) && nat_lt 0 (charged_trips g l n.least j)) ≡ false
    each j jl false h = ap (λ b. b && nat_lt 0 (charged_trips g l n.least j)) h
    each j jl true h = absurd (away j jl (entered-header g l (price g l extent w n is) no_numbers (nest g l extent w n is) e j el jl h))

pub charged_back : LeastChargedBack
charged_back g l extent w n is e k el kl back = (turn_kind g l extent w n is k kl).free e el back

pub charged_into : LeastChargedInto
charged_into g l extent w n is e k el kl to no_back = charge_one g l (price g l extent w n is) (trips g l extent w n is) n.turn (nest g l extent w n is) e k el kl
    (and_both (not (l.inside k (g.source e))) (is_round l k (g.target e)) (ap not out) (subst (λ o. is_round l k o ≡ true) (sym to) ((nest g l extent w n is).ways.holds_header k kl)))
  where
    at : is_header l k (g.target e) ≡ true
    at = subst (λ o. is_header l k o ≡ true) (sym to) (eq-eqb (l.header k) (l.header k) refl)

    out : l.inside k (g.source e) ≡ false
    out = go (l.inside k (g.source e)) refl
      where
        go : (b : Bool) → l.inside k (g.source e) ≡ b → l.inside k (g.source e) ≡ false
        go false h = h
        go true h = let clash : is_back g l k e ≡ true = and_both (l.inside k (g.source e)) (is_header l k (g.target e)) h at in let bad : ⊥ = cc in absurd bad
