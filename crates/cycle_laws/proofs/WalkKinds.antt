-- The walks to a return, to an exit and round a loop are kinds whose least charged costs bound each walk that leaves no loop early.
use Rattle.std.proofs.Common.{◌≡◌, ◌≢◌, ℕ, ◌+◌, ◌-◌, ◌*◌, ◌<◌, ◌≤◌, Bool, true, false, not, ◌&&◌, ◌||◌, nat_lt, List, [], ◌∷◌, length, Option, Some, None, is_some, ⊎_elim, refl, sym, ap, ◌∙◌, subst, arith, le_refl, eqb-true, ltb-true, ltb-false}
use Rattle.std.proofs.lemmas.Bool.{cases_Bool}
use Rattle.cost_theory.specs.Graph.{Graph, Loops, IsWalk, end_of, total, only, is_round, is_header, enters, leaves, is_back, any_below}
use Rattle.cost_theory.specs.Accepted.{IsInBody}
use Rattle.cost_theory.specs.Least.{IsUpTo, least_cost}
use Rattle.cost_theory.specs.LeastTurns.{IsRun, turn_step, turn_last, KeepsLeast, least_charge, IsKind}
use Rattle.cost_theory.proofs.Laws.{search_below, and_left, and_right, and_both, and_false, not_true, only_true, only_false, sum-one, sum-none, any-none, some_same, nested, accepted_entered, AreNested, entered-header, no_numbers, charge_none, kept-charged, peel}
use Rattle.cycle_laws.specs.Charged.{Charged, calls_exit, charged_trips, leads_on, ends_exit, IsToReturn, IsToExit, IsToHeader, owed}
use Rattle.cycle_laws.specs.LeastLaws.{IsCharged}

pub or_false : (a b : Bool) → (a || b) ≡ false → (a ≡ false) × (b ≡ false)
or_false true b h = let bad : ⊥ = cc in absurd bad
or_false false b h = (refl, h)

module _ (g : Graph) (l : Loops) (extent : ℕ → ℕ → Bool) (w : ℕ → ℕ) (n : Charged) (is : IsCharged g l extent w n) where
  abbrev pub trips : ℕ → ℕ
  trips = charged_trips g l n.least

  abbrev pub price : ℕ → ℕ
  price = least_cost g w n.least

  pub nest : AreNested g l
  nest = nested g l extent is.program (accepted_entered is.accepted)

  -- from the body of a loop that is charged with turns the run does not exit
  shut : (k d : ℕ) → 0 < trips k → d < g.edges → l.inside k (g.source d) ≡ true → (g.exits d || calls_exit g n.least d) ≡ false
  shut k d pos dl in_d = by_closed (any_below g.edges (λ e. l.inside k (g.source e) && (g.exits e || calls_exit g n.least e))) refl
    where
      by_closed : (b : Bool) → any_below g.edges (λ e. l.inside k (g.source e) && (g.exits e || calls_exit g n.least e)) ≡ b → (g.exits d || calls_exit g n.least d) ≡ false
      by_closed true h =
          let none : trips k ≡ 0 = ap (λ b. only (not b) (l.least_trips k)) h in
          let bad : ⊥ = omega arith in absurd bad
      by_closed false h =
          let here : (l.inside k (g.source d) && (g.exits d || calls_exit g n.least d)) ≡ false = any-none g.edges (λ e. l.inside k (g.source e) && (g.exits e || calls_exit g n.least e)) h d dl in
          sym (ap (λ b. b && (g.exits d || calls_exit g n.least d)) in_d) ∙ here

  -- nothing is charged at an edge that leads nowhere
  free_end : (e : ℕ) → g.target e ≡ None → least_charge g l trips n.turn e ≡ 0
  free_end e to = charge_none g l price trips n.turn nest e (λ j jl.
      ap (λ o. enters l j (g.source e) o && nat_lt 0 (trips j)) to ∙ ap (λ b. b && nat_lt 0 (trips j)) (and_false (not (l.inside j (g.source e)))))

  pub exit_nowhere : (e : ℕ) → e < g.edges → ends_exit g n.least e ≡ true → g.target e ≡ None
  exit_nowhere e el last = ⊎_elim
      (λ (h : g.exits e ≡ true). (is.program.exit_end e el h).0)
      (λ (h : g.exits e ≡ false).
      let rest : (not (is_some (g.target e)) && calls_exit g n.least e) ≡ true = sym (ap (λ b. b || (not (is_some (g.target e)) && calls_exit g n.least e)) h) ∙ last in
      none_of (g.target e) (and_left (not (is_some (g.target e))) (calls_exit g n.least e) rest))
      (cases_Bool (g.exits e))
    where
      none_of : (o : Option ℕ) → not (is_some o) ≡ true → o ≡ None
      none_of None h = refl
      none_of (Some v) h = let bad : ⊥ = cc in absurd bad

  no_exit : (j d : ℕ) → 0 < trips j → d < g.edges → ends_exit g n.least d ≡ true → l.inside j (g.source d) ≡ true → ⊥
  no_exit j d pos dl last in_d =
      let p = or_false (g.exits d) (calls_exit g n.least d) (shut j d pos dl in_d) in
      let q : ends_exit g n.least d ≡ false = ap (λ b. b || (not (is_some (g.target d)) && calls_exit g n.least d)) p.0 ∙ (ap (λ b. not (is_some (g.target d)) && b) p.1 ∙ and_false (not (is_some (g.target d)))) in
      let bad : ⊥ = cc in bad

  pub exit_kind : IsKind g l price trips n.turn (ends_exit g n.least) (leads_on g) n.least.to_exit
  exit_kind = record {
    least = is.numbers.to_exit;
    free = λ e el last. free_end e (exit_nowhere e el last);
    outside = λ e j d el st jl pos en dl last in_d. absurd (no_exit j d pos dl last in_d);
  }

  -- a return is in no body
  no_return : (j d : ℕ) → j < l.loops → d < g.edges → g.returns d ≡ true → l.inside j (g.source d) ≡ true → ⊥
  no_return j d jl dl last in_d =
      let body : IsInBody g (l.header j) (extent j) (g.source d) = (is.accepted.bodies j (g.source d) jl).0 in_d in
      let none : g.target body.2.0 ≡ None = is.returns.return_last d body.2.0 dl body.2.2.0 (some_same _ _ body.2.2.1) last in
      nowhere body.2.1 (subst (λ o. IsWalk g o body.2.1) none body.2.2.2) (subst (λ o. end_of g o body.2.1 ≡ Some (l.header j)) none body.2.3)
    where
      nowhere : (es : List ℕ) → IsWalk g None es → end_of g None es ≡ Some (l.header j) → ⊥
      nowhere [] walk ends = let bad : ⊥ = cc in bad
      nowhere (x ∷ xs) walk ends = let q : None ≡ Some (g.source x) = walk.1 in let bad : ⊥ = cc in bad

  pub return_kind : IsKind g l price trips n.turn g.returns (leads_on g) n.least.to_return
  return_kind = record {
    least = is.numbers.to_return;
    free = λ e el last. free_end e (is.program.return_end e el last).0;
    outside = λ e j d el st jl pos en dl last in_d. absurd (no_return j d jl dl last in_d);
  }

  to_header : (k d : ℕ) → is_back g l k d ≡ true → g.target d ≡ Some (l.header k)
  to_header k d back = go (g.target d) (and_right (l.inside k (g.source d)) (is_header l k (g.target d)) back)
    where
      go : (o : Option ℕ) → is_header l k o ≡ true → o ≡ Some (l.header k)
      go None at = let bad : ⊥ = cc in absurd bad
      go (Some v) at = ap Some (eqb-true v (l.header k) at)

  pub turn_kind : (k : ℕ) → k < l.loops → IsKind g l price trips n.turn (turn_last g l k) (turn_step g l k) (n.closing k)
  turn_kind k kl = record {
    least = λ v. is.numbers.closing k v kl;
    free = λ e el back. charge_none g l price trips n.turn nest e (λ j jl. free e el back j jl (enters l j (g.source e) (g.target e)) refl);
    outside = outside;
  }
    where
      free : (e : ℕ) → e < g.edges → is_back g l k e ≡ true → (j : ℕ) → j < l.loops → (b : Bool) → enters l j (g.source e) (g.target e) ≡ b → (enters l j (g.source e) (g.target e) && nat_lt 0 (trips j)) ≡ false
      free e el back j jl false h = ap (λ b. b && nat_lt 0 (trips j)) h
      free e el back j jl true h =
          let at_j : g.target e ≡ Some (l.header j) = entered-header g l price no_numbers nest e j el jl h in
          let same : j ≡ k = nest.distinct j k jl kl (some_same _ _ (sym at_j ∙ to_header k e back)) in
          let inn : l.inside j (g.source e) ≡ true = subst (λ i. l.inside i (g.source e) ≡ true) (sym same) (and_left (l.inside k (g.source e)) (is_header l k (g.target e)) back) in
          let out : l.inside j (g.source e) ≡ false = not_true (l.inside j (g.source e)) (and_left (not (l.inside j (g.source e))) (is_round l j (g.target e)) h) in
          let bad : ⊥ = cc in absurd bad

      outside : (e j d : ℕ) → e < g.edges → turn_step g l k e ≡ true → j < l.loops → 0 < trips j → enters l j (g.source e) (g.target e) ≡ true →
          d < g.edges → turn_last g l k d ≡ true → l.inside j (g.source d) ≡ true → leaves l j (g.source d) (g.target d) ≡ true
      outside e j d el st jl pos en dl back in_d = at (g.target e) refl
        where
          at : (o : Option ℕ) → g.target e ≡ o → leaves l j (g.source d) (g.target d) ≡ true
          at None to =
              let q : is_round l j (g.target e) ≡ true = and_right (not (l.inside j (g.source e))) (is_round l j (g.target e)) en in
              let r : false ≡ true = subst (λ o. is_round l j o ≡ true) to q in
              let bad : ⊥ = cc in absurd bad
          at (Some v) to =
              let in_j : l.inside j v ≡ true = subst (λ o. is_round l j o ≡ true) to (and_right (not (l.inside j (g.source e))) (is_round l j (g.target e)) en) in
              let out_j : l.inside j (g.source e) ≡ false = not_true (l.inside j (g.source e)) (and_left (not (l.inside j (g.source e))) (is_round l j (g.target e)) en) in
              let in_u : l.inside k (g.source e) ≡ true = and_left (l.inside k (g.source e)) (is_round l k (g.target e) && not (is_header l k (g.target e))) st in
              let in_v : l.inside k v ≡ true = subst (λ o. is_round l k o ≡ true) to (and_left (is_round l k (g.target e)) (not (is_header l k (g.target e))) (and_right (l.inside k (g.source e)) (is_round l k (g.target e) && not (is_header l k (g.target e))) st)) in
              let w : l.inside j (l.header k) ≡ false = (nest.within e j k v el jl kl to in_u in_v in_j out_j).1 in
              subst (λ o. leaves l j (g.source d) o ≡ true) (sym (to_header k d back)) (and_both (l.inside j (g.source d)) (not (l.inside j (l.header k))) in_d (ap not w))

  turns : (k : ℕ) → k < l.loops → 0 < trips k → (t : ℕ → Option ℕ) × IsKind g l price trips n.turn (turn_last g l k) (turn_step g l k) t × (t (l.header k) ≡ Some (n.turn k))
  turns k kl pos = (n.closing k, turn_kind k kl, is.numbers.turn k kl)

  -- a walk of a kind that leaves no loop early costs at least the least charged cost of the kind
  bound : (last step : ℕ → Bool) (t : ℕ → Option ℕ) → IsKind g l price trips n.turn last step t → (es : List ℕ) (v : ℕ) (counts : ℕ → ℕ) →
      IsRun g false last step (Some v) es → KeepsLeast g l trips counts es → IsUpTo (t v) (total price es)
  bound last step t kind es v counts run keeps = kept-charged g l price trips n.turn nest turns (length es) last step t kind es v counts (le_refl (length es)) run keeps

  pub exit_bound : (es : List ℕ) (v : ℕ) (counts : ℕ → ℕ) → IsToExit g n.least v es → KeepsLeast g l trips counts es → IsUpTo (n.least.to_exit v) (total price es)
  exit_bound = bound (ends_exit g n.least) (leads_on g) n.least.to_exit exit_kind

  pub return_bound : (es : List ℕ) (v : ℕ) (counts : ℕ → ℕ) → IsToReturn g v es → KeepsLeast g l trips counts es → IsUpTo (n.least.to_return v) (total price es)
  return_bound = bound g.returns (leads_on g) n.least.to_return return_kind

  one_turn : (k : ℕ) → k < l.loops → (es : List ℕ) (counts : ℕ → ℕ) → IsToHeader g l k (l.header k) es → KeepsLeast g l trips counts es → n.turn k ≤ total price es
  one_turn k kl es counts run keeps =
      let up : IsUpTo (n.closing k (l.header k)) (total price es) = bound (turn_last g l k) (turn_step g l k) (n.closing k) (turn_kind k kl) es (l.header k) counts run keeps in
      let same : n.turn k ≡ up.0 = some_same _ _ (sym (is.numbers.turn k kl) ∙ up.1) in
      let le : up.0 ≤ total price es = up.2 in
      omega arith

  -- the loop that owes turns at a node, or none does
  pub owes_none : (v : ℕ) (counts : ℕ → ℕ) → ((k : ℕ) → k < l.loops → (is_header l k (Some v) && nat_lt (counts k) (trips k)) ≡ false) → owed g l n v counts ≡ 0
  owes_none v counts none = sum-none l.loops (λ k. only (is_header l k (Some v)) ((trips k - counts k) * n.turn k)) (λ k kl. each k (is_header l k (Some v)) (nat_lt (counts k) (trips k)) refl (none k kl))
    where
      each : (k : ℕ) (a b : Bool) → nat_lt (counts k) (trips k) ≡ b → (a && b) ≡ false → only a ((trips k - counts k) * n.turn k) ≡ 0
      each k false b h e = refl
      each k true true h e = let bad : ⊥ = cc in absurd bad
      each k true false h e =
          let le : trips k ≤ counts k = ltb-false (counts k) (trips k) h in
          let z : trips k - counts k ≡ 0 = omega arith in
          ap (λ x. x * n.turn k) z ∙ (omega arith)

  pub owes_one : (v j : ℕ) (counts : ℕ → ℕ) → j < l.loops → is_header l j (Some v) ≡ true → owed g l n v counts ≡ (trips j - counts j) * n.turn j
  owes_one v j counts jl at =
      sum-one l.loops (λ k. only (is_header l k (Some v)) ((trips k - counts k) * n.turn k)) j jl (λ k kl ne. other k kl ne (is_header l k (Some v)) refl)
      ∙ only_true (is_header l j (Some v)) ((trips j - counts j) * n.turn j) at
    where
      other : (k : ℕ) → k < l.loops → k ≢ j → (b : Bool) → is_header l k (Some v) ≡ b → only (is_header l k (Some v)) ((trips k - counts k) * n.turn k) ≡ 0
      other k kl ne false h = only_false (is_header l k (Some v)) ((trips k - counts k) * n.turn k) h
      other k kl ne true h =
          absurd (ne (nest.distinct k j kl jl (sym (eqb-true v (l.header k) h) ∙ eqb-true v (l.header j) at)))

  -- the same, with what is owed at the first node
  owed_bound : (last step : ℕ → Bool) (t : ℕ → Option ℕ) → IsKind g l price trips n.turn last step t →
      ((k : ℕ) → k < l.loops → 0 < trips k → (d : ℕ) → d < g.edges → last d ≡ true → l.inside k (g.source d) ≡ true → leaves l k (g.source d) (g.target d) ≡ true) →
      (es : List ℕ) (v : ℕ) (counts : ℕ → ℕ) → IsRun g false last step (Some v) es → KeepsLeast g l trips counts es →
      (z : ℕ) × (t v ≡ Some z) × (z + owed g l n v counts ≤ total price es)
  owed_bound last step t kind ends es v counts run keeps = ⊎_elim
      (λ (f : (k : ℕ) × (k < l.loops) × ((is_header l k (Some v) && nat_lt (counts k) (trips k)) ≡ true)).
      owing f.0 f.1 (and_left (is_header l f.0 (Some v)) (nat_lt (counts f.0) (trips f.0)) f.2) (ltb-true _ _ (and_right (is_header l f.0 (Some v)) (nat_lt (counts f.0) (trips f.0)) f.2)))
      (λ (none : (k : ℕ) → k < l.loops → (is_header l k (Some v) && nat_lt (counts k) (trips k)) ≡ false).
      let up : IsUpTo (t v) (total price es) = bound last step t kind es v counts run keeps in
      let z : owed g l n v counts ≡ 0 = owes_none v counts none in
      let le : up.0 ≤ total price es = up.2 in
      (up.0, up.1, omega arith))
      (search_below l.loops (λ k. is_header l k (Some v) && nat_lt (counts k) (trips k)))
    where
      owing : (k : ℕ) → k < l.loops → is_header l k (Some v) ≡ true → counts k < trips k → (z : ℕ) × (t v ≡ Some z) × (z + owed g l n v counts ≤ total price es)
      owing k kl at low =
          let here : v ≡ l.header k = eqb-true v (l.header k) at in
          let r : (others : List ℕ) × (then : ℕ → ℕ) × IsRun g false last step (Some (l.header k)) others × KeepsLeast g l trips then others × (length others ≤ length es) × ((trips k - counts k) * n.turn k + total price others ≤ total price es) =
          peel g l price trips n.turn nest last step k kl (ends k kl (omega arith)) (length es) (trips k - counts k) (λ s then sh rn ks. one_turn k kl s then rn ks)
          es counts (le_refl (length es)) (subst (λ u. IsRun g false last step (Some u) es) here run) keeps (omega arith) in
          let up : IsUpTo (t (l.header k)) (total price r.0) = bound last step t kind r.0 (l.header k) r.1 r.2 r.3 in
          let owes : owed g l n v counts ≡ (trips k - counts k) * n.turn k = owes_one v k counts kl at in
          let le : up.0 ≤ total price r.0 = up.2 in
          let sum : (trips k - counts k) * n.turn k + total price r.0 ≤ total price es = r.5 in
          (up.0, ap t here ∙ up.1, omega arith)

  pub exit_owed : (es : List ℕ) (v : ℕ) (counts : ℕ → ℕ) → IsToExit g n.least v es → KeepsLeast g l trips counts es → (z : ℕ) × (n.least.to_exit v ≡ Some z) × (z + owed g l n v counts ≤ total price es)
  exit_owed = owed_bound (ends_exit g n.least) (leads_on g) n.least.to_exit exit_kind (λ k kl pos d dl last in_d. absurd (no_exit k d pos dl last in_d))

  pub return_owed : (es : List ℕ) (v : ℕ) (counts : ℕ → ℕ) → IsToReturn g v es → KeepsLeast g l trips counts es → (z : ℕ) × (n.least.to_return v ≡ Some z) × (z + owed g l n v counts ≤ total price es)
  return_owed = owed_bound g.returns (leads_on g) n.least.to_return return_kind (λ k kl pos d dl last in_d. absurd (no_return k d kl dl last in_d))
