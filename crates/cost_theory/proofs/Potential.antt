-- The cycles left in a function bound each bounded walk, by one step at a time.
use Rattle.std.proofs.Common.{◌≡◌, ℕ, suc, ◌+◌, ◌*◌, ◌-◌, ◌<◌, ◌≤◌, Bool, true, false, cond, not, ◌&&◌, nat_eq, List, [], ◌∷◌, Option, Some, None, refl, sym, ap, ◌∙◌, subst, arith, eqb-true, eq-eqb}
use Rattle.cost_theory.specs.Graph.{Graph, Loops, IsWalk, total, sum_below, only, goes_back, enters, IsPlain, count_step, AreWithin, IsBounded}
use Rattle.cost_theory.specs.Worst.{Numbers, all_of, charged, AreLoopNumbers, left_at, turn_back, turns, left_from, left_behind, slack}
use Rattle.cost_theory.proofs.Basics.{sum-add, sum-same, sum-none, and_false}
use Rattle.cost_theory.proofs.Slack.{AreEnteredAtHeaders, slack-le, plain-left}

-- one turn of a loop less
pub one_turn : (bound count cost : ℕ) → count + 1 ≤ bound → (bound - count) * cost ≡ (bound - (count + 1)) * cost + cost
one_turn bound count cost h =
    let e : bound - count ≡ suc (bound - (count + 1)) = omega arith in
    let q : (bound - count) * cost ≡ suc (bound - (count + 1)) * cost = ap (λ x. x * cost) e in
    q ∙ (omega arith)

-- what one step over an edge does to the turns that one loop has left
pub turn_step : (in_u in_v at_header : Bool) (bound count cost : ℕ) → (at_header ≡ true → in_v ≡ true) →
    (in_v ≡ true → in_u ≡ false → at_header ≡ true) → cond at_header (cond in_u (count + 1) 0) count ≤ bound →
    only in_u ((bound - count) * cost) + only (not in_u && in_v) (bound * cost) ≡
    only in_v ((bound - cond at_header (cond in_u (count + 1) 0) count) * cost) + only (in_u && not in_v) ((bound - count) * cost) + only (in_u && at_header) cost
turn_step true true true bound count cost h s w = let q : (bound - count) * cost ≡ (bound - (count + 1)) * cost + cost = one_turn bound count cost w in omega arith
turn_step true true false bound count cost h s w = omega arith
turn_step true false true bound count cost h s w = let bad : ⊥ = (let no : false ≡ true = h refl in cc) in absurd bad
turn_step true false false bound count cost h s w = omega arith
turn_step false true true bound count cost h s w = let q : (bound - 0) * cost ≡ bound * cost = ap (λ x. x * cost) (omega arith) in omega arith
turn_step false true false bound count cost h s w = let bad : ⊥ = (let no : false ≡ true = s refl refl in cc) in absurd bad
turn_step false false true bound count cost h s w = let bad : ⊥ = (let no : false ≡ true = h refl in cc) in absurd bad
turn_step false false false bound count cost h s w = omega arith

module _ (g : Graph) (l : Loops) (c : ℕ → ℕ) (n : Numbers) (nums : AreLoopNumbers g l c n) (ways : AreEnteredAtHeaders g l) where
  -- over all loops
  pub turns_step : (e v : ℕ) (counts : ℕ → ℕ) → e < g.edges → g.target e ≡ Some v →
      AreWithin l (count_step l (Some (g.source e)) (Some v) counts) →
      sum_below l.loops (λ k. only (l.inside k (g.source e)) (turns l n counts k)) + sum_below l.loops (λ k. only (enters l k (g.source e) (g.target e)) (all_of l n k)) ≡
      sum_below l.loops (λ k. only (l.inside k v) (turns l n (count_step l (Some (g.source e)) (Some v) counts) k)) + left_behind g l n counts e + turn_back g l n e
  turns_step e v counts lt to within =
      rw to (sym (sum-add l.loops before entered) ∙ sum-same l.loops (λ k. before k + entered k) (λ k. after k + behind k + back k) each ∙ sum-add l.loops (λ k. after k + behind k) back ∙ ap (λ x. x + sum_below l.loops back) (sum-add l.loops after behind))
    where
      before : ℕ → ℕ
      before k = only (l.inside k (g.source e)) (turns l n counts k)

      entered : ℕ → ℕ
      entered k = only (not (l.inside k (g.source e)) && l.inside k v) (all_of l n k)

      after : ℕ → ℕ
      after k = only (l.inside k v) (turns l n (count_step l (Some (g.source e)) (Some v) counts) k)

      behind : ℕ → ℕ
      behind k = only (l.inside k (g.source e) && not (l.inside k v)) (turns l n counts k)

      back : ℕ → ℕ
      back k = only (l.inside k (g.source e) && nat_eq v (l.header k)) (n.iteration k)

      each : (k : ℕ) → k < l.loops → before k + entered k ≡ after k + behind k + back k
      each k kl = turn_step (l.inside k (g.source e)) (l.inside k v) (nat_eq v (l.header k)) (l.bound k) (counts k) (n.iteration k)
          (λ at. subst (λ u. l.inside k u ≡ true) (sym (eqb-true v (l.header k) at)) (ways.holds_header k kl))
          (λ in_v out_u. eq-eqb v (l.header k) (ways.side e k v lt kl to in_v out_u))
          (within k kl)

  -- one step to a node: exactly
  pub left_step : (e v : ℕ) (counts : ℕ → ℕ) → e < g.edges → g.target e ≡ Some v →
      AreWithin l (count_step l (Some (g.source e)) (Some v) counts) →
      left_from l n (Some (g.source e)) counts ≡
      c e + slack g l n c e + left_from l n (Some v) (count_step l (Some (g.source e)) (Some v) counts) + left_behind g l n counts e
  left_step e v counts lt to within =
      let turned : sum_below l.loops (λ k. only (l.inside k (g.source e)) (turns l n counts k)) + sum_below l.loops (λ k. only (enters l k (g.source e) (g.target e)) (all_of l n k)) ≡
      sum_below l.loops (λ k. only (l.inside k v) (turns l n (count_step l (Some (g.source e)) (Some v) counts) k)) + left_behind g l n counts e + turn_back g l n e = turns_step e v counts lt to within in
      let never : charged g l n c e + left_at n (g.target e) ≤ n.left (g.source e) + turn_back g l n e = slack-le g l c n nums ways e lt in
      let at_v : left_at n (g.target e) ≡ n.left v = ap (left_at n) to in
      omega arith

  pub end-plain : (e : ℕ) → g.target e ≡ None → IsPlain g l e
  end-plain e to k kl = subst (λ o. goes_back l k (g.source e) o ≡ false) (sym to) (and_false (l.inside k (g.source e)))

  -- at least its cost, also over an End edge
  pub left_step-le : (e : ℕ) (counts : ℕ → ℕ) → e < g.edges →
      AreWithin l (count_step l (Some (g.source e)) (g.target e) counts) →
      c e + left_from l n (g.target e) (count_step l (Some (g.source e)) (g.target e) counts) ≤ left_from l n (Some (g.source e)) counts
  left_step-le e counts lt within = go (g.target e) refl
    where
      go : (o : Option ℕ) → g.target e ≡ o → c e + left_from l n o (count_step l (Some (g.source e)) o counts) ≤ left_from l n (Some (g.source e)) counts
      go None to =
          let h : charged g l n c e + 0 ≤ n.left (g.source e) = plain-left g l c n nums ways e lt (end-plain e to) [] tt in
          let z : sum_below l.loops (λ k. 0) ≡ 0 = sum-none l.loops (λ k. 0) (λ k kl. refl) in
          omega arith
      go (Some v) to =
          let w : AreWithin l (count_step l (Some (g.source e)) (Some v) counts) = subst (λ o. AreWithin l (count_step l (Some (g.source e)) o counts)) to within in
          let exact : left_from l n (Some (g.source e)) counts ≡ c e + slack g l n c e + left_from l n (Some v) (count_step l (Some (g.source e)) (Some v) counts) + left_behind g l n counts e = left_step e v counts lt to w in
          omega arith

  -- so they bound the cost of each bounded walk
  pub walk-left : (es : List ℕ) (p : Option ℕ) (counts : ℕ → ℕ) → IsWalk g p es → IsBounded g l counts es →
      total c es ≤ left_from l n p counts
  walk-left [] p counts walk bounded = omega arith
  walk-left (e ∷ es) p counts walk bounded =
      let ih : total c es ≤ left_from l n (g.target e) (count_step l (Some (g.source e)) (g.target e) counts) = walk-left es (g.target e) (count_step l (Some (g.source e)) (g.target e) counts) walk.2 bounded.1 in
      let step : c e + left_from l n (g.target e) (count_step l (Some (g.source e)) (g.target e) counts) ≤ left_from l n (Some (g.source e)) counts = left_step-le e counts walk.0 bounded.0 in
      let at : left_from l n p counts ≡ left_from l n (Some (g.source e)) counts = ap (λ o. left_from l n o counts) walk.1 in
      omega arith

  -- a bounded walk costs at most what is left at its node, and all turns of the loops round it
  pub walk-worst : (v : ℕ) (es : List ℕ) → IsWalk g (Some v) es → IsBounded g l (λ k. 0) es →
      total c es ≤ n.left v + sum_below l.loops (λ k. only (l.inside k v) (all_of l n k))
  walk-worst v es walk bounded =
      let h : total c es ≤ left_from l n (Some v) (λ k. 0) = walk-left es (Some v) (λ k. 0) walk bounded in
      let q : sum_below l.loops (λ k. only (l.inside k v) (turns l n (λ k. 0) k)) ≡ sum_below l.loops (λ k. only (l.inside k v) (all_of l n k)) =
      sum-same l.loops (λ k. only (l.inside k v) (turns l n (λ k. 0) k)) (λ k. only (l.inside k v) (all_of l n k))
      (λ k kl. ap (λ x. only (l.inside k v) (x * n.iteration k)) (let z : l.bound k - 0 ≡ l.bound k = omega arith in z)) in
      omega arith
