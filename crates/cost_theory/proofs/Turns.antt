-- The greatest cost of an iteration is reached by a bounded walk, from the innermost loop outwards.
use Rattle.std.proofs.Common.{◌≡◌, ◌≢◌, ℕ, zero, suc, ◌+◌, ◌*◌, ◌<◌, ◌≤◌, Bool, true, false, cond, not, ◌&&◌, ◌⊎◌, inl, inr, nat_eq, List, [], ◌∷◌, ◌++◌, Option, Some, None, refl, sym, ap, ◌∙◌, subst, arith, eqb-true, eq-eqb, le_trans, le_refl, ⊎_elim, ap₂}
use Rattle.cost_theory.specs.Graph.{Graph, Loops, IsWalk, end_of, total, sum_below, only, is_round, is_header, is_back, enters, IsPlain, IsPlainPath, IsClosing, count_step, AreWithin, IsBounded}
use Rattle.cost_theory.specs.Worst.{Numbers, IsGreatest, all_of, charged, AreLoopNumbers}
use Rattle.cost_theory.proofs.Basics.{search_below, sum-one, sum-none, total-append, and_left, and_right, only_true, only_false, not_true}
use Rattle.cost_theory.proofs.Append.{counts_along, StaysIn, walk-append, end_of-append, counts-append, bounded-append, stays-append, within_along, count_same, counts_outside, stays-within, count_anew, count_back, times, total-times, stays-times}
use Rattle.cost_theory.proofs.Slack.{AreEnteredAtHeaders}

-- what the construction wants of the loops beyond that
pub record AreNested (g : Graph) (l : Loops) : Type 0 where
  pub ways : AreEnteredAtHeaders g l
  pub distinct : (j k : ℕ) → j < l.loops → k < l.loops → l.header j ≡ l.header k → j ≡ k
  -- falls from a loop to the loops within it
  pub rank : ℕ → ℕ
  -- a loop that is entered by an edge within another lies within it, and without its header
  pub within : (e j k v : ℕ) → e < g.edges → j < l.loops → k < l.loops → g.target e ≡ Some v → l.inside k (g.source e) ≡ true → l.inside k v ≡ true →
      l.inside j v ≡ true → l.inside j (g.source e) ≡ false →
      (rank j < rank k) × (l.inside j (l.header k) ≡ false) × ((u : ℕ) → l.inside j u ≡ true → l.inside k u ≡ true)

-- a bounded walk round loop k once, of the greatest cost
pub record Turn (g : Graph) (l : Loops) (c : ℕ → ℕ) (n : Numbers) (k : ℕ) : Type 0 where
  pub es : List ℕ
  pub walk : IsWalk g (Some (l.header k)) es
  pub ends : end_of g (Some (l.header k)) es ≡ Some (l.header k)
  pub costs : total c es ≡ n.iteration k
  pub stays : StaysIn g l k es
  pub bounded : (counts : ℕ → ℕ) → AreWithin l counts → counts k + 1 ≤ l.bound k → IsBounded g l counts es
  pub counted : (counts : ℕ → ℕ) → counts_along g l counts es k ≡ counts k + 1

-- a bounded walk over a plain edge, with all turns of the loop that it enters
pub record Filled (g : Graph) (l : Loops) (c : ℕ → ℕ) (n : Numbers) (e : ℕ) : Type 0 where
  pub es : List ℕ
  pub walk : IsWalk g (Some (g.source e)) es
  pub ends : end_of g (Some (g.source e)) es ≡ g.target e
  pub costs : total c es ≡ charged g l n c e
  pub bounded : (counts : ℕ → ℕ) → AreWithin l counts → IsBounded g l counts es
  pub stays : (k : ℕ) → k < l.loops → l.inside k (g.source e) ≡ true → is_round l k (g.target e) ≡ true → StaysIn g l k es
  pub same : (k : ℕ) (counts : ℕ → ℕ) → k < l.loops → l.inside k (g.source e) ≡ true → is_round l k (g.target e) ≡ true →
      counts_along g l counts es k ≡ counts k

-- a bounded walk from a place in loop k to its header, by one back edge of k
pub record Closed (g : Graph) (l : Loops) (c : ℕ → ℕ) (k : ℕ) (p : Option ℕ) (m : ℕ) : Type 0 where
  pub es : List ℕ
  pub walk : IsWalk g p es
  pub ends : end_of g p es ≡ Some (l.header k)
  pub costs : total c es ≡ m
  pub stays : StaysIn g l k es
  pub bounded : (counts : ℕ → ℕ) → AreWithin l counts → counts k + 1 ≤ l.bound k → IsBounded g l counts es
  pub counted : (counts : ℕ → ℕ) → counts_along g l counts es k ≡ counts k + 1

module _ (g : Graph) (l : Loops) (c : ℕ → ℕ) (n : Numbers) (nest : AreNested g l) where
  -- a loop's turns, one after another
  pub times_walk : (k m : ℕ) (t : Turn g l c n k) → IsWalk g (Some (l.header k)) (times m t.es)
  times_walk k zero t = tt
  times_walk k (suc m) t = walk-append g l t.es (times m t.es) (Some (l.header k)) t.walk (subst (λ p. IsWalk g p (times m t.es)) (sym t.ends) (times_walk k m t))

  pub times_ends : (k m : ℕ) (t : Turn g l c n k) → end_of g (Some (l.header k)) (times m t.es) ≡ Some (l.header k)
  times_ends k zero t = refl
  times_ends k (suc m) t = end_of-append g l t.es (times m t.es) (Some (l.header k)) ∙ ap (λ p. end_of g p (times m t.es)) t.ends ∙ times_ends k m t

  pub times_bounded : (k m : ℕ) (t : Turn g l c n k) (counts : ℕ → ℕ) → AreWithin l counts → counts k + m ≤ l.bound k → IsBounded g l counts (times m t.es)
  times_bounded k zero t counts within room = tt
  times_bounded k (suc m) t counts within room =
      let one : IsBounded g l counts t.es = t.bounded counts within (omega arith) in
      let now : counts_along g l counts t.es k ≡ counts k + 1 = t.counted counts in
      bounded-append g l t.es (times m t.es) counts one
      (times_bounded k m t (counts_along g l counts t.es) (within_along g l t.es counts within one) (omega arith))

  -- a plain step leaves the counts within the bounds
  pub plain_within : (e : ℕ) (counts : ℕ → ℕ) → IsPlain g l e → AreWithin l counts → AreWithin l (count_step l (Some (g.source e)) (g.target e) counts)
  plain_within e counts plain within k kl = go (is_header l k (g.target e)) (l.inside k (g.source e)) (plain k kl) (within k kl)
    where
      go : (at in_u : Bool) → (in_u && at) ≡ false → counts k ≤ l.bound k → cond at (cond in_u (counts k + 1) 0) (counts k) ≤ l.bound k
      go true true p w = let bad : ⊥ = cc in absurd bad
      go true false p w = omega arith
      go false b p w = w

  -- a plain edge from within a loop does not lead to its header
  pub plain_away : (e k : ℕ) → IsPlain g l e → k < l.loops → l.inside k (g.source e) ≡ true → is_header l k (g.target e) ≡ false
  plain_away e k plain kl in_u = go (is_header l k (g.target e)) (l.inside k (g.source e)) (plain k kl) in_u
    where
      go : (at in_u : Bool) → (in_u && at) ≡ false → in_u ≡ true → at ≡ false
      go at true p q = p
      go at false p q = let bad : ⊥ = cc in absurd bad

  -- the node that an edge enters a loop by is its header
  pub entered-header : (e j : ℕ) → e < g.edges → j < l.loops → enters l j (g.source e) (g.target e) ≡ true → g.target e ≡ Some (l.header j)
  entered-header e j lt jl en = go (g.target e) refl
    where
      go : (o : Option ℕ) → g.target e ≡ o → g.target e ≡ Some (l.header j)
      go None to = let bad : ⊥ = (let r : is_round l j None ≡ true = subst (λ o. is_round l j o ≡ true) to (and_right (not (l.inside j (g.source e))) (is_round l j (g.target e)) en) in cc) in absurd bad
      go (Some v) to =
          let r : l.inside j v ≡ true = subst (λ o. is_round l j o ≡ true) to (and_right (not (l.inside j (g.source e))) (is_round l j (g.target e)) en) in
          let out : l.inside j (g.source e) ≡ false = not_true (l.inside j (g.source e)) (and_left (not (l.inside j (g.source e))) (is_round l j (g.target e)) en) in
          to ∙ ap Some (nest.ways.side e j v lt jl to r out)

  pub fill_none : (e : ℕ) → e < g.edges → IsPlain g l e → ((j : ℕ) → j < l.loops → enters l j (g.source e) (g.target e) ≡ false) → Filled g l c n e
  fill_none e lt plain none = record {
    es = e ∷ [];
    walk = (lt, refl, tt);
    ends = refl;
    costs = (let z : sum_below l.loops (λ k. only (enters l k (g.source e) (g.target e)) (all_of l n k)) ≡ 0 =
        sum-none l.loops (λ k. only (enters l k (g.source e) (g.target e)) (all_of l n k)) (λ k kl. only_false (enters l k (g.source e) (g.target e)) (all_of l n k) (none k kl)) in omega arith);
    bounded = (λ counts within. (plain_within e counts plain within, tt));
    stays = (λ k kl in_u in_v. (in_v, tt));
    same = (λ k counts kl in_u in_v. count_same g l k (Some (g.source e)) (g.target e) counts (plain_away e k plain kl in_u));
  }

  -- an edge that enters loop j is charged with that loop alone
  pub charged_entering : (e j : ℕ) → e < g.edges → j < l.loops → enters l j (g.source e) (g.target e) ≡ true → charged g l n c e ≡ c e + all_of l n j
  charged_entering e j lt jl en =
      let one : sum_below l.loops (λ k. only (enters l k (g.source e) (g.target e)) (all_of l n k)) ≡ only (enters l j (g.source e) (g.target e)) (all_of l n j) =
      sum-one l.loops (λ k. only (enters l k (g.source e) (g.target e)) (all_of l n k)) j jl
      (λ k kl ne. other k (enters l k (g.source e) (g.target e)) kl ne refl) in
      let is : only (enters l j (g.source e) (g.target e)) (all_of l n j) ≡ all_of l n j = only_true (enters l j (g.source e) (g.target e)) (all_of l n j) en in
      omega arith
    where
      other : (k : ℕ) (b : Bool) → k < l.loops → k ≢ j → enters l k (g.source e) (g.target e) ≡ b → only b (all_of l n k) ≡ 0
      other k false kl ne is = refl
      other k true kl ne is =
          let same : Some (l.header k) ≡ Some (l.header j) = sym (entered-header e k lt kl is) ∙ entered-header e j lt jl en in
          let heads : l.header k ≡ l.header j = cc in
          absurd (ne (nest.distinct k j kl jl heads))

  pub fill_some : (e j : ℕ) → e < g.edges → IsPlain g l e → j < l.loops → enters l j (g.source e) (g.target e) ≡ true → Turn g l c n j → Filled g l c n e
  fill_some e j lt plain jl en t = record {
    es = e ∷ times (l.bound j) t.es;
    walk = (lt, refl, subst (λ p. IsWalk g p (times (l.bound j) t.es)) (sym to) (times_walk j (l.bound j) t));
    ends = ap (λ p. end_of g p (times (l.bound j) t.es)) to ∙ times_ends j (l.bound j) t ∙ sym to;
    costs = (
        let all : total c (times (l.bound j) t.es) ≡ l.bound j * total c t.es = total-times c (l.bound j) t.es in
        let each : l.bound j * total c t.es ≡ l.bound j * n.iteration j = ap (λ x. l.bound j * x) t.costs in
        let ch : charged g l n c e ≡ c e + all_of l n j = charged_entering e j lt jl en in
        omega arith);
    bounded = (λ counts within. (
      plain_within e counts plain within,
      times_bounded j (l.bound j) t (count_step l (Some (g.source e)) (g.target e) counts) (plain_within e counts plain within) (
          let z : count_step l (Some (g.source e)) (g.target e) counts j ≡ 0 = count_anew g l j (Some (g.source e)) (g.target e) counts at_header out in
          omega arith),
    ));
    stays = (λ k kl in_u in_v. (in_v, stays-times g l k (l.bound j) t.es (stays-within g l j k t.es (inner k kl in_u in_v).2 t.stays)));
    same = (λ k counts kl in_u in_v.
        counts_outside g l k j (times (l.bound j) t.es) (count_step l (Some (g.source e)) (g.target e) counts) (stays-times g l j (l.bound j) t.es t.stays) (inner k kl in_u in_v).1 ∙
        count_same g l k (Some (g.source e)) (g.target e) counts (plain_away e k plain kl in_u));
  }
    where
      to : g.target e ≡ Some (l.header j)
      to = entered-header e j lt jl en

      at_header : is_header l j (g.target e) ≡ true
      at_header = subst (λ o. is_header l j o ≡ true) (sym to) (eq-eqb (l.header j) (l.header j) refl)

      out : l.inside j (g.source e) ≡ false
      out = not_true (l.inside j (g.source e)) (and_left (not (l.inside j (g.source e))) (is_round l j (g.target e)) en)

      inner : (k : ℕ) → k < l.loops → l.inside k (g.source e) ≡ true → is_round l k (g.target e) ≡ true →
          (nest.rank j < nest.rank k) × (l.inside j (l.header k) ≡ false) × ((u : ℕ) → l.inside j u ≡ true → l.inside k u ≡ true)
      inner k kl in_u in_v = nest.within e j k (l.header j) lt jl kl to in_u (subst (λ o. is_round l k o ≡ true) to in_v) (nest.ways.holds_header j jl) out

  -- a plain edge, filled with the turns of the loop that it enters, if any
  pub fill : (e : ℕ) → e < g.edges → IsPlain g l e →
      ((j : ℕ) → j < l.loops → enters l j (g.source e) (g.target e) ≡ true → Turn g l c n j) → Filled g l c n e
  fill e lt plain turn = ⊎_elim
      (λ (f : (j : ℕ) × (j < l.loops) × (enters l j (g.source e) (g.target e) ≡ true)). fill_some e f.0 lt plain f.1 f.2 (turn f.0 f.1 f.2))
      (λ (none : (j : ℕ) → j < l.loops → enters l j (g.source e) (g.target e) ≡ false). fill_none e lt plain none)
      (search_below l.loops (λ j. enters l j (g.source e) (g.target e)))

  -- a back edge of loop k leads to its header, and enters no loop
  pub back-header : (e k : ℕ) → is_back g l k e ≡ true → g.target e ≡ Some (l.header k)
  back-header e k back = go (g.target e) (and_right (l.inside k (g.source e)) (is_header l k (g.target e)) back)
    where
      go : (o : Option ℕ) → is_header l k o ≡ true → o ≡ Some (l.header k)
      go None at = let bad : ⊥ = cc in absurd bad
      go (Some v) at = ap Some (eqb-true v (l.header k) at)

  pub back_charged : (e k : ℕ) → e < g.edges → k < l.loops → is_back g l k e ≡ true → charged g l n c e ≡ c e
  back_charged e k lt kl back =
      let z : sum_below l.loops (λ j. only (enters l j (g.source e) (g.target e)) (all_of l n j)) ≡ 0 =
      sum-none l.loops (λ j. only (enters l j (g.source e) (g.target e)) (all_of l n j))
      (λ j jl. none j jl (enters l j (g.source e) (g.target e)) refl) in
      omega arith
    where
      none : (j : ℕ) → j < l.loops → (b : Bool) → enters l j (g.source e) (g.target e) ≡ b → only b (all_of l n j) ≡ 0
      none j jl false is = refl
      none j jl true is =
          let same : Some (l.header j) ≡ Some (l.header k) = sym (entered-header e j lt jl is) ∙ back-header e k back in
          let heads : l.header j ≡ l.header k = cc in
          let eq : j ≡ k = nest.distinct j k jl kl heads in
          let out : l.inside j (g.source e) ≡ false = not_true (l.inside j (g.source e)) (and_left (not (l.inside j (g.source e))) (is_round l j (g.target e)) is) in
          let in_k : l.inside k (g.source e) ≡ true = and_left (l.inside k (g.source e)) (is_header l k (g.target e)) back in
          let in_j : l.inside j (g.source e) ≡ true = subst (λ i. l.inside i (g.source e) ≡ true) (sym eq) in_k in
          let bad : ⊥ = cc in absurd bad

  pub back_within : (e k : ℕ) (counts : ℕ → ℕ) → k < l.loops → is_back g l k e ≡ true → AreWithin l counts → counts k + 1 ≤ l.bound k →
      AreWithin l (count_step l (Some (g.source e)) (g.target e) counts)
  back_within e k counts kl back within room i il = go (is_header l i (g.target e)) refl
    where
      go : (b : Bool) → is_header l i (g.target e) ≡ b → cond b (cond (l.inside i (g.source e)) (counts i + 1) 0) (counts i) ≤ l.bound i
      go false is = within i il
      go true is =
          let at : nat_eq (l.header k) (l.header i) ≡ true = subst (λ o. is_header l i o ≡ true) (back-header e k back) is in
          let eq : k ≡ i = nest.distinct k i kl il (eqb-true (l.header k) (l.header i) at) in
          let r : counts i + 1 ≤ l.bound i = subst (λ j. counts j + 1 ≤ l.bound j) eq room in
          le_trans (either (l.inside i (g.source e))) r
        where
          either : (b : Bool) → cond b (counts i + 1) 0 ≤ counts i + 1
          either true = le_refl _
          either false = omega arith

  pub close_last : (e k : ℕ) (p : Option ℕ) → e < g.edges → k < l.loops → p ≡ Some (g.source e) → is_back g l k e ≡ true → Closed g l c k p (charged g l n c e + 0)
  close_last e k p lt kl at back = record {
    es = e ∷ [];
    walk = (lt, at, tt);
    ends = back-header e k back;
    costs = (let q : charged g l n c e ≡ c e = back_charged e k lt kl back in omega arith);
    stays = (subst (λ o. is_round l k o ≡ true) (sym (back-header e k back)) (nest.ways.holds_header k kl), tt);
    bounded = (λ counts within room. (back_within e k counts kl back within room, tt));
    counted = (λ counts. count_back g l k (Some (g.source e)) (g.target e) counts
        (and_right (l.inside k (g.source e)) (is_header l k (g.target e)) back)
        (and_left (l.inside k (g.source e)) (is_header l k (g.target e)) back));
  }

  pub close_more : (e k m : ℕ) (p : Option ℕ) → e < g.edges → k < l.loops → p ≡ Some (g.source e) → IsPlain g l e →
      l.inside k (g.source e) ≡ true → is_round l k (g.target e) ≡ true →
      Filled g l c n e → Closed g l c k (g.target e) m → Closed g l c k p (charged g l n c e + m)
  close_more e k m p lt kl at plain in_u in_v filled rest = record {
    es = filled.es ++ rest.es;
    walk = subst (λ o. IsWalk g o (filled.es ++ rest.es)) (sym at)
        (walk-append g l filled.es rest.es (Some (g.source e)) filled.walk (subst (λ o. IsWalk g o rest.es) (sym filled.ends) rest.walk));
    ends = ap (λ o. end_of g o (filled.es ++ rest.es)) at ∙ end_of-append g l filled.es rest.es (Some (g.source e)) ∙ ap (λ o. end_of g o rest.es) filled.ends ∙ rest.ends;
    costs = (total-append c filled.es rest.es ∙ ap₂ (λ x y. x + y) filled.costs rest.costs);
    stays = stays-append g l k filled.es rest.es (filled.stays k kl in_u in_v) rest.stays;
    bounded = (λ counts within room.
        bounded-append g l filled.es rest.es counts (filled.bounded counts within)
        (rest.bounded (counts_along g l counts filled.es) (within_along g l filled.es counts within (filled.bounded counts within))
        (subst (λ x. x + 1 ≤ l.bound k) (sym (filled.same k counts kl in_u in_v)) room)));
    counted = (λ counts. ap (λ f. f k) (counts-append g l filled.es rest.es counts) ∙ rest.counted (counts_along g l counts filled.es) ∙ ap (λ x. x + 1) (filled.same k counts kl in_u in_v));
  }

  -- a closing path, filled
  pub close : (k : ℕ) (es : List ℕ) (p : Option ℕ) → k < l.loops → is_round l k p ≡ true → IsClosing g l k p es →
      ((j : ℕ) → j < l.loops → nest.rank j < nest.rank k → Turn g l c n j) → Closed g l c k p (total (charged g l n c) es)
  close k [] p kl round closes turn = absurd closes
  close k (e ∷ es) p kl round closes turn = go closes.2 (λ r cl. close k es (g.target e) kl r cl turn)
    where
      in_u : l.inside k (g.source e) ≡ true
      in_u = subst (λ o. is_round l k o ≡ true) closes.1 round

      inner : is_round l k (g.target e) ≡ true → (j : ℕ) → j < l.loops → enters l j (g.source e) (g.target e) ≡ true → nest.rank j < nest.rank k
      inner in_v j jl en =
          let to : g.target e ≡ Some (l.header j) = entered-header e j closes.0 jl en in
          (nest.within e j k (l.header j) closes.0 jl kl to in_u (subst (λ o. is_round l k o ≡ true) to in_v) (nest.ways.holds_header j jl)
          (not_true (l.inside j (g.source e)) (and_left (not (l.inside j (g.source e))) (is_round l j (g.target e)) en))).0

      go : (((is_back g l k e ≡ true) × (es ≡ [])) ⊎ (IsPlain g l e × (is_round l k (g.target e) ≡ true) × IsClosing g l k (g.target e) es)) →
          (is_round l k (g.target e) ≡ true → IsClosing g l k (g.target e) es → Closed g l c k (g.target e) (total (charged g l n c) es)) →
          Closed g l c k p (charged g l n c e + total (charged g l n c) es)
      go (inl last) ih = subst (λ xs. Closed g l c k p (charged g l n c e + total (charged g l n c) xs)) (sym last.1) (close_last e k p closes.0 kl closes.1 last.0)
      go (inr more) ih = close_more e k (total (charged g l n c) es) p closes.0 kl closes.1 more.0 in_u more.1
          (fill e closes.0 more.0 (λ j jl en. turn j jl (inner more.1 j jl en))) (ih more.1 more.2)

  -- each loop has a turn of the greatest cost
  pub turns_below : (nums : AreLoopNumbers g l c n) (m k : ℕ) → k < l.loops → nest.rank k < m → Turn g l c n k
  turns_below nums zero k kl low = let bad : ⊥ = omega arith in absurd bad
  turns_below nums (suc m) k kl low =
      let best : IsGreatest (IsClosing g l k (Some (l.header k))) (total (charged g l n c)) (n.iteration k) = nums.iteration k kl in
      let done : Closed g l c k (Some (l.header k)) (total (charged g l n c) best.reached.0) =
      close k best.reached.0 (Some (l.header k)) kl (nest.ways.holds_header k kl) best.reached.1
      (λ j jl less. turns_below nums m j jl (omega arith)) in
      record {
        es = done.es;
        walk = done.walk;
        ends = done.ends;
        costs = done.costs ∙ best.reached.2;
        stays = done.stays;
        bounded = done.bounded;
        counted = done.counted;
      }

  pub turn_of : AreLoopNumbers g l c n → (k : ℕ) → k < l.loops → Turn g l c n k
  turn_of nums k kl = turns_below nums (suc (nest.rank k)) k kl (omega arith)

  -- a plain path, filled with all turns of the loops that it enters
  pub fill_path : AreLoopNumbers g l c n → (es : List ℕ) (p : Option ℕ) → IsPlainPath g l p es →
      (xs : List ℕ) × IsWalk g p xs × (total c xs ≡ total (charged g l n c) es) × ((counts : ℕ → ℕ) → AreWithin l counts → IsBounded g l counts xs)
  fill_path nums [] p path = ([], tt, refl, λ counts within. tt)
  fill_path nums (e ∷ es) p path = join (fill e path.0 path.2 (λ j jl en. turn_of nums j jl)) (fill_path nums es (g.target e) path.3)
    where
      join : Filled g l c n e →
          ((xs : List ℕ) × IsWalk g (g.target e) xs × (total c xs ≡ total (charged g l n c) es) × ((counts : ℕ → ℕ) → AreWithin l counts → IsBounded g l counts xs)) →
          (xs : List ℕ) × IsWalk g p xs × (total c xs ≡ charged g l n c e + total (charged g l n c) es) × ((counts : ℕ → ℕ) → AreWithin l counts → IsBounded g l counts xs)
      join f rest = (
        f.es ++ rest.0,
        subst (λ o. IsWalk g o (f.es ++ rest.0)) (sym path.1) (walk-append g l f.es rest.0 (Some (g.source e)) f.walk (subst (λ o. IsWalk g o rest.0) (sym f.ends) rest.1)),
        total-append c f.es rest.0 ∙ ap₂ (λ x y. x + y) f.costs rest.2,
        λ counts within. bounded-append g l f.es rest.0 counts (f.bounded counts within)
            (rest.3 (counts_along g l counts f.es) (within_along g l f.es counts within (f.bounded counts within))),
      )
