-- A plain path and an iteration, filled with all turns of the loops that they enter: bounded walks, and what they cost.
use Rattle.std.proofs.Common.{◌≡◌, ◌≢◌, ℕ, zero, suc, ◌+◌, ◌*◌, ◌<◌, ◌≤◌, Bool, true, false, cond, not, ◌⊎◌, inl, inr, List, [], ◌∷◌, ◌++◌, Option, Some, None, is_some, refl, sym, ap, ap₂, ◌∙◌, subst, arith, eq-eqb, ⊎_elim}
use Rattle.cost_theory.specs.Graph.{Graph, Loops, IsWalk, end_of, total, sum_below, only, is_round, is_header, is_back, enters, IsPlain, IsPlainPath, IsClosing, count_step, AreWithin, IsBounded, find_below, or_else}
use Rattle.cost_theory.specs.Worst.{Numbers, charged, IsBoundedWalk}
use Rattle.cost_theory.proofs.Laws.{AreNested, sum-one, sum-none, and_left, and_right, only_true, only_false, not_true, find-holds, find-some, term-le-sum, count_same, count_anew, entered-header, charged_entering, leads_to_header}
use Rattle.walk_laws.proofs.Joined.{counts_along, StaysIn, walk-append, end_of-append, counts-append, bounded-append, stays-append, within_along, counts_outside, stays-within, count_back, times, total-times, stays-times, total-append, plain_within, plain_away, back_within}

-- numbers of which only the cost of a turn is meant
abbrev pub turn_numbers : (ℕ → List ℕ) → (ℕ → ℕ) → Numbers
turn_numbers turn c = record { worst = λ f. 0; iteration = λ k. total c (turn k); plain = λ v. 0; closing = λ k v. None; left = λ v. 0; context = λ f. 0 }

abbrev pub no_numbers : Numbers
no_numbers = record { worst = λ f. 0; iteration = λ k. 0; plain = λ v. 0; closing = λ k v. None; left = λ v. 0; context = λ f. 0 }

-- what an edge costs with the turns of these walks
abbrev pub filled_cost : Graph → Loops → (ℕ → List ℕ) → (ℕ → ℕ) → ℕ → ℕ
filled_cost g l turn c e = charged g l (turn_numbers turn c) c e

abbrev pub turns_of : Loops → (ℕ → List ℕ) → Option ℕ → List ℕ
turns_of l turn None = []
turns_of l turn (Some k) = times (l.bound k) (turn k)

-- the loop that an edge enters
abbrev pub entered : Graph → Loops → ℕ → Option ℕ
entered g l e = find_below l.loops (λ k. enters l k (g.source e) (g.target e))

abbrev pub filled : Graph → Loops → (ℕ → List ℕ) → List ℕ → List ℕ
filled g l turn [] = []
filled g l turn (e ∷ es) = (e ∷ turns_of l turn (entered g l e)) ++ filled g l turn es

pub find-none : (n : ℕ) (p : ℕ → Bool) → ((k : ℕ) → k < n → p k ≡ false) → find_below n p ≡ None
find-none zero p h = refl
find-none (suc n) p h =
    ap (λ o. or_else o (cond (p n) (Some n) None)) (find-none n p (λ k kl. h k (omega arith))) ∙ ap (λ b. cond b (Some n) None) (h n (omega arith))

pub found-none : (n : ℕ) (p : ℕ → Bool) → find_below n p ≡ None → (k : ℕ) → k < n → p k ≡ false
found-none n p is k kl = go (p k) refl
  where
    go : (b : Bool) → p k ≡ b → b ≡ false
    go false at = refl
    go true at =
        let a : is_some (find_below n p) ≡ true = find-some n p k kl at in
        let c : false ≡ true = subst (λ (o : Option ℕ). is_some o ≡ true) is a in
        let bad : ⊥ = cc in absurd bad

pub total-none : (es : List ℕ) → total (λ e. 0) es ≡ 0
total-none [] = refl
total-none (e ∷ es) = let ih : total (λ e. 0) es ≡ 0 = total-none es in omega arith

pub total-same : (c c' : ℕ → ℕ) → ((e : ℕ) → c e ≡ c' e) → (es : List ℕ) → total c es ≡ total c' es
total-same c c' h [] = refl
total-same c c' h (e ∷ es) = ap₂ (λ x y. x + y) (h e) (total-same c c' h es)

-- a bounded walk round loop k once
pub record IsTurn (g : Graph) (l : Loops) (k : ℕ) (es : List ℕ) : Type 0 where
  pub walk : IsWalk g (Some (l.header k)) es
  pub ends : end_of g (Some (l.header k)) es ≡ Some (l.header k)
  pub stays : StaysIn g l k es
  pub bounded : (counts : ℕ → ℕ) → AreWithin l counts → counts k + 1 ≤ l.bound k → IsBounded g l counts es
  pub counted : (counts : ℕ → ℕ) → counts_along g l counts es k ≡ counts k + 1

-- a bounded walk over an edge, and on round the loop that it enters
pub record IsFilled (g : Graph) (l : Loops) (e : ℕ) (es : List ℕ) : Type 0 where
  pub walk : IsWalk g (Some (g.source e)) es
  pub ends : end_of g (Some (g.source e)) es ≡ g.target e
  pub bounded : (counts : ℕ → ℕ) → AreWithin l counts → IsBounded g l counts es
  pub stays : (k : ℕ) → k < l.loops → l.inside k (g.source e) ≡ true → is_round l k (g.target e) ≡ true → StaysIn g l k es
  pub same : (k : ℕ) (counts : ℕ → ℕ) → k < l.loops → l.inside k (g.source e) ≡ true → is_round l k (g.target e) ≡ true →
      counts_along g l counts es k ≡ counts k

-- a bounded walk from a place in loop k to its header, by one back edge of k
pub record IsClosed (g : Graph) (l : Loops) (k : ℕ) (p : Option ℕ) (es : List ℕ) : Type 0 where
  pub walk : IsWalk g p es
  pub ends : end_of g p es ≡ Some (l.header k)
  pub stays : StaysIn g l k es
  pub bounded : (counts : ℕ → ℕ) → AreWithin l counts → counts k + 1 ≤ l.bound k → IsBounded g l counts es
  pub counted : (counts : ℕ → ℕ) → counts_along g l counts es k ≡ counts k + 1

module _ (g : Graph) (l : Loops) (nest : AreNested g l) where
  abbrev free : ℕ → ℕ
  free e = 0

  turns_walk : (k m : ℕ) (es : List ℕ) → IsTurn g l k es → IsWalk g (Some (l.header k)) (times m es)
  turns_walk k zero es t = tt
  turns_walk k (suc m) es t = walk-append g l es (times m es) (Some (l.header k)) t.walk (subst (λ p. IsWalk g p (times m es)) (sym t.ends) (turns_walk k m es t))

  turns_end : (k m : ℕ) (es : List ℕ) → IsTurn g l k es → end_of g (Some (l.header k)) (times m es) ≡ Some (l.header k)
  turns_end k zero es t = refl
  turns_end k (suc m) es t = end_of-append g l es (times m es) (Some (l.header k)) ∙ ap (λ p. end_of g p (times m es)) t.ends ∙ turns_end k m es t

  turns_bounded : (k m : ℕ) (es : List ℕ) → IsTurn g l k es → (counts : ℕ → ℕ) → AreWithin l counts → counts k + m ≤ l.bound k → IsBounded g l counts (times m es)
  turns_bounded k zero es t counts within room = tt
  turns_bounded k (suc m) es t counts within room =
      let one : IsBounded g l counts es = t.bounded counts within (omega arith) in
      let now : counts_along g l counts es k ≡ counts k + 1 = t.counted counts in
      bounded-append g l es (times m es) counts one
      (turns_bounded k m es t (counts_along g l counts es) (within_along g l es counts within one) (omega arith))

  fill_none : (e : ℕ) → e < g.edges → IsPlain g l e → IsFilled g l e (e ∷ [])
  fill_none e lt plain = record {
    walk = (lt, refl, tt);
    ends = refl;
    bounded = (λ counts within. (plain_within g l nest e counts plain within, tt));
    stays = (λ k kl in_u in_v. (in_v, tt));
    same = (λ k counts kl in_u in_v. count_same g l k (Some (g.source e)) (g.target e) counts (plain_away g l nest e k plain kl in_u));
  }

  fill_some : (e j : ℕ) (es : List ℕ) → e < g.edges → IsPlain g l e → j < l.loops → enters l j (g.source e) (g.target e) ≡ true → IsTurn g l j es →
      IsFilled g l e (e ∷ times (l.bound j) es)
  fill_some e j es lt plain jl en t = record {
    walk = (lt, refl, subst (λ p. IsWalk g p (times (l.bound j) es)) (sym to) (turns_walk j (l.bound j) es t));
    ends = ap (λ p. end_of g p (times (l.bound j) es)) to ∙ turns_end j (l.bound j) es t ∙ sym to;
    bounded = (λ counts within. (
      plain_within g l nest e counts plain within,
      turns_bounded j (l.bound j) es t (count_step l (Some (g.source e)) (g.target e) counts) (plain_within g l nest e counts plain within) (
          let z : count_step l (Some (g.source e)) (g.target e) counts j ≡ 0 = count_anew g l j (Some (g.source e)) (g.target e) counts at_header out in
          omega arith),
    ));
    stays = (λ k kl in_u in_v. (in_v, stays-times g l k (l.bound j) es (stays-within g l j k es (inner k kl in_u in_v).2 t.stays)));
    same = (λ k counts kl in_u in_v.
        counts_outside g l k j (times (l.bound j) es) (count_step l (Some (g.source e)) (g.target e) counts) (stays-times g l j (l.bound j) es t.stays) (inner k kl in_u in_v).1 ∙
        count_same g l k (Some (g.source e)) (g.target e) counts (plain_away g l nest e k plain kl in_u));
  }
    where
      to : g.target e ≡ Some (l.header j)
      to = entered-header g l free no_numbers nest e j lt jl en

      at_header : is_header l j (g.target e) ≡ true
      at_header = subst (λ o. is_header l j o ≡ true) (sym to) (eq-eqb (l.header j) (l.header j) refl)

      out : l.inside j (g.source e) ≡ false
      out = not_true (l.inside j (g.source e)) (and_left (not (l.inside j (g.source e))) (is_round l j (g.target e)) en)

      inner : (k : ℕ) → k < l.loops → l.inside k (g.source e) ≡ true → is_round l k (g.target e) ≡ true →
          (nest.rank j < nest.rank k) × (l.inside j (l.header k) ≡ false) × ((u : ℕ) → l.inside j u ≡ true → l.inside k u ≡ true)
      inner k kl in_u in_v = nest.within e j k (l.header j) lt jl kl to in_u (subst (λ o. is_round l k o ≡ true) to in_v) (nest.ways.holds_header j jl) out

  fill : (turn : ℕ → List ℕ) (e : ℕ) → e < g.edges → IsPlain g l e →
      ((j : ℕ) → j < l.loops → enters l j (g.source e) (g.target e) ≡ true → IsTurn g l j (turn j)) → IsFilled g l e (e ∷ turns_of l turn (entered g l e))
  fill turn e lt plain ok = go (entered g l e) refl
    where
      go : (o : Option ℕ) → entered g l e ≡ o → IsFilled g l e (e ∷ turns_of l turn o)
      go None is = fill_none e lt plain
      go (Some j) is =
          let found : (j < l.loops) × (enters l j (g.source e) (g.target e) ≡ true) = find-holds l.loops (λ k. enters l k (g.source e) (g.target e)) j is in
          fill_some e j (turn j) lt plain found.0 found.1 (ok j found.0 found.1)

  -- what an edge costs with the turns behind it
  edge_cost : (turn : ℕ → List ℕ) (c : ℕ → ℕ) (e : ℕ) → e < g.edges → total c (e ∷ turns_of l turn (entered g l e)) ≡ filled_cost g l turn c e
  edge_cost turn c e lt = go (entered g l e) refl
    where
      go : (o : Option ℕ) → entered g l e ≡ o → c e + total c (turns_of l turn o) ≡ filled_cost g l turn c e
      go None is =
          let z : sum_below l.loops (λ k. only (enters l k (g.source e) (g.target e)) (l.bound k * total c (turn k))) ≡ 0 =
          sum-none l.loops (λ k. only (enters l k (g.source e) (g.target e)) (l.bound k * total c (turn k)))
          (λ k kl. only_false (enters l k (g.source e) (g.target e)) (l.bound k * total c (turn k)) (found-none l.loops (λ k. enters l k (g.source e) (g.target e)) is k kl)) in
          omega arith
      go (Some j) is =
          let found : (j < l.loops) × (enters l j (g.source e) (g.target e) ≡ true) = find-holds l.loops (λ k. enters l k (g.source e) (g.target e)) j is in
          let all : total c (times (l.bound j) (turn j)) ≡ l.bound j * total c (turn j) = total-times c (l.bound j) (turn j) in
          let ch : filled_cost g l turn c e ≡ c e + l.bound j * total c (turn j) = charged_entering g l c (turn_numbers turn c) nest e j lt found.0 found.1 in
          omega arith

  -- a back edge enters no loop
  back_enters : (e k : ℕ) → e < g.edges → k < l.loops → is_back g l k e ≡ true → (j : ℕ) → j < l.loops → enters l j (g.source e) (g.target e) ≡ false
  back_enters e k lt kl back j jl = go (enters l j (g.source e) (g.target e)) refl
    where
      go : (b : Bool) → enters l j (g.source e) (g.target e) ≡ b → b ≡ false
      go false is = refl
      go true is =
          let same : Some (l.header j) ≡ Some (l.header k) = sym (entered-header g l free no_numbers nest e j lt jl is) ∙ leads_to_header g l e k back in
          let heads : l.header j ≡ l.header k = cc in
          let eq : j ≡ k = nest.distinct j k jl kl heads in
          let out : l.inside j (g.source e) ≡ false = not_true (l.inside j (g.source e)) (and_left (not (l.inside j (g.source e))) (is_round l j (g.target e)) is) in
          let in_k : l.inside k (g.source e) ≡ true = and_left (l.inside k (g.source e)) (is_header l k (g.target e)) back in
          let in_j : l.inside j (g.source e) ≡ true = subst (λ i. l.inside i (g.source e) ≡ true) (sym eq) in_k in
          let bad : ⊥ = cc in absurd bad

  close_last : (e k : ℕ) (p : Option ℕ) → e < g.edges → k < l.loops → p ≡ Some (g.source e) → is_back g l k e ≡ true → IsClosed g l k p (e ∷ [])
  close_last e k p lt kl at back = record {
    walk = (lt, at, tt);
    ends = leads_to_header g l e k back;
    stays = (subst (λ o. is_round l k o ≡ true) (sym (leads_to_header g l e k back)) (nest.ways.holds_header k kl), tt);
    bounded = (λ counts within room. (back_within g l nest e k counts kl back within room, tt));
    counted = (λ counts. count_back g l k (Some (g.source e)) (g.target e) counts
        (and_right (l.inside k (g.source e)) (is_header l k (g.target e)) back)
        (and_left (l.inside k (g.source e)) (is_header l k (g.target e)) back));
  }

  close_more : (e k : ℕ) (p : Option ℕ) (xs ys : List ℕ) → e < g.edges → k < l.loops → p ≡ Some (g.source e) →
      l.inside k (g.source e) ≡ true → is_round l k (g.target e) ≡ true →
      IsFilled g l e xs → IsClosed g l k (g.target e) ys → IsClosed g l k p (xs ++ ys)
  close_more e k p xs ys lt kl at in_u in_v f rest = record {
    walk = subst (λ o. IsWalk g o (xs ++ ys)) (sym at)
        (walk-append g l xs ys (Some (g.source e)) f.walk (subst (λ o. IsWalk g o ys) (sym f.ends) rest.walk));
    ends = ap (λ o. end_of g o (xs ++ ys)) at ∙ end_of-append g l xs ys (Some (g.source e)) ∙ ap (λ o. end_of g o ys) f.ends ∙ rest.ends;
    stays = stays-append g l k xs ys (f.stays k kl in_u in_v) rest.stays;
    bounded = (λ counts within room.
        bounded-append g l xs ys counts (f.bounded counts within)
        (rest.bounded (counts_along g l counts xs) (within_along g l xs counts within (f.bounded counts within))
        (subst (λ x. x + 1 ≤ l.bound k) (sym (f.same k counts kl in_u in_v)) room)));
    counted = (λ counts. ap (λ f. f k) (counts-append g l xs ys counts) ∙ rest.counted (counts_along g l counts xs) ∙ ap (λ x. x + 1) (f.same k counts kl in_u in_v));
  }

  -- a loop that is entered within another is of a lower rank
  lower : (e k j : ℕ) → e < g.edges → k < l.loops → l.inside k (g.source e) ≡ true → is_round l k (g.target e) ≡ true →
      j < l.loops → enters l j (g.source e) (g.target e) ≡ true → nest.rank j < nest.rank k
  lower e k j lt kl in_u in_v jl en =
      let to : g.target e ≡ Some (l.header j) = entered-header g l free no_numbers nest e j lt jl en in
      (nest.within e j k (l.header j) lt jl kl to in_u (subst (λ o. is_round l k o ≡ true) to in_v) (nest.ways.holds_header j jl)
      (not_true (l.inside j (g.source e)) (and_left (not (l.inside j (g.source e))) (is_round l j (g.target e)) en))).0

  -- an iteration, filled
  close : (turn : ℕ → List ℕ) (k : ℕ) (es : List ℕ) (p : Option ℕ) → k < l.loops → is_round l k p ≡ true → IsClosing g l k p es →
      ((j : ℕ) → j < l.loops → nest.rank j < nest.rank k → IsTurn g l j (turn j)) → IsClosed g l k p (filled g l turn es)
  close turn k [] p kl round closes ok = absurd closes
  close turn k (e ∷ es) p kl round closes ok = go closes.2 (λ r cl. close turn k es (g.target e) kl r cl ok)
    where
      in_u : l.inside k (g.source e) ≡ true
      in_u = subst (λ o. is_round l k o ≡ true) closes.1 round

      go : (((is_back g l k e ≡ true) × (es ≡ [])) ⊎ (IsPlain g l e × (is_round l k (g.target e) ≡ true) × IsClosing g l k (g.target e) es)) →
          (is_round l k (g.target e) ≡ true → IsClosing g l k (g.target e) es → IsClosed g l k (g.target e) (filled g l turn es)) →
          IsClosed g l k p (filled g l turn (e ∷ es))
      go (inl last) ih =
          let none : entered g l e ≡ None = find-none l.loops (λ j. enters l j (g.source e) (g.target e)) (back_enters e k closes.0 kl last.0) in
          subst (λ xs. IsClosed g l k p (filled g l turn (e ∷ xs))) (sym last.1)
          (subst (λ o. IsClosed g l k p ((e ∷ turns_of l turn o) ++ [])) (sym none) (close_last e k p closes.0 kl closes.1 last.0))
      go (inr more) ih = close_more e k p (e ∷ turns_of l turn (entered g l e)) (filled g l turn es) closes.0 kl closes.1 in_u more.1
          (fill turn e closes.0 more.0 (λ j jl en. ok j jl (lower e k j closes.0 kl in_u more.1 jl en))) (ih more.1 more.2)

  -- and what it costs
  close_cost : (turn : ℕ → List ℕ) (c : ℕ → ℕ) (k : ℕ) (es : List ℕ) (p : Option ℕ) → IsClosing g l k p es → total c (filled g l turn es) ≡ total (filled_cost g l turn c) es
  close_cost turn c k [] p closes = refl
  close_cost turn c k (e ∷ es) p closes =
      total-append c (e ∷ turns_of l turn (entered g l e)) (filled g l turn es) ∙
      ap₂ (λ x y. x + y) (edge_cost turn c e closes.0) (go closes.2 (λ cl. close_cost turn c k es (g.target e) cl))
    where
      go : (((is_back g l k e ≡ true) × (es ≡ [])) ⊎ (IsPlain g l e × (is_round l k (g.target e) ≡ true) × IsClosing g l k (g.target e) es)) →
          (IsClosing g l k (g.target e) es → total c (filled g l turn es) ≡ total (filled_cost g l turn c) es) →
          total c (filled g l turn es) ≡ total (filled_cost g l turn c) es
      go (inl last) ih = subst (λ xs. total c (filled g l turn xs) ≡ total (filled_cost g l turn c) xs) (sym last.1) refl
      go (inr more) ih = ih more.2

  -- TABLES OF TURNS

  abbrev pub turn_at : (ℕ → List ℕ) → ℕ → ℕ → List ℕ
  turn_at part zero k = []
  turn_at part (suc m) k = filled g l (turn_at part m) (part k)

  same_turns : (turn turn' : ℕ → List ℕ) (e : ℕ) → ((j : ℕ) → j < l.loops → enters l j (g.source e) (g.target e) ≡ true → turn j ≡ turn' j) →
      turns_of l turn (entered g l e) ≡ turns_of l turn' (entered g l e)
  same_turns turn turn' e same = go (entered g l e) refl
    where
      go : (o : Option ℕ) → entered g l e ≡ o → turns_of l turn o ≡ turns_of l turn' o
      go None is = refl
      go (Some j) is =
          let found : (j < l.loops) × (enters l j (g.source e) (g.target e) ≡ true) = find-holds l.loops (λ k. enters l k (g.source e) (g.target e)) j is in
          ap (times (l.bound j)) (same j found.0 found.1)

  same_filled : (turn turn' : ℕ → List ℕ) (k : ℕ) (es : List ℕ) (p : Option ℕ) → k < l.loops → is_round l k p ≡ true → IsClosing g l k p es →
      ((j : ℕ) → j < l.loops → nest.rank j < nest.rank k → turn j ≡ turn' j) → filled g l turn es ≡ filled g l turn' es
  same_filled turn turn' k [] p kl round closes same = refl
  same_filled turn turn' k (e ∷ es) p kl round closes same =
      ap₂ (λ xs ys. (e ∷ xs) ++ ys) (same_turns turn turn' e (λ j jl en. same j jl (lower e k j closes.0 kl in_u in_v jl en))) (go closes.2 (λ r cl. same_filled turn turn' k es (g.target e) kl r cl same))
    where
      in_u : l.inside k (g.source e) ≡ true
      in_u = subst (λ o. is_round l k o ≡ true) closes.1 round

      in_v : is_round l k (g.target e) ≡ true
      in_v = ⊎_elim
          (λ (last : (is_back g l k e ≡ true) × (es ≡ [])). subst (λ o. is_round l k o ≡ true) (sym (leads_to_header g l e k last.0)) (nest.ways.holds_header k kl))
          (λ (more : IsPlain g l e × (is_round l k (g.target e) ≡ true) × IsClosing g l k (g.target e) es). more.1)
          closes.2

      go : (((is_back g l k e ≡ true) × (es ≡ [])) ⊎ (IsPlain g l e × (is_round l k (g.target e) ≡ true) × IsClosing g l k (g.target e) es)) →
          (is_round l k (g.target e) ≡ true → IsClosing g l k (g.target e) es → filled g l turn es ≡ filled g l turn' es) →
          filled g l turn es ≡ filled g l turn' es
      go (inl last) ih = subst (λ xs. filled g l turn xs ≡ filled g l turn' xs) (sym last.1) refl
      go (inr more) ih = ih more.1 more.2

  module _ (part : ℕ → List ℕ) (parts : (k : ℕ) → k < l.loops → IsClosing g l k (Some (l.header k)) (part k)) where
    stable : (m k : ℕ) → k < l.loops → nest.rank k < m → turn_at part (suc m) k ≡ turn_at part m k
    stable zero k kl low = let bad : ⊥ = omega arith in absurd bad
    stable (suc m) k kl low = same_filled (turn_at part (suc m)) (turn_at part m) k (part k) (Some (l.header k)) kl (nest.ways.holds_header k kl) (parts k kl)
        (λ j jl less. stable m j jl (omega arith))

    -- the turns of all loops
    pub turns_exist : (turn : ℕ → List ℕ) × ((k : ℕ) → k < l.loops → turn k ≡ filled g l turn (part k))
    turns_exist = (
      turn_at part (suc (sum_below l.loops nest.rank)),
      λ k kl. sym (stable (suc (sum_below l.loops nest.rank)) k kl (let at : nest.rank k ≤ sum_below l.loops nest.rank = term-le-sum l.loops nest.rank k kl in omega arith)),
    )

    module _ (turn : ℕ → List ℕ) (are : (k : ℕ) → k < l.loops → turn k ≡ filled g l turn (part k)) where
      turns_below : (m k : ℕ) → k < l.loops → nest.rank k < m → IsTurn g l k (turn k)
      turns_below zero k kl low = let bad : ⊥ = omega arith in absurd bad
      turns_below (suc m) k kl low =
          let done : IsClosed g l k (Some (l.header k)) (filled g l turn (part k)) =
          close turn k (part k) (Some (l.header k)) kl (nest.ways.holds_header k kl) (parts k kl) (λ j jl less. turns_below m j jl (omega arith)) in
          subst (IsTurn g l k) (sym (are k kl)) (record { walk = done.walk; ends = done.ends; stays = done.stays; bounded = done.bounded; counted = done.counted })

      pub turns_are : (k : ℕ) → k < l.loops → IsTurn g l k (turn k)
      turns_are k kl = turns_below (suc (nest.rank k)) k kl (omega arith)

      pub turn_cost : (c : ℕ → ℕ) (k : ℕ) → k < l.loops → total c (turn k) ≡ total (filled_cost g l turn c) (part k)
      turn_cost c k kl = ap (total c) (are k kl) ∙ close_cost turn c k (part k) (Some (l.header k)) (parts k kl)

      -- a plain path, filled with all turns of the loops that it enters
      path_filled : (es : List ℕ) (p : Option ℕ) → IsPlainPath g l p es →
          IsWalk g p (filled g l turn es) × ((counts : ℕ → ℕ) → AreWithin l counts → IsBounded g l counts (filled g l turn es))
      path_filled [] p path = (tt, λ counts within. tt)
      path_filled (e ∷ es) p path = join (fill turn e path.0 path.2 (λ j jl en. turns_are j jl)) (path_filled es (g.target e) path.3)
        where
          join : IsFilled g l e (e ∷ turns_of l turn (entered g l e)) →
              IsWalk g (g.target e) (filled g l turn es) × ((counts : ℕ → ℕ) → AreWithin l counts → IsBounded g l counts (filled g l turn es)) →
              IsWalk g p (filled g l turn (e ∷ es)) × ((counts : ℕ → ℕ) → AreWithin l counts → IsBounded g l counts (filled g l turn (e ∷ es)))
          join f rest = (
            subst (λ o. IsWalk g o (filled g l turn (e ∷ es))) (sym path.1)
                (walk-append g l (e ∷ turns_of l turn (entered g l e)) (filled g l turn es) (Some (g.source e)) f.walk (subst (λ o. IsWalk g o (filled g l turn es)) (sym f.ends) rest.0)),
            λ counts within. bounded-append g l (e ∷ turns_of l turn (entered g l e)) (filled g l turn es) counts (f.bounded counts within)
                (rest.1 (counts_along g l counts (e ∷ turns_of l turn (entered g l e)))
                (within_along g l (e ∷ turns_of l turn (entered g l e)) counts within (f.bounded counts within))),
          )

      path_cost : (c : ℕ → ℕ) (es : List ℕ) (p : Option ℕ) → IsPlainPath g l p es → total c (filled g l turn es) ≡ total (filled_cost g l turn c) es
      path_cost c [] p path = refl
      path_cost c (e ∷ es) p path =
          total-append c (e ∷ turns_of l turn (entered g l e)) (filled g l turn es) ∙ ap₂ (λ x y. x + y) (edge_cost turn c e path.0) (path_cost c es (g.target e) path.3)

      -- FROM AN ENTRY

      -- the loop in which a node is
      abbrev pub begun : ℕ → Option ℕ
      begun v = find_below l.loops (λ k. l.inside k v)

      abbrev pub from_entry : ℕ → List ℕ → List ℕ
      from_entry v es = turns_of l turn (begun v) ++ filled g l turn es

      module _ (v : ℕ) (at : (k : ℕ) → k < l.loops → l.inside k v ≡ true → v ≡ l.header k) (es : List ℕ) (path : IsPlainPath g l (Some v) es) where
        fresh : AreWithin l (λ k. 0)
        fresh k kl = omega arith

        pub entry_walk : IsBoundedWalk g l v (from_entry v es)
        entry_walk = go (begun v) refl
          where
            go : (o : Option ℕ) → begun v ≡ o → IsBoundedWalk g l v (turns_of l turn o ++ filled g l turn es)
            go None is = ((path_filled es (Some v) path).0, (path_filled es (Some v) path).1 (λ k. 0) fresh)
            go (Some k) is =
                let found : (k < l.loops) × (l.inside k v ≡ true) = find-holds l.loops (λ k. l.inside k v) k is in
                let head : v ≡ l.header k = at k found.0 found.1 in
                let t : IsTurn g l k (turn k) = turns_are k found.0 in
                let round : IsWalk g (Some v) (times (l.bound k) (turn k)) = subst (λ u. IsWalk g (Some u) (times (l.bound k) (turn k))) (sym head) (turns_walk k (l.bound k) (turn k) t) in
                let ends : end_of g (Some v) (times (l.bound k) (turn k)) ≡ Some v = subst (λ u. end_of g (Some u) (times (l.bound k) (turn k)) ≡ Some u) (sym head) (turns_end k (l.bound k) (turn k) t) in
                let bounded : IsBounded g l (λ k. 0) (times (l.bound k) (turn k)) = turns_bounded k (l.bound k) (turn k) t (λ k. 0) fresh (omega arith) in (
                  walk-append g l (times (l.bound k) (turn k)) (filled g l turn es) (Some v) round (subst (λ o. IsWalk g o (filled g l turn es)) (sym ends) (path_filled es (Some v) path).0),
                  bounded-append g l (times (l.bound k) (turn k)) (filled g l turn es) (λ k. 0) bounded
                      ((path_filled es (Some v) path).1 (counts_along g l (λ k. 0) (times (l.bound k) (turn k))) (within_along g l (times (l.bound k) (turn k)) (λ k. 0) fresh bounded)),
                )

        pub entry_cost : (c : ℕ → ℕ) → total c (from_entry v es) ≡
            sum_below l.loops (λ k. only (l.inside k v) (l.bound k * total c (turn k))) + total (filled_cost g l turn c) es
        entry_cost c = total-append c (turns_of l turn (begun v)) (filled g l turn es) ∙ ap₂ (λ x y. x + y) (go (begun v) refl) (path_cost c es (Some v) path)
          where
            other : (k : ℕ) → k < l.loops → l.inside k v ≡ true → (j : ℕ) → j < l.loops → j ≢ k → (b : Bool) → l.inside j v ≡ b → only b (l.bound j * total c (turn j)) ≡ 0
            other k kl in_k j jl ne false is = refl
            other k kl in_k j jl ne true is = absurd (ne (nest.distinct j k jl kl (sym (at j jl is) ∙ at k kl in_k)))

            go : (o : Option ℕ) → begun v ≡ o → total c (turns_of l turn o) ≡ sum_below l.loops (λ k. only (l.inside k v) (l.bound k * total c (turn k)))
            go None is = sym (sum-none l.loops (λ k. only (l.inside k v) (l.bound k * total c (turn k)))
                (λ k kl. only_false (l.inside k v) (l.bound k * total c (turn k)) (found-none l.loops (λ k. l.inside k v) is k kl)))
            go (Some k) is =
                let found : (k < l.loops) × (l.inside k v ≡ true) = find-holds l.loops (λ k. l.inside k v) k is in
                total-times c (l.bound k) (turn k) ∙
                sym (sum-one l.loops (λ j. only (l.inside j v) (l.bound j * total c (turn j))) k found.0 (λ j jl ne. other k found.0 found.1 j jl ne (l.inside j v) refl) ∙
                only_true (l.inside k v) (l.bound k * total c (turn k)) found.1)
