-- Walks that are put together, and the counts along them.
use Rattle.std.proofs.Common.{◌≡◌, ℕ, zero, suc, ◌+◌, ◌*◌, ◌<◌, ◌≤◌, Bool, true, false, cond, ◌&&◌, nat_eq, List, [], ◌∷◌, ◌++◌, Option, Some, None, refl, ap, ◌∙◌, subst, arith, eqb-true, ne_eqb, le_trans, le_refl}
use Rattle.cost_theory.specs.Graph.{Graph, Loops, IsWalk, end_of, total, sum_below, is_round, is_header, is_back, IsPlain, count_step, AreWithin, IsBounded}
use Rattle.cost_theory.proofs.Laws.{AreNested, count_same, leads_to_header}

-- the counts behind a walk
abbrev pub counts_along : Graph → Loops → (ℕ → ℕ) → List ℕ → ℕ → ℕ
counts_along g l counts [] = counts
counts_along g l counts (e ∷ es) = counts_along g l (count_step l (Some (g.source e)) (g.target e) counts) es

-- every edge leads to a node of loop k
abbrev pub StaysIn : Graph → Loops → ℕ → List ℕ → Type 0
StaysIn g l k [] = Unit {0}
StaysIn g l k (e ∷ es) = (is_round l k (g.target e) ≡ true) × StaysIn g l k es

-- sums over walks that are put together, and of two terms
pub total-append : (c : ℕ → ℕ) (xs ys : List ℕ) → total c (xs ++ ys) ≡ total c xs + total c ys
total-append c [] ys = omega arith
total-append c (x ∷ xs) ys = let ih : total c (xs ++ ys) ≡ total c xs + total c ys = total-append c xs ys in omega arith

pub sum-add : (n : ℕ) (f g : ℕ → ℕ) → sum_below n (λ k. f k + g k) ≡ sum_below n f + sum_below n g
sum-add zero f g = refl
sum-add (suc n) f g = let ih : sum_below n (λ k. f k + g k) ≡ sum_below n f + sum_below n g = sum-add n f g in omega arith

module _ (g : Graph) (l : Loops) where
  pub walk-append : (xs ys : List ℕ) (p : Option ℕ) → IsWalk g p xs → IsWalk g (end_of g p xs) ys → IsWalk g p (xs ++ ys)
  walk-append [] ys p one two = two
  walk-append (x ∷ xs) ys p one two = (one.0, one.1, walk-append xs ys (g.target x) one.2 two)

  pub end_of-append : (xs ys : List ℕ) (p : Option ℕ) → end_of g p (xs ++ ys) ≡ end_of g (end_of g p xs) ys
  end_of-append [] ys p = refl
  end_of-append (x ∷ xs) ys p = end_of-append xs ys (g.target x)

  pub counts-append : (xs ys : List ℕ) (counts : ℕ → ℕ) → counts_along g l counts (xs ++ ys) ≡ counts_along g l (counts_along g l counts xs) ys
  counts-append [] ys counts = refl
  counts-append (x ∷ xs) ys counts = counts-append xs ys (count_step l (Some (g.source x)) (g.target x) counts)

  pub bounded-append : (xs ys : List ℕ) (counts : ℕ → ℕ) → IsBounded g l counts xs → IsBounded g l (counts_along g l counts xs) ys → IsBounded g l counts (xs ++ ys)
  bounded-append [] ys counts one two = two
  bounded-append (x ∷ xs) ys counts one two = (one.0, bounded-append xs ys (count_step l (Some (g.source x)) (g.target x) counts) one.1 two)

  pub stays-append : (k : ℕ) (xs ys : List ℕ) → StaysIn g l k xs → StaysIn g l k ys → StaysIn g l k (xs ++ ys)
  stays-append k [] ys one two = two
  stays-append k (x ∷ xs) ys one two = (one.0, stays-append k xs ys one.1 two)

  pub within_along : (es : List ℕ) (counts : ℕ → ℕ) → AreWithin l counts → IsBounded g l counts es → AreWithin l (counts_along g l counts es)
  within_along [] counts within bounded = within
  within_along (e ∷ es) counts within bounded = within_along es (count_step l (Some (g.source e)) (g.target e) counts) bounded.0 bounded.1

  -- a node of loop k is no header that lies outside it
  pub header_out : (j k : ℕ) (to : Option ℕ) → is_round l k to ≡ true → l.inside k (l.header j) ≡ false → is_header l j to ≡ false
  header_out j k None round out = refl
  header_out j k (Some v) round out = ne_eqb v (l.header j) (λ e.
      let t : l.inside k (l.header j) ≡ true = subst (λ u. l.inside k u ≡ true) e round in
      let bad : ⊥ = cc in bad)

  pub counts_outside : (j k : ℕ) (es : List ℕ) (counts : ℕ → ℕ) → StaysIn g l k es → l.inside k (l.header j) ≡ false →
      counts_along g l counts es j ≡ counts j
  counts_outside j k [] counts stays out = refl
  counts_outside j k (e ∷ es) counts stays out =
      counts_outside j k es (count_step l (Some (g.source e)) (g.target e) counts) stays.1 out ∙
      count_same g l j (Some (g.source e)) (g.target e) counts (header_out j k (g.target e) stays.0 out)

  pub stays-within : (j k : ℕ) (es : List ℕ) → ((u : ℕ) → l.inside j u ≡ true → l.inside k u ≡ true) → StaysIn g l j es → StaysIn g l k es
  stays-within j k [] sub stays = tt
  stays-within j k (e ∷ es) sub stays = (round (g.target e) stays.0, stays-within j k es sub stays.1)
    where
      round : (o : Option ℕ) → is_round l j o ≡ true → is_round l k o ≡ true
      round None r = r
      round (Some v) r = sub v r

  -- a step from its body to its header counts
  pub count_back : (j : ℕ) (from to : Option ℕ) (counts : ℕ → ℕ) → is_header l j to ≡ true → is_round l j from ≡ true → count_step l from to counts j ≡ counts j + 1
  count_back j from to counts at in_u =
      ap (λ b. cond b (cond (is_round l j from) (counts j + 1) 0) (counts j)) at ∙ ap (λ b. cond b (counts j + 1) 0) in_u

-- a list m times over
abbrev pub times : ℕ → List ℕ → List ℕ
times zero es = []
times (suc m) es = es ++ times m es

pub total-times : (c : ℕ → ℕ) (m : ℕ) (es : List ℕ) → total c (times m es) ≡ m * total c es
total-times c zero es = omega arith
total-times c (suc m) es =
    let ih : total c (times m es) ≡ m * total c es = total-times c m es in
    let both : total c (es ++ times m es) ≡ total c es + total c (times m es) = total-append c es (times m es) in
    let g : total c (es ++ times m es) ≡ suc m * total c es = omega arith in g

pub stays-times : (g : Graph) (l : Loops) (k m : ℕ) (es : List ℕ) → StaysIn g l k es → StaysIn g l k (times m es)
stays-times g l k zero es stays = tt
stays-times g l k (suc m) es stays = stays-append g l k es (times m es) stays (stays-times g l k m es stays)

module _ (g : Graph) (l : Loops) (nest : AreNested g l) where
  -- a plain step leaves the counts within the bounds
  pub plain_within : (e : ℕ) (counts : ℕ → ℕ) → IsPlain g l e → AreWithin l counts → AreWithin l (count_step l (Some (g.source e)) (g.target e) counts)
  plain_within e counts plain within k kl = go (is_header l k (g.target e)) (l.inside k (g.source e)) (plain k kl) (within k kl)
    where
      go : (at in_u : Bool) → (in_u && at) ≡ false → counts k ≤ l.bound k → cond at (cond in_u (counts k + 1) 0) (counts k) ≤ l.bound k
      go true true p w = let bad : ⊥ = cc in absurd bad
      go true false p w = omega arith
      go false b p w = w

  -- a plain edge from within a loop does not lead to its header
  pub plain_away : (e k : ℕ) → IsPlain g l e → k < l.loops → l.inside k (g.source e) ≡ true → is_header l k (g.target e) ≡ false
  plain_away e k plain kl in_u = go (is_header l k (g.target e)) (l.inside k (g.source e)) (plain k kl) in_u
    where
      go : (at in_u : Bool) → (in_u && at) ≡ false → in_u ≡ true → at ≡ false
      go at true p q = p
      go at false p q = let bad : ⊥ = cc in absurd bad

  pub back_within : (e k : ℕ) (counts : ℕ → ℕ) → k < l.loops → is_back g l k e ≡ true → AreWithin l counts → counts k + 1 ≤ l.bound k →
      AreWithin l (count_step l (Some (g.source e)) (g.target e) counts)
  back_within e k counts kl back within room i il = go (is_header l i (g.target e)) refl
    where
      go : (b : Bool) → is_header l i (g.target e) ≡ b → cond b (cond (l.inside i (g.source e)) (counts i + 1) 0) (counts i) ≤ l.bound i
      go false is = within i il
      go true is =
          let at : nat_eq (l.header k) (l.header i) ≡ true = subst (λ o. is_header l i o ≡ true) (leads_to_header g l e k back) is in
          let eq : k ≡ i = nest.distinct k i kl il (eqb-true (l.header k) (l.header i) at) in
          let r : counts i + 1 ≤ l.bound i = subst (λ j. counts j + 1 ≤ l.bound j) eq room in
          le_trans (either (l.inside i (g.source e))) r
        where
          either : (b : Bool) → cond b (counts i + 1) 0 ≤ counts i + 1
          either true = le_refl _
          either false = omega arith
