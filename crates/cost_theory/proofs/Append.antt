-- Walks that are put together.
use Rattle.std.proofs.Common.{◌≡◌, ℕ, zero, suc, ◌+◌, ◌*◌, true, false, cond, List, [], ◌∷◌, ◌++◌, Option, Some, None, refl, ap, ◌∙◌, subst, arith, eqb-true, ne_eqb}
use Rattle.cost_theory.specs.Graph.{Graph, Loops, IsWalk, end_of, total, is_round, is_header, is_back, count_step, AreWithin, IsBounded}
use Rattle.cost_theory.proofs.Basics.{total-append, and_right}

-- the counts behind a walk
abbrev pub counts_along : Graph → Loops → (ℕ → ℕ) → List ℕ → ℕ → ℕ
counts_along g l counts [] = counts
counts_along g l counts (e ∷ es) = counts_along g l (count_step l (Some (g.source e)) (g.target e) counts) es

-- every edge leads to a node of loop k
abbrev pub StaysIn : Graph → Loops → ℕ → List ℕ → Type 0
StaysIn g l k [] = Unit {0}
StaysIn g l k (e ∷ es) = (is_round l k (g.target e) ≡ true) × StaysIn g l k es

module _ (g : Graph) (l : Loops) where
  -- a back edge of loop k leads to its header
  pub leads_to_header : (e k : ℕ) → is_back g l k e ≡ true → g.target e ≡ Some (l.header k)
  leads_to_header e k back = go (g.target e) (and_right (l.inside k (g.source e)) (is_header l k (g.target e)) back)
    where
      go : (o : Option ℕ) → is_header l k o ≡ true → o ≡ Some (l.header k)
      go None at = let bad : ⊥ = cc in absurd bad
      go (Some v) at = ap Some (eqb-true v (l.header k) at)

  pub walk-append : (xs ys : List ℕ) (p : Option ℕ) → IsWalk g p xs → IsWalk g (end_of g p xs) ys → IsWalk g p (xs ++ ys)
  walk-append [] ys p one two = two
  walk-append (x ∷ xs) ys p one two = (one.0, one.1, walk-append xs ys (g.target x) one.2 two)

  pub end_of-append : (xs ys : List ℕ) (p : Option ℕ) → end_of g p (xs ++ ys) ≡ end_of g (end_of g p xs) ys
  end_of-append [] ys p = refl
  end_of-append (x ∷ xs) ys p = end_of-append xs ys (g.target x)

  pub counts-append : (xs ys : List ℕ) (counts : ℕ → ℕ) → counts_along g l counts (xs ++ ys) ≡ counts_along g l (counts_along g l counts xs) ys
  counts-append [] ys counts = refl
  counts-append (x ∷ xs) ys counts = counts-append xs ys (count_step l (Some (g.source x)) (g.target x) counts)

  pub bounded-append : (xs ys : List ℕ) (counts : ℕ → ℕ) → IsBounded g l counts xs → IsBounded g l (counts_along g l counts xs) ys → IsBounded g l counts (xs ++ ys)
  bounded-append [] ys counts one two = two
  bounded-append (x ∷ xs) ys counts one two = (one.0, bounded-append xs ys (count_step l (Some (g.source x)) (g.target x) counts) one.1 two)

  pub stays-append : (k : ℕ) (xs ys : List ℕ) → StaysIn g l k xs → StaysIn g l k ys → StaysIn g l k (xs ++ ys)
  stays-append k [] ys one two = two
  stays-append k (x ∷ xs) ys one two = (one.0, stays-append k xs ys one.1 two)

  pub within_along : (es : List ℕ) (counts : ℕ → ℕ) → AreWithin l counts → IsBounded g l counts es → AreWithin l (counts_along g l counts es)
  within_along [] counts within bounded = within
  within_along (e ∷ es) counts within bounded = within_along es (count_step l (Some (g.source e)) (g.target e) counts) bounded.0 bounded.1

  -- a step to another node than a loop's header leaves its count alone
  pub count_same : (j : ℕ) (from to : Option ℕ) (counts : ℕ → ℕ) → is_header l j to ≡ false → count_step l from to counts j ≡ counts j
  count_same j from to counts away = ap (λ b. cond b (cond (is_round l j from) (counts j + 1) 0) (counts j)) away

  -- a node of loop k is no header that lies outside it
  pub header_out : (j k : ℕ) (to : Option ℕ) → is_round l k to ≡ true → l.inside k (l.header j) ≡ false → is_header l j to ≡ false
  header_out j k None round out = refl
  header_out j k (Some v) round out = ne_eqb v (l.header j) (λ e.
      let t : l.inside k (l.header j) ≡ true = subst (λ u. l.inside k u ≡ true) e round in
      let bad : ⊥ = cc in bad)

  pub counts_outside : (j k : ℕ) (es : List ℕ) (counts : ℕ → ℕ) → StaysIn g l k es → l.inside k (l.header j) ≡ false →
      counts_along g l counts es j ≡ counts j
  counts_outside j k [] counts stays out = refl
  counts_outside j k (e ∷ es) counts stays out =
      counts_outside j k es (count_step l (Some (g.source e)) (g.target e) counts) stays.1 out ∙
      count_same j (Some (g.source e)) (g.target e) counts (header_out j k (g.target e) stays.0 out)

  pub stays-within : (j k : ℕ) (es : List ℕ) → ((u : ℕ) → l.inside j u ≡ true → l.inside k u ≡ true) → StaysIn g l j es → StaysIn g l k es
  stays-within j k [] sub stays = tt
  stays-within j k (e ∷ es) sub stays = (round (g.target e) stays.0, stays-within j k es sub stays.1)
    where
      round : (o : Option ℕ) → is_round l j o ≡ true → is_round l k o ≡ true
      round None r = r
      round (Some v) r = sub v r

  -- a step from outside to a loop's header begins its count anew
  pub count_anew : (j : ℕ) (from to : Option ℕ) (counts : ℕ → ℕ) → is_header l j to ≡ true → is_round l j from ≡ false → count_step l from to counts j ≡ 0
  count_anew j from to counts at out =
      ap (λ b. cond b (cond (is_round l j from) (counts j + 1) 0) (counts j)) at ∙ ap (λ b. cond b (counts j + 1) 0) out

  -- a step from its body to its header counts
  pub count_back : (j : ℕ) (from to : Option ℕ) (counts : ℕ → ℕ) → is_header l j to ≡ true → is_round l j from ≡ true → count_step l from to counts j ≡ counts j + 1
  count_back j from to counts at in_u =
      ap (λ b. cond b (cond (is_round l j from) (counts j + 1) 0) (counts j)) at ∙ ap (λ b. cond b (counts j + 1) 0) in_u

-- a list m times over
abbrev pub times : ℕ → List ℕ → List ℕ
times zero es = []
times (suc m) es = es ++ times m es

pub total-times : (c : ℕ → ℕ) (m : ℕ) (es : List ℕ) → total c (times m es) ≡ m * total c es
total-times c zero es = omega arith
total-times c (suc m) es =
    let ih : total c (times m es) ≡ m * total c es = total-times c m es in
    let both : total c (es ++ times m es) ≡ total c es + total c (times m es) = total-append c es (times m es) in
    let g : total c (es ++ times m es) ≡ suc m * total c es = omega arith in g

pub stays-times : (g : Graph) (l : Loops) (k m : ℕ) (es : List ℕ) → StaysIn g l k es → StaysIn g l k (times m es)
stays-times g l k zero es stays = tt
stays-times g l k (suc m) es stays = stays-append g l k es (times m es) stays (stays-times g l k m es stays)
