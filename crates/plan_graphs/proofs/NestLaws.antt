-- The loops round a node, from the least outwards.
use Rattle.std.proofs.Common.{◌≡◌, ◌≢◌, ℕ, zero, suc, ◌+◌, ◌-◌, ◌<◌, ◌≤◌, ◌⊎◌, inl, inr, ⊎_elim, Bool, true, false, nat_eq, List, [], ◌∷◌, Option, Some, None, refl, sym, ap, ◌∙◌, subst, arith, eq-eqb, eqb-true}
use native.Mathlib.Decide.{ℕ_discrete}
use Rattle.cost_theory.specs.Graph.{Graph, Loops, sum_below, only}
use Rattle.cost_theory.specs.Accepted.{IsNode, IsProgram, AreEntered, IsWithin}
use Rattle.cost_theory.specs.Lists.{or_true, is_among}
use Rattle.cost_theory.proofs.Laws.{below_suc, sum-le, ones-le, only_true, only_false, held_within, header_held, body_node}
use Rattle.loop_forest.specs.Tree.{IsInnermost, IsParent}
use Rattle.plan_graphs.specs.Drawn.{AreWithin, AreNestedIn, AreLoopsRound}

-- ---- one of a list

pub or_cases : (a b : Bool) → or_true a b ≡ true → (a ≡ true) ⊎ (b ≡ true)
or_cases true b h = inl refl
or_cases false b h = inr h

pub or_first : (a b : Bool) → a ≡ true → or_true a b ≡ true
or_first true b h = refl
or_first false b h = let bad : ⊥ = cc in absurd bad

pub or_second : (a b : Bool) → b ≡ true → or_true a b ≡ true
or_second true b h = refl
or_second false b h = h

-- ---- what is known on the way

-- the body of the loop that comes next is within that of loop k
abbrev pub IsBelow : Loops → Option ℕ → ℕ → Type 0
IsBelow l None k = ⊥
IsBelow l (Some p) k = (v : ℕ) → l.inside p v ≡ true → l.inside k v ≡ true

-- the loop that comes next is round the node and round all loops so far
abbrev pub IsNextRound : Loops → ℕ → List ℕ → Option ℕ → Type 0
IsNextRound l at ks None = Unit {0}
IsNextRound l at ks (Some p) = (p < l.loops) × (l.inside p at ≡ true) × AreWithin l p ks

pub record AreRoundTo (l : Loops) (at : ℕ) (ks : List ℕ) (ahead : Option ℕ) : Type 0 where
  pub within : (k : ℕ) → is_among k ks ≡ true → (k < l.loops) × (l.inside k at ≡ true)
  pub rest : (k : ℕ) → k < l.loops → l.inside k at ≡ true → (is_among k ks ≡ true) ⊎ IsBelow l ahead k
  pub nested : AreNestedIn l ks
  pub next : IsNextRound l at ks ahead

pub round_start : (l : Loops) (at : ℕ) (inner : Option ℕ) → IsInnermost l at inner → AreRoundTo l at [] inner
round_start l at None h = record { within = λ k am. let bad : ⊥ = cc in absurd bad; rest = λ k kl in_k. absurd (h k kl in_k); nested = tt; next = tt }
round_start l at (Some p) h = record { within = λ k am. let bad : ⊥ = cc in absurd bad; rest = λ k kl in_k. inr (λ v in_p. h.2 k v kl in_k in_p); nested = tt; next = (h.0, h.1, tt) }

pub round_end : (l : Loops) (at : ℕ) (ks : List ℕ) → AreRoundTo l at ks None → AreLoopsRound l at ks
round_end l at ks are = record {
  within = are.within;
  whole = λ k kl in_k. ⊎_elim (λ (am : is_among k ks ≡ true). am) (λ (never : ⊥). absurd never) (are.rest k kl in_k);
  nested = are.nested;
}

within_all : (l : Loops) (p q : ℕ) → IsWithin l p q → (ks : List ℕ) → AreWithin l p ks → AreWithin l q ks
within_all l p q up [] are = tt
within_all l p q up (j ∷ js) are = (
  record { holds = λ v in_j. up.holds v (are.0.holds v in_j); header = out (l.inside j (l.header q)) refl },
  within_all l p q up js are.1,
)
  where
    out : (b : Bool) → l.inside j (l.header q) ≡ b → l.inside j (l.header q) ≡ false
    out false is = is
    out true is = let t : l.inside p (l.header q) ≡ true = are.0.holds (l.header q) is in let f : l.inside p (l.header q) ≡ false = up.header in let bad : ⊥ = cc in absurd bad

module _ (g : Graph) (l : Loops) (extent : ℕ → ℕ → Bool) (prog : IsProgram g) (ent : AreEntered g l extent) where
  abbrev IsGone : ℕ → List ℕ → Option ℕ → ℕ → Type 0
  IsGone p ks o k = (is_among k (p ∷ ks) ≡ true) ⊎ IsBelow l o k

  other : (at p : ℕ) (ks : List ℕ) (o : Option ℕ) → p < l.loops → IsParent l p o → (k : ℕ) → k < l.loops → p ≢ k → IsBelow l (Some p) k → IsGone p ks o k
  other at p ks None pl par k kl ne below = absurd (par k kl ((λ e. ne (sym e)), below (l.header p) (header_held g l extent prog ent p pl)))
  other at p ks (Some q) pl par k kl ne below = inr (λ v in_q. par.2 k v kl ((λ e. ne (sym e)), below (l.header p) (header_held g l extent prog ent p pl)) in_q)

  gone : (at p : ℕ) (ks : List ℕ) (o : Option ℕ) → p < l.loops → IsParent l p o → (k : ℕ) → k < l.loops → (is_among k ks ≡ true) ⊎ IsBelow l (Some p) k → IsGone p ks o k
  gone at p ks o pl par k kl h = ⊎_elim
      (λ (am : is_among k ks ≡ true). inl (or_second (nat_eq p k) (is_among k ks) am))
      (λ (below : IsBelow l (Some p) k). go (ℕ_discrete p k) below)
      h
    where
      go : Dec (p ≡ k) → IsBelow l (Some p) k → IsGone p ks o k
      go (yes same) below = inl (or_first (nat_eq p k) (is_among k ks) (eq-eqb p k same))
      go (no ne) below = other at p ks o pl par k kl ne below

  next_round : (at p : ℕ) (ks : List ℕ) (o : Option ℕ) → IsNextRound l at ks (Some p) → IsParent l p o → IsNextRound l at (p ∷ ks) o
  next_round at p ks None next par = tt
  next_round at p ks (Some q) next par =
      let up : IsWithin l p q = held_within g l extent prog ent p q next.0 par.0 (λ e. par.1.0 (sym e)) par.1.1 in
      (par.0, up.holds at next.1, (up, within_all l p q up ks next.2))

  -- one loop further
  pub round_more : (at p : ℕ) (ks : List ℕ) (o : Option ℕ) → IsParent l p o → AreRoundTo l at ks (Some p) → AreRoundTo l at (p ∷ ks) o
  round_more at p ks o par are = record {
    within = λ k am. ⊎_elim
        (λ (here : nat_eq p k ≡ true). let same : p ≡ k = eqb-true p k here in subst (λ j. (j < l.loops) × (l.inside j at ≡ true)) same (are.next.0, are.next.1))
        (λ (there : is_among k ks ≡ true). are.within k there)
        (or_cases (nat_eq p k) (is_among k ks) am);
    rest = λ k kl in_k. gone at p ks o are.next.0 par k kl (are.rest k kl in_k);
    nested = (are.next.2, are.nested);
    next = next_round at p ks o are.next par;
  }

-- ---- the way ends

-- how many edges start in a body
pub body_edges : Graph → Loops → ℕ → ℕ
body_edges g l k = sum_below g.edges (λ e. only (l.inside k (g.source e)) 1)

abbrev pub outer_left : Graph → Loops → Option ℕ → ℕ
outer_left g l None = 0
outer_left g l (Some p) = suc (g.edges - body_edges g l p)

sum_less : (n : ℕ) (f h : ℕ → ℕ) (i : ℕ) → i < n → ((k : ℕ) → k < n → f k ≤ h k) → f i < h i → sum_below n f < sum_below n h
sum_less zero f h i lt le less = let bad : ⊥ = omega arith in absurd bad
sum_less (suc n) f h i lt le less = ⊎_elim
    (λ (low : i < n).
    let before : sum_below n f < sum_below n h = sum_less n f h i low (λ k kn. le k (let q : k < suc n = omega arith in q)) less in
    let here : f n ≤ h n = le n (let q : n < suc n = omega arith in q) in
    let r : sum_below n f + f n < sum_below n h + h n = omega arith in r)
    (λ (last : i ≡ n).
    let before : sum_below n f ≤ sum_below n h = sum-le n f h (λ k kn. le k (let q : k < suc n = omega arith in q)) in
    let here : f n < h n = subst (λ m. f m < h m) last less in
    let r : sum_below n f + f n < sum_below n h + h n = omega arith in r)
    (below_suc i n lt)

module _ (g : Graph) (l : Loops) (extent : ℕ → ℕ → Bool) (prog : IsProgram g) (ent : AreEntered g l extent) where
  more_edges : (p q : ℕ) → q < l.loops → IsWithin l p q → body_edges g l p < body_edges g l q
  unfolding body_edges
  more_edges p q ql up =
      let held : l.inside q (l.header q) ≡ true = header_held g l extent prog ent q ql in
      let node : IsNode g (l.header q) = body_node g l extent prog ent q (l.header q) ql held in
      let in_q : l.inside q (g.source node.0) ≡ true = subst (λ v. l.inside q v ≡ true) (sym node.2) held in
      let out_p : l.inside p (g.source node.0) ≡ false = subst (λ v. l.inside p v ≡ false) (sym node.2) up.header in
      sum_less g.edges (λ e. only (l.inside p (g.source e)) 1) (λ e. only (l.inside q (g.source e)) 1) node.0 node.1
      (λ k kn. less (l.inside p (g.source k)) (l.inside q (g.source k)) (up.holds (g.source k)))
      (let a : only (l.inside p (g.source node.0)) 1 ≡ 0 = only_false (l.inside p (g.source node.0)) 1 out_p in
      let b : only (l.inside q (g.source node.0)) 1 ≡ 1 = only_true (l.inside q (g.source node.0)) 1 in_q in omega arith)
    where
      less : (a b : Bool) → (a ≡ true → b ≡ true) → only a 1 ≤ only b 1
      less true true h = omega arith
      less true false h = let t : false ≡ true = h refl in let bad : ⊥ = cc in absurd bad
      less false b h = omega arith

  few_edges : (q : ℕ) → body_edges g l q ≤ g.edges
  unfolding body_edges
  few_edges q = ones-le g.edges (λ e. l.inside q (g.source e))

  pub outer_less : (p : ℕ) (o : Option ℕ) → p < l.loops → IsParent l p o → outer_left g l o < outer_left g l (Some p)
  outer_less p None pl par = omega arith
  outer_less p (Some q) pl par =
      let up : IsWithin l p q = held_within g l extent prog ent p q pl par.0 (λ e. par.1.0 (sym e)) par.1.1 in
      let more : body_edges g l p < body_edges g l q = more_edges p q par.0 up in
      let few : body_edges g l q ≤ g.edges = few_edges q in
      let r : suc (g.edges - body_edges g l q) < suc (g.edges - body_edges g l p) = omega arith in r
