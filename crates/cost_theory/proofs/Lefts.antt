-- What is left exists, from the outermost loop inwards; so all numbers of accepted loops do.
use Rattle.std.proofs.Common.{◌≡◌, ◌≢◌, ℕ, zero, suc, ◌+◌, ◌-◌, ◌<◌, ◌≤◌, Bool, true, false, cond, not, ◌&&◌, ◌⊎◌, inl, inr, nat_eq, ltb, Option, Some, None, refl, sym, ap, ◌∙◌, subst, arith, eq-eqb, ne_eqb, ⊎_elim, le_refl, lt-ltb, ltb-true}
use Rattle.cost_theory.specs.Graph.{Graph, Loops, sum_below, only}
use Rattle.cost_theory.specs.Worst.{Numbers, charged, AreLoopNumbers, IsLeft}
use Rattle.cost_theory.specs.Accepted.{IsProgram, IsWithin, AreAccepted, IsPlainOrder}
use Rattle.cost_theory.proofs.Basics.{below_suc, and_left, and_right, and_both, not_true, only_true, only_false, sum-lt, term-le-sum, ones-le}
use Rattle.cost_theory.proofs.Nesting.{accepted_entered, held_within, size}
use Rattle.cost_theory.proofs.Exists.{best_plain, best_closing}
use Rattle.cost_theory.proofs.Tables.{table, iteration_below, IsTableBelow}

-- the greatest of a number and some others
pub record IsMost (base : ℕ) (count : ℕ) (some : ℕ → Option ℕ) (m : ℕ) : Type 0 where
  pub base_le : base ≤ m
  pub some_le : (k b : ℕ) → k < count → some k ≡ Some b → b ≤ m
  pub is_one : (m ≡ base) ⊎ ((k : ℕ) × (k < count) × (some k ≡ Some m))

pub most_of : (base count : ℕ) (some : ℕ → Option ℕ) → (m : ℕ) × IsMost base count some m
most_of base zero some = (base, record { base_le = le_refl base; some_le = λ k b lt e. absurd (let bad : ⊥ = omega arith in bad); is_one = inl refl })
most_of base (suc count) some = go (most_of base count some) (some count) refl
  where
    go : (m : ℕ) × IsMost base count some m → (o : Option ℕ) → some count ≡ o → (m : ℕ) × IsMost base (suc count) some m
    go r None is = (
      r.0,
      record {
        base_le = r.1.base_le;
        some_le = λ k b lt e. ⊎_elim (λ low. r.1.some_le k b low e) (λ q. absurd (let t : None ≡ Some b = sym is ∙ ap some (sym q) ∙ e in let bad : ⊥ = cc in bad)) (below_suc k count lt);
        is_one = ⊎_elim (λ e. inl e) (λ (x : (k : ℕ) × (k < count) × (some k ≡ Some r.0)). inr (x.0, (let lt : x.0 < count = x.1 in let w : x.0 < suc count = omega arith in w), x.2)) r.1.is_one;
      },
    )
    go r (Some b') is = ⊎_elim
        (λ (le : b' ≤ r.0). (
          r.0,
          record {
            base_le = r.1.base_le;
            some_le = λ k b lt e. ⊎_elim (λ low. r.1.some_le k b low e) (λ q. let t : Some b' ≡ Some b = sym is ∙ ap some (sym q) ∙ e in let u : b' ≡ b = cc in let w : b ≤ r.0 = omega arith in w) (below_suc k count lt);
            is_one = ⊎_elim (λ e. inl e) (λ (x : (k : ℕ) × (k < count) × (some k ≡ Some r.0)). inr (x.0, (let lt : x.0 < count = x.1 in let w : x.0 < suc count = omega arith in w), x.2)) r.1.is_one;
          },
        ))
        (λ (le : r.0 ≤ b'). (
          b',
          record {
            base_le = (let h : base ≤ r.0 = r.1.base_le in omega arith);
            some_le = λ k b lt e. ⊎_elim (λ low. let h : b ≤ r.0 = r.1.some_le k b low e in let w : b ≤ b' = omega arith in w) (λ q. let t : Some b' ≡ Some b = sym is ∙ ap some (sym q) ∙ e in let u : b' ≡ b = cc in let w : b ≤ b' = omega arith in w) (below_suc k count lt);
            is_one = inr (count, (let w : count < suc count = omega arith in w), is);
          },
        ))
        (either b' r.0)
      where
        either : (a b : ℕ) → (a ≤ b) ⊎ (b ≤ a)
        either a b = grind arith

pub most_same : (base count : ℕ) (some some' : ℕ → Option ℕ) (m : ℕ) → ((k : ℕ) → k < count → some k ≡ some' k) → IsMost base count some m → IsMost base count some' m
most_same base count some some' m same most = record {
  base_le = most.base_le;
  some_le = λ k b lt e. most.some_le k b lt (same k lt ∙ e);
  is_one = ⊎_elim (λ e. inl e) (λ (x : (k : ℕ) × (k < count) × (some k ≡ Some m)). inr (x.0, x.1, sym (same x.0 x.1) ∙ x.2)) most.is_one;
}

-- IsLeft speaks of what is left at a node and at the headers of the loops round it
pub left_same : (l : Loops) (n n' : Numbers) (v : ℕ) → n.plain v ≡ n'.plain v → n.left v ≡ n'.left v → ((k : ℕ) → n.iteration k ≡ n'.iteration k) →
    ((k : ℕ) → n.closing k v ≡ n'.closing k v) →
    ((k : ℕ) → k < l.loops → l.inside k v ≡ true → l.header k ≢ v → n.left (l.header k) ≡ n'.left (l.header k)) → IsLeft l n v → IsLeft l n' v
left_same l n n' v plain left turn closing heads is = record {
  over_plain = (let h : n.plain v ≤ n.left v = is.over_plain in omega arith);
  over_closing = λ k b kl in_v ne e.
      (let h : b + n.left (l.header k) ≤ n.left v + n.iteration k = is.over_closing k b kl in_v ne (closing k ∙ e) in
      let q : n.left (l.header k) ≡ n'.left (l.header k) = heads k kl in_v ne in
      let t : n.iteration k ≡ n'.iteration k = turn k in
      let r : b + n'.left (l.header k) ≤ n'.left v + n'.iteration k = omega arith in r);
  attained = ⊎_elim (λ (e : n.left v ≡ n.plain v). inl (sym left ∙ e ∙ plain))
      (λ (m : (k : ℕ) × (b : ℕ) × (k < l.loops) × (l.inside k v ≡ true) × (l.header k ≢ v) × (n.closing k v ≡ Some b) × (n.left v + n.iteration k ≡ b + n.left (l.header k))).
      inr (
        m.0,
        m.1,
        m.2,
        m.3,
        m.4,
        sym (closing m.0) ∙ m.5,
        (let e : n.left v + n.iteration m.0 ≡ m.1 + n.left (l.header m.0) = m.6 in
            let q : n.left (l.header m.0) ≡ n'.left (l.header m.0) = heads m.0 m.2 m.3 m.4 in
            let t : n.iteration m.0 ≡ n'.iteration m.0 = turn m.0 in
            let r : n'.left v + n'.iteration m.0 ≡ m.1 + n'.left (l.header m.0) = omega arith in r),
      )) is.attained;
}

-- the candidates for what is left, beside the plain paths
abbrev pub moved : ℕ → Option ℕ → Option ℕ
moved x None = None
moved x (Some b) = Some (b + x)

abbrev pub lowered : ℕ → Option ℕ → Option ℕ
lowered x None = None
lowered x (Some b) = Some (b - x)

abbrev pub candidate : Loops → Numbers → ℕ → ℕ → Option ℕ
candidate l n v k = cond (l.inside k v && not (nat_eq (l.header k) v)) (lowered (n.iteration k) (moved (n.left (l.header k)) (n.closing k v))) None

-- the greatest of them is what is left
pub most-left : (l : Loops) (n : Numbers) (v : ℕ) → IsMost (n.plain v) l.loops (candidate l n v) (n.left v) → IsLeft l n v
most-left l n v most = record {
  over_plain = most.base_le;
  over_closing = λ k b kl in_v ne e.
      (let test : (l.inside k v && not (nat_eq (l.header k) v)) ≡ true = and_both (l.inside k v) (not (nat_eq (l.header k) v)) in_v (ap not (ne_eqb (l.header k) v ne)) in
      let is : candidate l n v k ≡ Some (b + n.left (l.header k) - n.iteration k) =
      ap (λ t. cond t (lowered (n.iteration k) (moved (n.left (l.header k)) (n.closing k v))) None) test ∙ ap (λ o. lowered (n.iteration k) (moved (n.left (l.header k)) o)) e in
      let h : b + n.left (l.header k) - n.iteration k ≤ n.left v = most.some_le k (b + n.left (l.header k) - n.iteration k) kl is in
      let r : b + n.left (l.header k) ≤ n.left v + n.iteration k = omega arith in r);
  attained = ⊎_elim (λ e. inl e) (λ (x : (k : ℕ) × (k < l.loops) × (candidate l n v k ≡ Some (n.left v))). from_one x.0 x.1 x.2) most.is_one;
}
  where
    either : (a b : ℕ) → (a ≤ b) ⊎ (b ≤ a)
    either a b = grind arith

    by_closing : (k : ℕ) → k < l.loops → l.inside k v ≡ true → l.header k ≢ v → (o : Option ℕ) → n.closing k v ≡ o → lowered (n.iteration k) (moved (n.left (l.header k)) o) ≡ Some (n.left v) →
        (n.left v ≡ n.plain v) ⊎
        ((k : ℕ) × (b : ℕ) × (k < l.loops) × (l.inside k v ≡ true) × (l.header k ≢ v) × (n.closing k v ≡ Some b) × (n.left v + n.iteration k ≡ b + n.left (l.header k)))
    by_closing k kl in_v ne None e is = let bad : ⊥ = cc in absurd bad
    by_closing k kl in_v ne (Some b) e is =
        let q : b + n.left (l.header k) - n.iteration k ≡ n.left v = cc in
        let low : n.plain v ≤ n.left v = most.base_le in
        ⊎_elim (λ (le : n.iteration k ≤ b + n.left (l.header k)). inr (k, b, kl, in_v, ne, e, (let r : n.left v + n.iteration k ≡ b + n.left (l.header k) = omega arith in r)))
        (λ (le : b + n.left (l.header k) ≤ n.iteration k). inl (let r : n.left v ≡ n.plain v = omega arith in r))
        (either (n.iteration k) (b + n.left (l.header k)))

    by_test : (k : ℕ) → k < l.loops → (b : Bool) → (l.inside k v && not (nat_eq (l.header k) v)) ≡ b → cond b (lowered (n.iteration k) (moved (n.left (l.header k)) (n.closing k v))) None ≡ Some (n.left v) →
        (n.left v ≡ n.plain v) ⊎
        ((k : ℕ) × (b : ℕ) × (k < l.loops) × (l.inside k v ≡ true) × (l.header k ≢ v) × (n.closing k v ≡ Some b) × (n.left v + n.iteration k ≡ b + n.left (l.header k)))
    by_test k kl false test is = let bad : ⊥ = cc in absurd bad
    by_test k kl true test is = by_closing k kl (and_left (l.inside k v) (not (nat_eq (l.header k) v)) test)
        (λ e. let f : nat_eq (l.header k) v ≡ false = not_true (nat_eq (l.header k) v) (and_right (l.inside k v) (not (nat_eq (l.header k) v)) test) in
        let t : nat_eq (l.header k) v ≡ true = eq-eqb (l.header k) v e in let bad : ⊥ = cc in bad)
        (n.closing k v) refl is

    from_one : (k : ℕ) → k < l.loops → candidate l n v k ≡ Some (n.left v) →
        (n.left v ≡ n.plain v) ⊎
        ((k : ℕ) × (b : ℕ) × (k < l.loops) × (l.inside k v ≡ true) × (l.header k ≢ v) × (n.closing k v ≡ Some b) × (n.left v + n.iteration k ≡ b + n.left (l.header k)))
    from_one k kl is = by_test k kl (l.inside k v && not (nat_eq (l.header k) v)) refl is

module _ (g : Graph) (l : Loops) (extent : ℕ → ℕ → Bool) (prog : IsProgram g) (acc : AreAccepted g l extent) where
  -- the loops round a node of which it is no header
  pub outer : ℕ → ℕ → Bool
  outer v k = l.inside k v && not (nat_eq (l.header k) v)

  pub depth : ℕ → ℕ
  depth v = sum_below l.loops (λ k. only (outer v k) 1)

  -- a loop round the header of k, but for k's own, is round each node of k
  pub outer_header : (j k v : ℕ) → j < l.loops → k < l.loops → l.inside k v ≡ true → l.header k ≢ v → outer (l.header k) j ≡ true → outer v j ≡ true
  unfolding outer
  outer_header j k v jl kl in_k ne out = and_both (l.inside j v) (not (nat_eq (l.header j) v)) in_v apart
    where
      in_h : l.inside j (l.header k) ≡ true
      in_h = and_left (l.inside j (l.header k)) (not (nat_eq (l.header j) (l.header k))) out

      other : l.header j ≡ l.header k → ⊥
      other e = let f : nat_eq (l.header j) (l.header k) ≡ false = not_true (nat_eq (l.header j) (l.header k)) (and_right (l.inside j (l.header k)) (not (nat_eq (l.header j) (l.header k))) out) in
          let t : nat_eq (l.header j) (l.header k) ≡ true = eq-eqb (l.header j) (l.header k) e in let bad : ⊥ = cc in bad

      within : IsWithin l k j
      within = held_within g l extent prog (accepted_entered acc) k j kl jl (λ e. other (ap l.header (sym e))) in_h

      in_v : l.inside j v ≡ true
      in_v = within.holds v in_k

      apart : not (nat_eq (l.header j) v) ≡ true
      apart = ap not (ne_eqb (l.header j) v (λ e. let t : l.inside k (l.header j) ≡ true = subst (λ u. l.inside k u ≡ true) (sym e) in_k in
          let f : l.inside k (l.header j) ≡ false = within.header in let bad : ⊥ = cc in bad))

  pub depth-lt : (k v : ℕ) → k < l.loops → l.inside k v ≡ true → l.header k ≢ v → depth (l.header k) < depth v
  unfolding depth outer
  depth-lt k v kl in_k ne = sum-lt l.loops (λ j. only (outer (l.header k) j) 1) (λ j. only (outer v j) 1) k kl
      (λ j jl. less (outer (l.header k) j) (outer v j) (outer_header j k v jl kl in_k ne))
      (let a : only (outer (l.header k) k) 1 ≡ 0 = only_false (outer (l.header k) k) 1 (self (l.inside k (l.header k)) (nat_eq (l.header k) (l.header k)) (eq-eqb (l.header k) (l.header k) refl)) in
      let b : only (outer v k) 1 ≡ 1 = only_true (outer v k) 1 (and_both (l.inside k v) (not (nat_eq (l.header k) v)) in_k (ap not (ne_eqb (l.header k) v ne))) in omega arith)
    where
      self : (a b : Bool) → b ≡ true → (a && not b) ≡ false
      self a b h = grind arith

      less : (a b : Bool) → (a ≡ true → b ≡ true) → only a 1 ≤ only b 1
      less true true h = le_refl 1
      less true false h = let t : false ≡ true = h refl in let bad : ⊥ = cc in absurd bad
      less false b h = omega arith

  pub depth-le : (v : ℕ) → depth v ≤ l.loops
  unfolding depth
  depth-le v = ones-le l.loops (outer v)

  -- what is left is right for the nodes below a depth, over numbers whose other tables are given
  abbrev pub IsLeftBelow : Numbers → ℕ → (ℕ → ℕ) → Type 0
  IsLeftBelow n m a = (v : ℕ) → depth v < m → IsLeft l (record n { left = a }) v

  pub left_below : (n : Numbers) (m : ℕ) → (a : ℕ → ℕ) × IsLeftBelow n m a
  left_below n zero = (λ v. 0, λ v low. absurd (let bad : ⊥ = omega arith in bad))
  left_below n (suc m) = next (left_below n m)
    where
      next : ((a : ℕ → ℕ) × ((v : ℕ) → depth v < m → IsLeft l (record n { left = a }) v)) → (a : ℕ → ℕ) × ((v : ℕ) → depth v < suc m → IsLeft l (record n { left = a }) v)
      next before = (new, good)
        where
          value : ℕ → ℕ
          value v = (most_of (n.plain v) l.loops (candidate l (record n { left = before.0 }) v)).0

          new : ℕ → ℕ
          new v = cond (ltb (depth v) m) (before.0 v) (value v)

          old_is : (v : ℕ) → depth v < m → before.0 v ≡ new v
          old_is v low = sym (ap (λ b. cond b (before.0 v) (value v)) (lt-ltb (depth v) m low))

          good : (v : ℕ) → depth v < suc m → IsLeft l (record n { left = new }) v
          good v low = pick (ltb (depth v) m) refl
            where
              heads : (k : ℕ) → k < l.loops → l.inside k v ≡ true → l.header k ≢ v → before.0 (l.header k) ≡ new (l.header k)
              heads k kl in_v ne = old_is (l.header k) (let d : depth (l.header k) < depth v = depth-lt k v kl in_v ne in omega arith)

              guarded : (k : ℕ) → k < l.loops → (b : Bool) → (l.inside k v && not (nat_eq (l.header k) v)) ≡ b →
                  cond b (lowered (n.iteration k) (moved (before.0 (l.header k)) (n.closing k v))) None ≡ cond b (lowered (n.iteration k) (moved (new (l.header k)) (n.closing k v))) None
              guarded k kl false test = refl
              guarded k kl true test = ap (λ x. lowered (n.iteration k) (moved x (n.closing k v))) (heads k kl (and_left (l.inside k v) (not (nat_eq (l.header k) v)) test)
                  (λ e. let f : nat_eq (l.header k) v ≡ false = not_true (nat_eq (l.header k) v) (and_right (l.inside k v) (not (nat_eq (l.header k) v)) test) in
                  let t : nat_eq (l.header k) v ≡ true = eq-eqb (l.header k) v e in let bad : ⊥ = cc in bad))

              pick : (b : Bool) → ltb (depth v) m ≡ b → IsLeft l (record n { left = new }) v
              pick true is = left_same l (record n { left = before.0 }) (record n { left = new }) v refl (old_is v (ltb-true (depth v) m is)) (λ k. refl) (λ k. refl) heads (before.1 v (ltb-true (depth v) m is))
              pick false is = most-left l (record n { left = new }) v
                  (subst (λ x. IsMost (n.plain v) l.loops (candidate l (record n { left = new }) v) x) (sym (ap (λ b. cond b (before.0 v) (value v)) is))
                  (most_same (n.plain v) l.loops (candidate l (record n { left = before.0 }) v) (candidate l (record n { left = new }) v) (value v)
                  (λ k kl. guarded k kl (l.inside k v && not (nat_eq (l.header k) v)) refl)
                  (most_of (n.plain v) l.loops (candidate l (record n { left = before.0 }) v)).1))

  module _ (count : ℕ) (place : ℕ → ℕ) (order : IsPlainOrder g l count place) where
    -- all numbers of the loops, for any costs
    pub loop_numbers : (c : ℕ → ℕ) (w k : ℕ → ℕ) → (n : Numbers) × AreLoopNumbers g l c n × (n.worst ≡ w) × (n.context ≡ k)
    loop_numbers c w k = (
      numbers,
      record {
        iteration = λ k kl. turned.1 k kl (let t : size g l k ≤ sum_below l.loops (size g l) = term-le-sum l.loops (size g l) k kl in omega arith);
        plain = λ v. (best_plain g l prog count place order (charged g l (table turned.0) c) v).1;
        closing = λ k v kl in_v. (best_closing g l prog count place order (charged g l (table turned.0) c) k v).1;
        left = λ v. lefts.1 v (let t : depth v ≤ l.loops = depth-le v in omega arith);
      },
      refl,
      refl,
    )
      where
        turned : (i : ℕ → ℕ) × IsTableBelow g l extent prog acc count place order c (suc (sum_below l.loops (size g l))) i
        turned = iteration_below g l extent prog acc count place order c (suc (sum_below l.loops (size g l)))

        first : Numbers
        first = record {
          worst = w;
          iteration = turned.0;
          plain = λ v. (best_plain g l prog count place order (charged g l (table turned.0) c) v).0;
          closing = λ k v. (best_closing g l prog count place order (charged g l (table turned.0) c) k v).0;
          left = λ v. 0;
          context = k;
        }

        lefts : (a : ℕ → ℕ) × IsLeftBelow first (suc l.loops) a
        lefts = left_below first (suc l.loops)

        numbers : Numbers
        numbers = record first { left = lefts.0 }
