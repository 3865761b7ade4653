-- One hop relaxed: the table stays one of walks, and falls; a table that no hop improves is the least.
use Rattle.std.proofs.Common.{◌≡◌, ◌≢◌, ℕ, zero, suc, ◌+◌, ◌*◌, ◌<◌, ◌≤◌, Bool, true, false, cond, ◌⊎◌, inl, inr, nat_lt, List, [], ◌∷◌, length, slice_get, slice_set, slice_index_or, Option, Some, None, is_some, IfSome, refl, sym, ap, ◌∙◌, subst, arith, ⊎_elim, get_or-set_other, get_or-set_same, length-set, mul-le-mul_right, replicate, fold}
use Rattle.std.specs.List.{sum_by}
use Rattle.std.proofs.lemmas.List.Sums.{sum_by-set}
use Rattle.std.proofs.lemmas.Bool.Decides.{nat_tests}
use Rattle.cost_theory.specs.Graph.{total}
use Rattle.cost_theory.specs.Least.{EndsWith}
use Rattle.cost_theory.proofs.Laws.{stable_least}
use Rattle.least_cycles.specs.declared.Hop.{Hop}
use Rattle.least_cycles.specs.declared.Way.{Way}
use Rattle.least_cycles.specs.declared.Way.TheVariants.{Last, To, Stop}
use Rattle.least_cycles.specs.Hops.{way_place, is_last, hop_tail, head_of, last_of, hop_cost, hop_graph, number_in_table, IsLastHop, costs, IsWalkFrom, AreLeastCosts, offer_of_hop, offered_by, offered, is_less, improves, relaxed, IsHop, absent, IsHopTable, fall_of, fall}

same_or : (a b : ℕ) → (a ≡ b) ⊎ (a ≢ b)
same_or a b = grind arith

less-some : (o old : Option ℕ) → is_less o old ≡ true → (x : ℕ) × (o ≡ Some x)
less-some None old h = let bad : ⊥ = cc in absurd bad
less-some (Some x) old h = (x, refl)

less-lt : (x y : ℕ) → is_less (Some x) (Some y) ≡ true → x < y
less-lt x y h = grind (arith, nat_tests)

one_more : (k m : ℕ) → (k + 1) * m ≡ k * m + m
one_more k m = grind arith

pub some-below : (xs : List Hop) (i : ℕ) (x : Hop) → slice_get xs i ≡ Some x → i < length xs
some-below [] i x got = let bad : ⊥ = cc in absurd bad
some-below (y ∷ ys) zero x got = omega arith
some-below (y ∷ ys) (suc i) x got = let ih : i < length ys = some-below ys i x got in omega arith

-- what a hop offers is the cost of a walk, and not much more than the numbers that are there
pub record IsOffer (n most : ℕ) (hops : List Hop) (table : List (Option ℕ)) (h : Hop) (x : ℕ) : Type 0 where
  pub reached : (es : List ℕ) × IsWalkFrom hops h.tail es × (total (costs hops) es ≡ x)
  pub low : x + sum_by absent table * most ≤ n * most + most

module _ (n most : ℕ) (hops : List Hop) (table : List (Option ℕ)) (kept : IsHopTable n most hops table) (e : ℕ) (h : Hop) (is : slice_get hops e ≡ Some h) (good : IsHop n most h) where
  offer : (x : ℕ) → offered table h ≡ Some x → IsOffer n most hops table h x
  offer x offers = by_way h.way refl
    where
      here : costs hops e ≡ h.cost
      here = ap hop_cost is

      from : Some h.tail ≡ Some (hop_tail (slice_get hops e))
      from = ap (λ o. Some (hop_tail o)) (sym is)

      below : e < length hops
      below = some-below hops e h is

      by_way : (w : Way) → h.way ≡ w → IsOffer n most hops table h x
      by_way Last way =
          let got : Some h.cost ≡ Some x = sym (ap (offered_by table h.cost) way) ∙ offers in
          let same : h.cost ≡ x = cc in
          let last : last_of (slice_get hops e) ≡ true = ap last_of is ∙ ap is_last way in
          let few : sum_by absent table ≤ n = kept.few in
          let room : sum_by absent table * most ≤ n * most = mul-le-mul_right most few in
          let cheap : h.cost ≤ most = good.cost in
          record {
            reached = (e ∷ [], (below, from, inl (refl, last)), (let t : costs hops e + 0 ≡ x = omega (arith, here) in t));
            low = omega arith;
          }
      by_way (To u) way = on (number_in_table table u) refl
        where
          got : offer_of_hop h.cost (number_in_table table u) ≡ Some x
          got = sym (ap (offered_by table h.cost) way) ∙ offers

          to : head_of (slice_get hops e) ≡ Some u
          to = ap head_of is ∙ ap way_place way

          on : (o : Option ℕ) → number_in_table table u ≡ o → IsOffer n most hops table h x
          on None at = let q : None ≡ Some x = sym (ap (offer_of_hop h.cost) at) ∙ got in let bad : ⊥ = cc in absurd bad
          on (Some y) at =
              let q : Some (h.cost + y) ≡ Some x = sym (ap (offer_of_hop h.cost) at) ∙ got in
              let same : h.cost + y ≡ x = cc in
              let behind : (es : List ℕ) × IsWalkFrom hops u es × (total (costs hops) es ≡ y) = kept.reached u y at in
              let walk : EndsWith (hop_graph hops) (IsLastHop hops) (head_of (slice_get hops e)) behind.0 = subst (λ o. EndsWith (hop_graph hops) (IsLastHop hops) o behind.0) (sym to) behind.1 in
              let costs_y : total (costs hops) behind.0 ≡ y = behind.2 in
              let low : y + sum_by absent table * most ≤ n * most = kept.low u y at in
              let cheap : h.cost ≤ most = good.cost in
              record {
                reached = (e ∷ behind.0, (below, from, inr (ap is_some to, walk)), (let t : costs hops e + total (costs hops) behind.0 ≡ x = omega (arith, here) in t));
                low = omega arith;
              }
      by_way Stop way = let q : None ≡ Some x = sym (ap (offered_by table h.cost) way) ∙ offers in let bad : ⊥ = cc in absurd bad

  tail : h.tail < length table
  tail = let t : h.tail < n = good.tail in let l : length table ≡ n = kept.len in omega arith

  -- a lesser number written at the tail
  module _ (x : ℕ) (offers : offered table h ≡ Some x) (less : is_less (Some x) (number_in_table table h.tail) ≡ true) where
    sums : sum_by absent (slice_set table h.tail (Some x)) + absent (number_in_table table h.tail) ≡ sum_by absent table + 0
    sums = sum_by-set absent table h.tail (Some x) None tail

    falls : fall (n * most) (slice_set table h.tail (Some x)) + fall_of (n * most) (number_in_table table h.tail) ≡ fall (n * most) table + x
    falls = sum_by-set (fall_of (n * most)) table h.tail (Some x) None tail

    fewer : sum_by absent (slice_set table h.tail (Some x)) ≤ sum_by absent table
    fewer = omega (arith, sums)

    -- the new number is low
    new-low : x + sum_by absent (slice_set table h.tail (Some x)) * most ≤ n * most
    new-low = on (number_in_table table h.tail) refl
      where
        on : (o : Option ℕ) → number_in_table table h.tail ≡ o → x + sum_by absent (slice_set table h.tail (Some x)) * most ≤ n * most
        on None at =
            let one : absent (number_in_table table h.tail) ≡ 1 = ap absent at in
            let count : sum_by absent table ≡ sum_by absent (slice_set table h.tail (Some x)) + 1 = omega (arith, sums) in
            let split : sum_by absent table * most ≡ sum_by absent (slice_set table h.tail (Some x)) * most + most = ap (λ k. k * most) count ∙ one_more (sum_by absent (slice_set table h.tail (Some x))) most in
            let low : x + sum_by absent table * most ≤ n * most + most = (offer x offers).low in
            omega arith
        on (Some y) at =
            let lt : x < y = less-lt x y (subst (λ o. is_less (Some x) o ≡ true) at less) in
            let low : y + sum_by absent table * most ≤ n * most = kept.low h.tail y at in
            let fewer : sum_by absent (slice_set table h.tail (Some x)) * most ≤ sum_by absent table * most = mul-le-mul_right most fewer in
            omega arith

    pub written : IsHopTable n most hops (slice_set table h.tail (Some x))
    written = record {
      len = length-set table h.tail (Some x) ∙ kept.len;
      few = (let a : sum_by absent table ≤ n = kept.few in omega (arith, fewer));
      reached = λ v y at. ⊎_elim
          (λ same. let q : Some x ≡ Some y = sym (get_or-set_same table h.tail (Some x) None tail) ∙ ap (number_in_table (slice_set table h.tail (Some x))) (sym same) ∙ at in
          let eq : x ≡ y = cc in
          subst (λ z. (es : List ℕ) × IsWalkFrom hops v es × (total (costs hops) es ≡ z)) eq
          (subst (λ u. (es : List ℕ) × IsWalkFrom hops u es × (total (costs hops) es ≡ x)) (sym same) (offer x offers).reached))
          (λ other. kept.reached v y (sym (get_or-set_other table h.tail v (Some x) None other) ∙ at))
          (same_or v h.tail);
      low = λ v y at. ⊎_elim
          (λ same. let q : Some x ≡ Some y = sym (get_or-set_same table h.tail (Some x) None tail) ∙ ap (number_in_table (slice_set table h.tail (Some x))) (sym same) ∙ at in
          let eq : x ≡ y = cc in
          subst (λ z. z + sum_by absent (slice_set table h.tail (Some x)) * most ≤ n * most) eq new-low)
          (λ other. let old : y + sum_by absent table * most ≤ n * most = kept.low v y (sym (get_or-set_other table h.tail v (Some x) None other) ∙ at) in
          let less : sum_by absent (slice_set table h.tail (Some x)) * most ≤ sum_by absent table * most = mul-le-mul_right most fewer in
          let r : y + sum_by absent (slice_set table h.tail (Some x)) * most ≤ n * most = omega arith in r)
          (same_or v h.tail);
    }

    pub written-falls : fall (n * most) (slice_set table h.tail (Some x)) < fall (n * most) table
    written-falls = on (number_in_table table h.tail) refl
      where
        on : (o : Option ℕ) → number_in_table table h.tail ≡ o → fall (n * most) (slice_set table h.tail (Some x)) < fall (n * most) table
        on None at =
            let big : fall_of (n * most) (number_in_table table h.tail) ≡ n * most + 1 = ap (fall_of (n * most)) at in
            omega (arith, falls, new-low)
        on (Some y) at =
            let was : fall_of (n * most) (number_in_table table h.tail) ≡ y = ap (fall_of (n * most)) at in
            let lt : x < y = less-lt x y (subst (λ o. is_less (Some x) o ≡ true) at less) in
            omega (arith, falls)

  -- the table after a hop
  pub relaxed-kept : IsHopTable n most hops (relaxed table h)
  relaxed-kept = by_test (improves table h) refl
    where
      by_test : (b : Bool) → improves table h ≡ b → IsHopTable n most hops (cond b (slice_set table h.tail (offered table h)) table)
      by_test true better =
          let got : (x : ℕ) × (offered table h ≡ Some x) = less-some (offered table h) (number_in_table table h.tail) better in
          subst (λ o. IsHopTable n most hops (slice_set table h.tail o)) (sym got.1) (written got.0 got.1 (subst (λ o. is_less o (number_in_table table h.tail) ≡ true) got.1 better))
      by_test false better = kept

  pub relaxed-falls : improves table h ≡ true → fall (n * most) (relaxed table h) < fall (n * most) table
  relaxed-falls better =
      let got : (x : ℕ) × (offered table h ≡ Some x) = less-some (offered table h) (number_in_table table h.tail) better in
      let is_set : relaxed table h ≡ slice_set table h.tail (Some got.0) =
      ap (λ (b : Bool). cond b (slice_set table h.tail (offered table h)) table) better ∙ ap (λ o. slice_set table h.tail o) got.1 in
      subst (λ t. fall (n * most) t < fall (n * most) table) (sym is_set) (written-falls got.0 got.1 (subst (λ o. is_less o (number_in_table table h.tail) ≡ true) got.1 better))

-- a hop that does not improve the table
pub relaxed-same : (table : List (Option ℕ)) (h : Hop) → improves table h ≡ false → relaxed table h ≡ table
relaxed-same table h still = ap (λ (b : Bool). cond b (slice_set table h.tail (offered table h)) table) still

not-less : (x : ℕ) (old : Option ℕ) → is_less (Some x) old ≡ false → (y : ℕ) × (old ≡ Some y) × (y ≤ x)
not-less x None h = let bad : ⊥ = cc in absurd bad
not-less x (Some y) h = (y, refl, not-lt x y h)
  where
    not-lt : (x y : ℕ) → nat_lt x y ≡ false → y ≤ x
    not-lt x y h = grind (arith, nat_tests)

-- a table of walks that no hop improves is the least
pub still-least : (n most : ℕ) (hops : List Hop) (table : List (Option ℕ)) → IsHopTable n most hops table
    → ((e : ℕ) → e < length hops → IfSome (slice_get hops e) (λ h. improves table h ≡ false)) → AreLeastCosts hops table
still-least n most hops table kept still = stable_least (hop_graph hops) (IsLastHop hops) (costs hops) (number_in_table table) kept.reached ends steps
  where
    ends : (e : ℕ) → e < length hops → last_of (slice_get hops e) ≡ true → (x : ℕ) × (number_in_table table (hop_tail (slice_get hops e)) ≡ Some x) × (x ≤ hop_cost (slice_get hops e))
    ends e lt last = go (slice_get hops e) (still e lt) last
      where
        by_way : (h : Hop) (w : Way) → is_last w ≡ true → is_less (offered_by table h.cost w) (number_in_table table h.tail) ≡ false → (x : ℕ) × (number_in_table table h.tail ≡ Some x) × (x ≤ h.cost)
        by_way h Last last better = not-less h.cost (number_in_table table h.tail) better
        by_way h (To u) last better = let bad : ⊥ = cc in absurd bad
        by_way h Stop last better = let bad : ⊥ = cc in absurd bad

        go : (o : Option Hop) → IfSome o (λ h. improves table h ≡ false) → last_of o ≡ true → (x : ℕ) × (number_in_table table (hop_tail o) ≡ Some x) × (x ≤ hop_cost o)
        go None better last = let bad : ⊥ = cc in absurd bad
        go (Some h) better last = by_way h h.way last better

    steps : (e u y : ℕ) → e < length hops → head_of (slice_get hops e) ≡ Some u → number_in_table table u ≡ Some y → (x : ℕ) × (number_in_table table (hop_tail (slice_get hops e)) ≡ Some x) × (x ≤ hop_cost (slice_get hops e) + y)
    steps e u y lt to at = go (slice_get hops e) (still e lt) to
      where
        by_way : (h : Hop) (w : Way) → way_place w ≡ Some u → is_less (offered_by table h.cost w) (number_in_table table h.tail) ≡ false → (x : ℕ) × (number_in_table table h.tail ≡ Some x) × (x ≤ h.cost + y)
        by_way h Last to better = let bad : ⊥ = cc in absurd bad
        by_way h (To v) to better =
            let same : v ≡ u = cc in
            let got : offer_of_hop h.cost (number_in_table table v) ≡ Some (h.cost + y) = ap (λ i. offer_of_hop h.cost (number_in_table table i)) same ∙ ap (offer_of_hop h.cost) at in
            not-less (h.cost + y) (number_in_table table h.tail) (subst (λ o. is_less o (number_in_table table h.tail) ≡ false) got better)
        by_way h Stop to better = let bad : ⊥ = cc in absurd bad

        go : (o : Option Hop) → IfSome o (λ h. improves table h ≡ false) → head_of o ≡ Some u → (x : ℕ) × (number_in_table table (hop_tail o) ≡ Some x) × (x ≤ hop_cost o + y)
        go None better to = let bad : ⊥ = cc in absurd bad
        go (Some h) better to = by_way h h.way to better

-- a pass over the hops, before hop k
pub record IsPassed (n most : ℕ) (hops : List Hop) (initial table : List (Option ℕ)) (changed : Bool) (k : ℕ) : Type 0 where
  pub table_kept : IsHopTable n most hops table
  pub falls : changed ≡ true → fall (n * most) table < fall (n * most) initial
  pub same : changed ≡ false → table ≡ initial
  pub still : changed ≡ false → (i : ℕ) → i < k → IfSome (slice_get hops i) (λ h. improves table h ≡ false)

module _ (n most : ℕ) (hops : List Hop) (initial table : List (Option ℕ)) (changed : Bool) (k : ℕ) (h : Hop) (before : IsPassed n most hops initial table changed k) (at : slice_get hops k ≡ Some h) where
  pub passed-changed : IsHop n most h → improves table h ≡ true → IsPassed n most hops initial (relaxed table h) true (k + 1)
  passed-changed good better = record {
    table_kept = relaxed-kept n most hops table before.table_kept k h at good;
    falls = λ t. (let less : fall (n * most) (relaxed table h) < fall (n * most) table = relaxed-falls n most hops table before.table_kept k h at good better in
        let from : fall (n * most) table ≤ fall (n * most) initial = so_far changed refl in
        let r : fall (n * most) (relaxed table h) < fall (n * most) initial = omega arith in r);
    same = λ f. absurd (let bad : ⊥ = cc in bad);
    still = λ f. absurd (let bad : ⊥ = cc in bad);
  }
    where
      so_far : (b : Bool) → changed ≡ b → fall (n * most) table ≤ fall (n * most) initial
      so_far true is = let lt : fall (n * most) table < fall (n * most) initial = before.falls is in omega arith
      so_far false is = let q : fall (n * most) table ≡ fall (n * most) initial = ap (fall (n * most)) (before.same is) in omega arith

  pub passed-same : improves table h ≡ false → IsPassed n most hops initial (relaxed table h) changed (k + 1)
  passed-same worse =
      subst (λ t. IsPassed n most hops initial t changed (k + 1)) (sym (relaxed-same table h worse)) (record {
        table_kept = before.table_kept;
        falls = before.falls;
        same = before.same;
        still = λ f i lt. ⊎_elim (λ low. before.still f i low) (λ is. subst (λ o. IfSome o (λ x. improves table x ≡ false)) (sym at ∙ ap (slice_get hops) (sym is)) worse) (below_suc i k lt);
      })
    where
      below_suc : (i k : ℕ) → i < k + 1 → (i < k) ⊎ (i ≡ k)
      below_suc i k h = grind arith

pub get-some : (xs : List Hop) (i : ℕ) (d : Hop) → i < length xs → slice_get xs i ≡ Some (slice_index_or xs i d)
get-some [] i d lt = let bad : ⊥ = omega arith in absurd bad
get-some (x ∷ xs) zero d lt = refl
get-some (x ∷ xs) (suc i) d lt = get-some xs i d (omega arith)

from : (n a : ℕ) → fold (λ (a : ℕ) (o : Option ℕ). a + absent o) a (replicate n None) ≡ a + n
from zero a = omega arith
from (suc n) a = let ih : fold (λ (a : ℕ) (o : Option ℕ). a + absent o) (a + 1) (replicate n None) ≡ a + 1 + n = from n (a + 1) in omega arith
