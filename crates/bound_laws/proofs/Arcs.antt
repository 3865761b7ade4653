-- Wrapped intervals hold what is computed from numbers in them.
use Rattle.std.proofs.Common.{◌≡◌, ◌≢◌, ℕ, ◌+◌, ◌-◌, ◌*◌, ◌/◌, ◌<◌, ◌≤◌, ◌%◌, ◌^◌, ⊎_elim, inl, inr, Bool, true, false, sym, ap, ◌∙◌, subst, arith, Option, Some, None}
use Rattle.std.specs.Prelude.{◌⊎◌, ◌==◌, ◌&&◌, nat_lt, min, bit_and}
use Rattle.std.proofs.lemmas.Bool.{cases_lt, cond_both, and_parts, ltb-true, eqb-true, eqb-false}
use Rattle.std.proofs.Math.Nat.{add-mul, mul-add, mul-sub, mul_assoc, zero-mul, div-add-mod, lt_of_mul-lt-mul_left, mul-le-mul_left, mul-le-mul_right, mul_comm, mul_right_comm}
use Rattle.std.proofs.lemmas.Nat.{and_comm, and_le_l, and_le_r, and_mask}
use Rattle.scale_base.specs.Arith.{plus, one_if}
use Rattle.bound_laws.specs.Values.{Arc, IsMultiple, ahead, IsIn, IsHeld, IsPart, IsAll, Covers, arc, strided, is_whole, common_stride, word, exactly, top, sum_of, sum_with, negated, negated_of, times, difference_of, is_mask, goes_round, common, common_of, truth, multiple, scaled, multiple_from, part, meet, meet_of, without, Interval, plain, biased, below, above, at_most, at_least, both, without_one}

-- ---- multiples

pub all_multiples : (n : ℕ) → IsMultiple 1 n
all_multiples n = (n, (let e : n ≡ 1 * n = omega arith in e))

pub multiple_same : (s x y : ℕ) → x ≡ y → IsMultiple s x → IsMultiple s y
multiple_same s x y e m = subst (IsMultiple s) e m

multiples_add : (s x y : ℕ) → IsMultiple s x → IsMultiple s y → IsMultiple s (x + y)
multiples_add s x y a b = (a.0 + b.0, ap (λ n. n + y) a.1 ∙ (ap (λ n. s * a.0 + n) b.1 ∙ sym (mul-add s a.0 b.0)))

multiples_sub : (s x y : ℕ) → IsMultiple s x → IsMultiple s y → IsMultiple s (x - y)
multiples_sub s x y a b = (a.0 - b.0, ap (λ n. n - y) a.1 ∙ (ap (λ n. s * a.0 - n) b.1 ∙ sym (mul-sub s a.0 b.0)))

multiple_of : (s t x : ℕ) → IsMultiple s t → IsMultiple t x → IsMultiple s x
multiple_of s t x a b = (a.0 * b.0, b.1 ∙ (ap (λ n. n * b.0) a.1 ∙ mul_assoc s a.0 b.0))

none_of : (x : ℕ) → IsMultiple 0 x → x ≡ 0
none_of x m = let a = m.1 in let e : 0 * m.0 ≡ 0 = zero-mul m.0 in a ∙ e

itself_multiple : (s : ℕ) → IsMultiple s s
itself_multiple s = (1, (let e : s ≡ s * 1 = omega arith in e))

common_add : (s t x y : ℕ) → IsMultiple s x → IsMultiple t y → IsMultiple (common_stride s t) (x + y)
common_add s t x y a b =
    let P : ℕ → Type 0 = λ n. IsMultiple n (x + y) in
    cond_both (s == 0) _ _ P
    (λ h. let z : x ≡ 0 = none_of x (subst (λ n. IsMultiple n x) (eqb-true s 0 h) a) in multiple_same t y (x + y) (let e : y ≡ x + y = omega arith in e) b)
    (λ _. cond_both (t == 0) _ _ P
    (λ h. let z : y ≡ 0 = none_of y (subst (λ n. IsMultiple n y) (eqb-true t 0 h) b) in multiple_same s x (x + y) (let e : x ≡ x + y = omega arith in e) a)
    (λ _. cond_both (s == t) _ _ P
    (λ h. multiples_add s x y a (subst (λ n. IsMultiple n y) (sym (eqb-true s t h)) b))
    (λ _. all_multiples (x + y))))

whole_multiple : (i : Arc) → is_whole i ≡ true → (i.more < 2 ^ 32) × IsMultiple i.stride i.more
whole_multiple i h =
    let p = and_parts (nat_lt i.more (2 ^ 32)) (i.more % i.stride == 0) h in
    let z : i.more % i.stride ≡ 0 = eqb-true (i.more % i.stride) 0 p.1 in
    let d = div-add-mod i.more i.stride in
    (ltb-true i.more (2 ^ 32) p.0, (i.more / i.stride, (let e : i.more ≡ i.stride * (i.more / i.stride) = omega arith in e)))

-- a multiple below another is a stride below it
below_multiple : (s x y : ℕ) → IsMultiple s x → IsMultiple s y → x < y → x + s ≤ y
below_multiple s x y a b lt =
    let l : s * a.0 < s * b.0 = subst (λ n. n < s * b.0) a.1 (subst (λ n. x < n) b.1 lt) in
    let k : a.0 < b.0 = lt_of_mul-lt-mul_left s l in
    let c : s * (a.0 + 1) ≤ s * b.0 = mul-le-mul_left s (let q : a.0 + 1 ≤ b.0 = omega arith in q) in
    let e : s * (a.0 + 1) ≡ s * a.0 + s * 1 = mul-add s a.0 1 in
    let f = a.1 in
    let g = b.1 in
    omega arith

-- ---- intervals

near_start : (low v : ℕ) → low < 2 ^ 32 → v < 2 ^ 32 → (v + (2 ^ 32 - low)) % 2 ^ 32 ≤ 2 ^ 32 - 1
near_start low v a b = omega arith

pub in_arc : (low more v : ℕ) → v < 2 ^ 32 → low < 2 ^ 32 → ahead low v ≤ more → IsIn (arc low more) v
in_arc low more v a b c = record { word = a; start = b; near = c; step = all_multiples (ahead low v) }

pub in_word : (v : ℕ) → v < 2 ^ 32 → IsHeld word v
in_word v h = in_arc 0 (2 ^ 32 - 1) v h (omega arith) (near_start 0 v (omega arith) h)

from_zero : (v more : ℕ) → v < 2 ^ 32 → v ≤ more → (v + (2 ^ 32 - 0)) % 2 ^ 32 ≤ more
from_zero v more a b = omega arith

pub in_low : (v more : ℕ) → v < 2 ^ 32 → v ≤ more → IsHeld (Some (arc 0 more)) v
in_low v more a b = in_arc 0 more v a (omega arith) (from_zero v more a b)

itself : (v : ℕ) → v < 2 ^ 32 → (v + (2 ^ 32 - v)) % 2 ^ 32 ≡ 0
itself v h = omega arith

pub in_exactly : (v : ℕ) → IsHeld (exactly v) v
in_exactly v = cond_both (nat_lt v (2 ^ 32)) _ _ (λ k. IsHeld k v)
    (λ h. let small : v < 2 ^ 32 = ltb-true v (2 ^ 32) h in let e = itself v small in
    record { word = small; start = small; near = omega arith; step = (0, e ∙ sym (zero-mul 0)) }) (λ _. tt)

covered : (big low v : ℕ) → big < 2 ^ 32 → low < 2 ^ 32 → v < 2 ^ 32 → (low + (2 ^ 32 - big)) % 2 ^ 32 + (v + (2 ^ 32 - low)) % 2 ^ 32 < 2 ^ 32 → (low + (2 ^ 32 - big)) % 2 ^ 32 + (v + (2 ^ 32 - low)) % 2 ^ 32 ≡ (v + (2 ^ 32 - big)) % 2 ^ 32
covered big low v a b c d = omega arith

pub in_covers : (i j : Option Arc) (v : ℕ) → IsHeld i v → Covers j i → IsHeld j v
in_covers i None v is c = tt
in_covers None (Some j) v is c = absurd c
in_covers (Some i) (Some j) v is c = ⊎_elim
    (λ (p : IsPart j i).
    let d = is.near in
    let a = p.0 in
    let b = p.1 in
    let e : ahead j.low i.low + ahead i.low v ≡ ahead j.low v = covered j.low i.low v c.0 is.start is.word (omega arith) in
    record {
      word = is.word;
      start = c.0;
      near = omega arith;
      step = multiple_same j.stride (ahead j.low i.low + ahead i.low v) (ahead j.low v) e (multiples_add j.stride (ahead j.low i.low) (ahead i.low v) p.2 (multiple_of j.stride i.stride (ahead i.low v) p.3 is.step));
    })
    (λ (p : IsAll j). record {
      word = is.word;
      start = c.0;
      near = (let a = near_start j.low v c.0 is.word in let b = p.0 in omega arith);
      step = subst (λ n. IsMultiple n (ahead j.low v)) (sym p.1) (all_multiples (ahead j.low v));
    }) c.1

summed : (l m a b : ℕ) → l < 2 ^ 32 → m < 2 ^ 32 → a < 2 ^ 32 → b < 2 ^ 32 → (a + (2 ^ 32 - l)) % 2 ^ 32 + (b + (2 ^ 32 - m)) % 2 ^ 32 < 2 ^ 32 →
    (a + (2 ^ 32 - l)) % 2 ^ 32 + (b + (2 ^ 32 - m)) % 2 ^ 32 ≡ ((a + b) % 2 ^ 32 + (2 ^ 32 - (l + m) % 2 ^ 32)) % 2 ^ 32
summed l m a b h i j k s = omega arith

plus_small : (a b : ℕ) → plus a b < 2 ^ 32
plus_small a b = omega arith

pub sum_in : (i j : Option Arc) (a b : ℕ) → IsHeld i a → IsHeld j b → IsHeld (sum_of i j) (plus a b)
sum_in None j a b x y = in_word (plus a b) (plus_small a b)
sum_in (Some i) None a b x y = in_word (plus a b) (plus_small a b)
sum_in (Some i) (Some j) a b x y = cond_both (nat_lt (i.more + j.more) (2 ^ 32)) _ _ (λ k. IsHeld k (plus a b))
    (λ h.
    let small : i.more + j.more < 2 ^ 32 = ltb-true (i.more + j.more) (2 ^ 32) h in
    let p = x.near in
    let q = y.near in
    let e : ahead i.low a + ahead j.low b ≡ ahead (plus i.low j.low) (plus a b) = summed i.low j.low a b x.start y.start x.word y.word (omega arith) in
    record {
      word = plus_small a b;
      start = plus_small i.low j.low;
      near = omega arith;
      step = multiple_same (common_stride i.stride j.stride) (ahead i.low a + ahead j.low b) (ahead (plus i.low j.low) (plus a b)) e (common_add i.stride j.stride (ahead i.low a) (ahead j.low b) x.step y.step);
    })
    (λ _. in_word (plus a b) (plus_small a b))

moved : (l n a : ℕ) → l < 2 ^ 32 → a < 2 ^ 32 → ((a + n) % 2 ^ 32 + (2 ^ 32 - (l + n) % 2 ^ 32)) % 2 ^ 32 ≡ (a + (2 ^ 32 - l)) % 2 ^ 32
moved l n a h k = omega arith

pub sum_with_in : (i : Option Arc) (n a : ℕ) → IsHeld i a → IsHeld (sum_with i n) (plus a n)
sum_with_in None n a x = in_word (plus a n) (plus_small a n)
sum_with_in (Some i) n a x = record {
  word = plus_small a n;
  start = plus_small i.low n;
  near = subst (λ k. k ≤ i.more) (sym (moved i.low n a x.start x.word)) x.near;
  step = subst (IsMultiple i.stride) (sym (moved i.low n a x.start x.word)) x.step;
}

turned_round : (l m a : ℕ) → l < 2 ^ 32 → a < 2 ^ 32 → (a + (2 ^ 32 - l)) % 2 ^ 32 ≤ m → ((2 ^ 32 - a) % 2 ^ 32 + (2 ^ 32 - (2 ^ 32 - (l + m) % 2 ^ 32) % 2 ^ 32)) % 2 ^ 32 ≤ m
turned_round l m a h k n = omega arith

turned_to : (l m a : ℕ) → l < 2 ^ 32 → a < 2 ^ 32 → (a + (2 ^ 32 - l)) % 2 ^ 32 ≤ m → m < 2 ^ 32 → m - (a + (2 ^ 32 - l)) % 2 ^ 32 ≡ ((2 ^ 32 - a) % 2 ^ 32 + (2 ^ 32 - (2 ^ 32 - (l + m) % 2 ^ 32) % 2 ^ 32)) % 2 ^ 32
turned_to l m a h k n s = omega arith

pub negated_in : (i : Arc) (a : ℕ) → IsIn i a → IsIn (negated i) ((2 ^ 32 - a) % 2 ^ 32)
negated_in i a x = record {
  word = (let e : (2 ^ 32 - a) % 2 ^ 32 < 2 ^ 32 = omega arith in e);
  start = (let e : (2 ^ 32 - plus i.low i.more) % 2 ^ 32 < 2 ^ 32 = omega arith in e);
  near = turned_round i.low i.more a x.start x.word x.near;
  step = cond_both (is_whole i) i.stride 1 (λ n. IsMultiple n (ahead (negated i).low ((2 ^ 32 - a) % 2 ^ 32)))
      (λ h. let w = whole_multiple i h in
      multiple_same i.stride (i.more - ahead i.low a) (ahead (negated i).low ((2 ^ 32 - a) % 2 ^ 32)) (turned_to i.low i.more a x.start x.word x.near w.0) (multiples_sub i.stride i.more (ahead i.low a) w.1 x.step))
      (λ _. all_multiples (ahead (negated i).low ((2 ^ 32 - a) % 2 ^ 32)));
}

minus : (a b : ℕ) → (a + (2 ^ 32 - b)) % 2 ^ 32 ≡ (a + (2 ^ 32 - b) % 2 ^ 32) % 2 ^ 32
minus a b = omega arith

pub difference_in : (i j : Option Arc) (a b : ℕ) → IsHeld i a → IsHeld j b → IsHeld (difference_of i j) ((a + (2 ^ 32 - b)) % 2 ^ 32)
difference_in i None a b x y = in_word ((a + (2 ^ 32 - b)) % 2 ^ 32) (omega arith)
difference_in i (Some j) a b x y = subst (λ v. IsHeld (sum_of i (Some (negated j))) v) (sym (minus a b)) (sum_in i (Some (negated j)) a ((2 ^ 32 - b) % 2 ^ 32) x (negated_in j b y))

under : (l m a : ℕ) → l < 2 ^ 32 → a < 2 ^ 32 → (a + (2 ^ 32 - l)) % 2 ^ 32 ≤ m → l + m < 2 ^ 32 → a ≤ l + m
under l m a h k n s = omega arith

pub below_top : (i : Arc) (a : ℕ) → IsIn i a → a ≤ top i
below_top i a x = cond_both (nat_lt (i.low + i.more) (2 ^ 32)) _ _ (λ n. a ≤ n)
    (λ h. under i.low i.more a x.start x.word x.near (ltb-true (i.low + i.more) (2 ^ 32) h))
    (λ _. let w = x.word in omega arith)

-- of a mask
masks : (j : Arc) (m : ℕ) → IsIn j m → is_mask j ≡ true → (m ≡ 2 ^ 32 - 1) ⊎ (m ≡ 0)
masks j m x h =
    let p = and_parts (j.low == 2 ^ 32 - 1) (nat_lt j.more 2) h in
    let low : j.low ≡ 2 ^ 32 - 1 = eqb-true j.low (2 ^ 32 - 1) p.0 in
    let few : j.more < 2 = ltb-true j.more 2 p.1 in
    let near : (m + (2 ^ 32 - j.low)) % 2 ^ 32 ≤ j.more = x.near in
    let small : m < 2 ^ 32 = x.word in
    ⊎_elim (λ (l : m < 2 ^ 32 - 1). inr (omega arith)) (λ (l : 2 ^ 32 - 1 ≤ m). inl (omega arith)) (cases_lt m (2 ^ 32 - 1))

masked_in : (i : Arc) (a m : ℕ) → IsIn i a → (m ≡ 2 ^ 32 - 1) ⊎ (m ≡ 0) → goes_round i ≡ true → IsIn (arc i.low i.more) (bit_and a m)
masked_in i a m x is round =
    let far : 2 ^ 32 - 1 < i.low + i.more = ltb-true (2 ^ 32 - 1) (i.low + i.more) round in
    let start : i.low < 2 ^ 32 = x.start in
    let word : a < 2 ^ 32 = x.word in
    ⊎_elim
    (λ (all : m ≡ 2 ^ 32 - 1).
    let e : bit_and a (2 ^ 32 - 1) ≡ a % 2 ^ 32 = and_mask a 32 in
    let same : a ≡ bit_and a (2 ^ 32 - 1) = omega arith in
    subst (λ n. IsIn (arc i.low i.more) (bit_and a n)) (sym all) (subst (λ n. IsIn (arc i.low i.more) n) same (in_arc i.low i.more a word start x.near)))
    (λ (none : m ≡ 0).
    let e : bit_and a 0 ≤ 0 = and_le_r a 0 in
    let same : 0 ≡ bit_and a 0 = omega arith in
    subst (λ n. IsIn (arc i.low i.more) (bit_and a n)) (sym none) (subst (λ n. IsIn (arc i.low i.more) n) same (in_arc i.low i.more 0 (omega arith) start (omega arith))))
    is

least_in : (i j : Arc) (a b : ℕ) → IsIn i a → IsIn j b → IsIn (arc 0 (min (top i) (top j))) (bit_and a b)
least_in i j a b x y =
    let p = and_le_l a b in let q = below_top i a x in let w = x.word in
    let s = and_le_r a b in let u = below_top j b y in
    in_low (bit_and a b) (min (top i) (top j)) (omega arith) (omega arith)

both_bits_in : (i j : Arc) (a b : ℕ) → IsIn i a → IsIn j b → IsIn (common i j) (bit_and a b)
both_bits_in i j a b x y = cond_both (is_mask j && goes_round i) _ _ (λ k. IsIn k (bit_and a b))
    (λ h. let p = and_parts (is_mask j) (goes_round i) h in masked_in i a b x (masks j b y p.0) p.1)
    (λ _. cond_both (is_mask i && goes_round j) _ _ (λ k. IsIn k (bit_and a b))
    (λ h. let p = and_parts (is_mask i) (goes_round j) h in subst (λ n. IsIn (arc j.low j.more) n) (and_comm b a) (masked_in j b a y (masks i a x p.0) p.1))
    (λ _. least_in i j a b x y))

pub common_in : (i j : Option Arc) (a b : ℕ) → IsHeld i a → IsHeld j b → IsHeld (common_of i j) (bit_and a b)
common_in None None a b x y = tt
common_in None (Some j) a b x y = let p = and_le_r a b in let q = below_top j b y in let w = y.word in in_low (bit_and a b) (top j) (omega arith) (omega arith)
common_in (Some i) None a b x y = let p = and_le_l a b in let q = below_top i a x in let w = x.word in in_low (bit_and a b) (top i) (omega arith) (omega arith)
common_in (Some i) (Some j) a b x y = both_bits_in i j a b x y

pub truth_in : (b : Bool) → IsHeld truth (one_if b)
truth_in true = in_low 1 1 (omega arith) (omega arith)
truth_in false = in_low 0 1 (omega arith) (omega arith)

pub over : (l m a : ℕ) → l < 2 ^ 32 → a < 2 ^ 32 → (a + (2 ^ 32 - l)) % 2 ^ 32 ≤ m → l + m < 2 ^ 32 → l ≤ a
over l m a h k n s = omega arith

-- ---- multiples

pub small_one : (v : ℕ) → v < 2 ^ 32 → v % 2 ^ 32 ≡ v
small_one v h = omega arith

-- a word is so far behind another, or comes round to it
behind : (l v : ℕ) → l < 2 ^ 32 → v < 2 ^ 32 → (v ≡ l + (v + (2 ^ 32 - l)) % 2 ^ 32) ⊎ (v + 2 ^ 32 ≡ l + (v + (2 ^ 32 - l)) % 2 ^ 32)
behind l v a b = ⊎_elim (λ (h : v < l). inr (round l v a b h)) (λ (h : l ≤ v). inl (on l v a b h)) (cases_lt v l)
  where
    round : (l v : ℕ) → l < 2 ^ 32 → v < 2 ^ 32 → v < l → v + 2 ^ 32 ≡ l + (v + (2 ^ 32 - l)) % 2 ^ 32
    round l v a b h = omega arith

    on : (l v : ℕ) → l < 2 ^ 32 → v < 2 ^ 32 → l ≤ v → v ≡ l + (v + (2 ^ 32 - l)) % 2 ^ 32
    on l v a b h = omega arith

multiples_behind : (l v d f : ℕ) → (v ≡ l + d) ⊎ (v + 2 ^ 32 ≡ l + d) → v * f % 2 ^ 32 ≡ (l * f + d * f) % 2 ^ 32
multiples_behind l v d f = ⊎_elim
    (λ (e : v ≡ l + d). ap (λ n. n % 2 ^ 32) (ap (λ n. n * f) e ∙ add-mul l d f))
    (λ (e : v + 2 ^ 32 ≡ l + d). (let w : v * f + 2 ^ 32 * f ≡ l * f + d * f = sym (add-mul v (2 ^ 32) f) ∙ (ap (λ n. n * f) e ∙ add-mul l d f) in omega arith))

so_far : (p q e : ℕ) → q % 2 ^ 32 ≡ (p + e) % 2 ^ 32 → e < 2 ^ 32 → (q % 2 ^ 32 + (2 ^ 32 - p % 2 ^ 32)) % 2 ^ 32 ≡ e
so_far p q e h k = omega arith

pub times_in : (i : Option Arc) (f v : ℕ) → IsHeld i v → IsHeld (times i f) (v * f % 2 ^ 32)
times_in None f v x = in_word (v * f % 2 ^ 32) (omega arith)
times_in (Some i) f v x = cond_both (nat_lt (i.more * f) (2 ^ 32)) _ _ (λ k. IsHeld k (v * f % 2 ^ 32))
    (λ h.
    let fits : i.more * f < 2 ^ 32 = ltb-true (i.more * f) (2 ^ 32) h in
    let d : ℕ = ahead i.low v in
    let near : d * f ≤ i.more * f = mul-le-mul_right f x.near in
    let e : ahead (i.low * f % 2 ^ 32) (v * f % 2 ^ 32) ≡ d * f = so_far (i.low * f) (v * f) (d * f) (multiples_behind i.low v d f (behind i.low v x.start x.word)) (omega arith) in
    record {
      word = omega arith;
      start = omega arith;
      near = subst (λ n. n ≤ i.more * f) (sym e) near;
      step = (x.step.0, e ∙ (ap (λ n. n * f) x.step.1 ∙ mul_right_comm i.stride x.step.0 f));
    })
    (λ _. in_word (v * f % 2 ^ 32) (omega arith))

-- ---- multiples of registers

one_times : (v : ℕ) → v < 2 ^ 32 → 1 * v % 2 ^ 32 ≡ v
one_times v h = omega arith

minus_times : (v : ℕ) → v < 2 ^ 32 → (2 ^ 32 - 1) * v % 2 ^ 32 ≡ (2 ^ 32 - v) % 2 ^ 32
minus_times v h = omega arith

opposite_sum : (p q v : ℕ) → p + q ≡ 2 ^ 32 * v → (2 ^ 32 - q % 2 ^ 32) % 2 ^ 32 ≡ p % 2 ^ 32
opposite_sum p q v e = omega arith

opposite_times : (factor f v : ℕ) → factor + f ≡ 2 ^ 32 → (2 ^ 32 - v * f % 2 ^ 32) % 2 ^ 32 ≡ factor * v % 2 ^ 32
opposite_times factor f v e = opposite_sum (factor * v) (v * f) v
    (ap (λ n. factor * v + n) (mul_comm v f) ∙ (sym (add-mul factor f v) ∙ ap (λ n. n * v) e))

negated_of_in : (i : Option Arc) (a : ℕ) → a < 2 ^ 32 → IsHeld i a → IsHeld (negated_of i) ((2 ^ 32 - a) % 2 ^ 32)
negated_of_in None a w x = in_word ((2 ^ 32 - a) % 2 ^ 32) (omega arith)
negated_of_in (Some i) a w x = negated_in i a x

multiple_in : (factor : ℕ) (i : Option Arc) (v : ℕ) → IsHeld i v → IsHeld (multiple factor i) (factor * v % 2 ^ 32)
multiple_in factor None v x = in_word (factor * v % 2 ^ 32) (omega arith)
multiple_in factor (Some i) v x =
    let P : Option Arc → Type 0 = λ k. IsHeld k (factor * v % 2 ^ 32) in
    cond_both (factor == 1) _ _ P
    (λ h. let e : factor ≡ 1 = eqb-true factor 1 h in subst (λ n. IsIn i n) (sym (ap (λ f. f * v % 2 ^ 32) e ∙ one_times v x.word)) x)
    (λ _. cond_both (factor == 2 ^ 32 - 1) _ _ P
    (λ h. let e : factor ≡ 2 ^ 32 - 1 = eqb-true factor (2 ^ 32 - 1) h in subst (λ n. IsIn (negated i) n) (sym (ap (λ f. f * v % 2 ^ 32) e ∙ minus_times v x.word)) (negated_in i v x))
    (λ _. cond_both (nat_lt 0 factor && nat_lt factor (2 ^ 31)) _ _ P
    (λ h. let p = and_parts (nat_lt 0 factor) (nat_lt factor (2 ^ 31)) h in
    subst (λ n. IsHeld (times (Some i) factor) n) (ap (λ n. n % 2 ^ 32) (mul_comm v factor)) (times_in (Some i) factor v x))
    (λ _. cond_both (nat_lt factor (2 ^ 32) && nat_lt 0 factor) _ _ P
    (λ h. let p = and_parts (nat_lt factor (2 ^ 32)) (nat_lt 0 factor) h in
    let low : factor < 2 ^ 32 = ltb-true factor (2 ^ 32) p.0 in
    let f : ℕ = 2 ^ 32 - factor in
    let whole : factor + f ≡ 2 ^ 32 = omega arith in
    let k = times_in (Some i) f v x in
    let e : (2 ^ 32 - v * f % 2 ^ 32) % 2 ^ 32 ≡ factor * v % 2 ^ 32 = opposite_times factor f v whole in
    subst (λ n. IsHeld (negated_of (times (Some i) f)) n) e (negated_of_in (times (Some i) f) (v * f % 2 ^ 32) (omega arith) k))
    (λ _. in_word (factor * v % 2 ^ 32) (omega arith)))))

no_times : (v : ℕ) → 0 * v % 2 ^ 32 ≡ 0
no_times v = omega arith

pub scaled_in : (factor : ℕ) (i : Option Arc) (v : ℕ) → IsHeld i v → IsHeld (scaled factor i) (factor * v % 2 ^ 32)
scaled_in factor i v x = cond_both (factor == 0) _ _ (λ k. IsHeld k (factor * v % 2 ^ 32))
    (λ h. let e : factor ≡ 0 = eqb-true factor 0 h in subst (λ n. IsHeld (Some (strided 0 0 0)) n) (sym (ap (λ f. f * v % 2 ^ 32) e ∙ no_times v)) (in_exactly 0))
    (λ _. multiple_in factor i v x)

past_low : (l s v : ℕ) → l < 2 ^ 32 → v < 2 ^ 32 → s ≤ (v + (2 ^ 32 - l)) % 2 ^ 32 → (v + (2 ^ 32 - l)) % 2 ^ 32 - s ≡ (v + (2 ^ 32 - (l + s) % 2 ^ 32)) % 2 ^ 32
past_low l s v a b c = omega arith

not_first : (l v : ℕ) → l < 2 ^ 32 → v < 2 ^ 32 → v ≢ l → 0 < (v + (2 ^ 32 - l)) % 2 ^ 32
not_first l v a b c = omega arith

not_last : (l m v : ℕ) → l < 2 ^ 32 → v < 2 ^ 32 → (v + (2 ^ 32 - l)) % 2 ^ 32 ≤ m → v ≢ (l + m) % 2 ^ 32 → (v + (2 ^ 32 - l)) % 2 ^ 32 < m
not_last l m v a b c d = omega arith

pub without_in : (i : Option Arc) (n v : ℕ) → IsHeld i v → v ≢ n → IsHeld (without i n) v
without_in None n v x ne = tt
without_in (Some i) n v x ne =
    let P : Option Arc → Type 0 = λ k. IsHeld k v in
    let d : ℕ = ahead i.low v in
    cond_both (i.low == n) _ _ P
    (λ h.
    let some : 0 < d = not_first i.low v x.start x.word (λ e. ne (e ∙ eqb-true i.low n h)) in
    let far : 0 + i.stride ≤ d = below_multiple i.stride 0 d (0, (let z : 0 ≡ i.stride * 0 = omega arith in z)) x.step some in
    let far1 : i.stride ≤ d = omega arith in
    let e : d - i.stride ≡ ahead (plus i.low i.stride) v = past_low i.low i.stride v x.start x.word far1 in
    let near = x.near in
    record {
      word = x.word;
      start = plus_small i.low i.stride;
      near = omega arith;
      step = multiple_same i.stride (d - i.stride) (ahead (plus i.low i.stride) v) e (multiples_sub i.stride d i.stride x.step (itself_multiple i.stride));
    })
    (λ _. cond_both (plus i.low i.more == n) _ _ P
    (λ h.
    let lt : d < i.more = not_last i.low i.more v x.start x.word x.near (λ e. ne (e ∙ eqb-true (plus i.low i.more) n h)) in
    record {
      word = x.word;
      start = x.start;
      near = cond_both (is_whole i) i.stride 1 (λ k. d ≤ i.more - k)
          (λ w. let m = whole_multiple i w in let b = below_multiple i.stride d i.more x.step m.1 lt in omega arith) (λ _. omega arith);
      step = x.step;
    })
    (λ _. x))

-- a multiple that is at least so much is at least the first of these
first_multiple : (s p n : ℕ) → IsMultiple s p → n ≤ p → (multiple_from s n ≤ p) × IsMultiple s (multiple_from s n)
first_multiple s p n m le = cond_both (s == 0) _ _ (λ x. (x ≤ p) × IsMultiple s x)
    (λ h. let z : p ≡ 0 = none_of p (subst (λ t. IsMultiple t p) (eqb-true s 0 h) m) in (le, (0, (let e : n ≡ s * 0 = omega arith in e))))
    (λ h.
    let some : s ≢ 0 = eqb-false s 0 h in
    let k : ℕ = m.0 in
    let c : ℕ = (n + (s - 1)) / s in
    let e : p ≡ s * k = m.1 in
    let d = div-add-mod (n + (s - 1)) s in
    let f : s * (k + 1) ≡ s * k + s * 1 = mul-add s k 1 in
    let lt : s * c < s * (k + 1) = omega arith in
    let few : c < k + 1 = lt_of_mul-lt-mul_left s lt in
    let le' : s * c ≤ s * k = mul-le-mul_left s (let q : c ≤ k = omega arith in q) in
    let down : n + (s - 1) - (n + (s - 1)) % s ≡ s * c = omega arith in
    (omega arith, (c, down)))

part_in : (i : Arc) (from to v : ℕ) → IsIn i v → from ≤ ahead i.low v → ahead i.low v ≤ to → IsIn (part i from to) v
part_in i from to v x a b =
    let d : ℕ = ahead i.low v in
    let c : ℕ = multiple_from i.stride from in
    let t = first_multiple i.stride d from x.step a in
    let e : d - c ≡ ahead (plus i.low c) v = past_low i.low c v x.start x.word t.0 in
    let near = x.near in
    cond_both (nat_lt (min i.more to) c) _ _ (λ k. IsIn k v) (λ _. x)
    (λ _. record {
      word = x.word;
      start = plus_small i.low c;
      near = omega arith;
      step = multiple_same i.stride (d - c) (ahead (plus i.low c) v) e (multiples_sub i.stride d c x.step t.1);
    })

-- how far a word is behind another, by way of a third one
near_way : (a b v : ℕ) → a < 2 ^ 32 → b < 2 ^ 32 → v < 2 ^ 32 → ahead a b + ahead b v < 2 ^ 32 → ahead a v ≡ ahead a b + ahead b v
near_way a b v x y z h = omega arith

far_way : (a b v : ℕ) → a < 2 ^ 32 → b < 2 ^ 32 → v < 2 ^ 32 → 2 ^ 32 ≤ ahead a b + ahead b v → ahead a v ≡ ahead a b + ahead b v - 2 ^ 32
far_way a b v x y z h = omega arith

not_near : (a b v : ℕ) → a < 2 ^ 32 → b < 2 ^ 32 → v < 2 ^ 32 → ahead a v < ahead a b → 2 ^ 32 ≤ ahead a b + ahead b v
not_near a b v x y z h = omega arith

pub meet_in : (i j : Arc) (v : ℕ) → IsIn i v → IsIn j v → IsIn (meet i j) v
meet_in i j v x y =
    let d : ℕ = ahead i.low j.low in
    let n : ℕ = ahead j.low v in
    let near : n ≤ j.more = y.near in
    cond_both (nat_lt (d + j.more) (2 ^ 32)) _ _ (λ k. IsIn k v)
    (λ h.
    let l : d + j.more < 2 ^ 32 = ltb-true (d + j.more) (2 ^ 32) h in
    let e : ahead i.low v ≡ d + n = near_way i.low j.low v x.start y.start x.word (omega arith) in
    part_in i d (d + j.more) v x (omega arith) (omega arith))
    (λ _. cond_both (nat_lt i.more d) _ _ (λ k. IsIn k v)
    (λ h.
    let l : i.more < d = ltb-true i.more d h in
    let first : ahead i.low v ≤ i.more = x.near in
    let far : 2 ^ 32 ≤ d + n = not_near i.low j.low v x.start y.start x.word (omega arith) in
    let e : ahead i.low v ≡ d + n - 2 ^ 32 = far_way i.low j.low v x.start y.start x.word far in
    part_in i 0 (d + j.more - 2 ^ 32) v x (omega arith) (omega arith))
    (λ _. cond_both (nat_lt j.more i.more) _ _ (λ k. IsIn k v) (λ _. y) (λ _. x)))

pub meet_of_in : (i j : Option Arc) (v : ℕ) → IsHeld i v → IsHeld j v → IsHeld (meet_of i j) v
meet_of_in None j v x y = y
meet_of_in (Some i) None v x y = x
meet_of_in (Some i) (Some j) v x y = meet_in i j v x y

-- the one number of an interval
pub only_one : (i : Arc) (v : ℕ) → IsIn i v → i.more ≡ 0 → v ≡ i.low
only_one i v x e = at_low i.low v x.start x.word (let a = x.near in omega arith)
  where
    at_low : (l v : ℕ) → l < 2 ^ 32 → v < 2 ^ 32 → (v + (2 ^ 32 - l)) % 2 ^ 32 ≤ 0 → v ≡ l
    at_low l v a b c = omega arith

-- ---- comparisons

abbrev pub IsBetween : Interval → ℕ → Type 0
IsBetween i v = (i.from ≤ v) × (v ≤ i.to)

pub plain_in : (l m v : ℕ) → l < 2 ^ 32 → v < 2 ^ 32 → (v + (2 ^ 32 - l)) % 2 ^ 32 ≤ m → IsBetween (plain l m) v
plain_in l m v a b c = cond_both (nat_lt (l + m) (2 ^ 32)) _ _ (λ i. IsBetween i v)
    (λ h. let s : l + m < 2 ^ 32 = ltb-true (l + m) (2 ^ 32) h in (over l m v a b c s, under l m v a b c s))
    (λ _. (omega arith, omega arith))

pub of_plain : (i : Interval) (v : ℕ) → v < 2 ^ 32 → IsBetween i v → IsIn (arc i.from (i.to - i.from)) v
of_plain i v w h = let a = h.0 in let b = h.1 in in_arc i.from (i.to - i.from) v w (omega arith) (near_from i.from i.to v w a b)
  where
    near_from : (l t v : ℕ) → v < 2 ^ 32 → l ≤ v → v ≤ t → (v + (2 ^ 32 - l)) % 2 ^ 32 ≤ t - l
    near_from l t v a b c = omega arith

biased_near : (l m v : ℕ) → l < 2 ^ 32 → v < 2 ^ 32 → ((v + 2 ^ 31) % 2 ^ 32 + (2 ^ 32 - (l + 2 ^ 31) % 2 ^ 32)) % 2 ^ 32 ≡ (v + (2 ^ 32 - l)) % 2 ^ 32
biased_near l m v a b = moved l (2 ^ 31) v a b

pub biased_in : (l m v : ℕ) → l < 2 ^ 32 → v < 2 ^ 32 → (v + (2 ^ 32 - l)) % 2 ^ 32 ≤ m → IsBetween (plain (biased l) m) (biased v)
biased_in l m v a b c = plain_in (biased l) m (biased v) (plus_small l (2 ^ 31)) (plus_small v (2 ^ 31)) (subst (λ k. k ≤ m) (sym (biased_near l m v a b)) c)

back_near : (l t v : ℕ) → v < 2 ^ 32 → l ≤ (v + 2 ^ 31) % 2 ^ 32 → (v + 2 ^ 31) % 2 ^ 32 ≤ t → (v + (2 ^ 32 - (l + 2 ^ 31) % 2 ^ 32)) % 2 ^ 32 ≤ t - l
back_near l t v a b c = omega arith

pub of_biased : (i : Interval) (v : ℕ) → v < 2 ^ 32 → IsBetween i (biased v) → IsIn (arc (biased i.from) (i.to - i.from)) v
of_biased i v w h = in_arc (biased i.from) (i.to - i.from) v w (plus_small i.from (2 ^ 31)) (back_near i.from i.to v w h.0 h.1)

pub below_in : (i j : Interval) (a b : ℕ) → IsBetween i a → IsBetween j b → a < b → IsBetween (below i j) a
below_in i j a b x y lt = let p = x.0 in let q = x.1 in let r = y.1 in (p, omega arith)

pub above_in : (i j : Interval) (a b : ℕ) → IsBetween i a → IsBetween j b → b < a → IsBetween (above i j) a
above_in i j a b x y lt = let p = x.0 in let q = x.1 in let r = y.0 in (omega arith, q)

pub at_most_in : (i j : Interval) (a b : ℕ) → IsBetween i a → IsBetween j b → a ≤ b → IsBetween (at_most i j) a
at_most_in i j a b x y le = let p = x.0 in let q = x.1 in let r = y.1 in (p, omega arith)

pub at_least_in : (i j : Interval) (a b : ℕ) → IsBetween i a → IsBetween j b → b ≤ a → IsBetween (at_least i j) a
at_least_in i j a b x y le = let p = x.0 in let q = x.1 in let r = y.0 in (omega arith, q)

pub both_in : (i j : Interval) (a : ℕ) → IsBetween i a → IsBetween j a → IsBetween (both i j) a
both_in i j a x y = let p = x.0 in let q = x.1 in let r = y.0 in let s = y.1 in (omega arith, omega arith)

pub without_one_in : (i j : Interval) (a b : ℕ) → IsBetween i a → IsBetween j b → a ≢ b → IsBetween (without_one i j) a
without_one_in i j a b x y ne = (low, high)
  where
    one : (j.from == j.to) ≡ true → b ≡ j.from
    one h = let e : j.from ≡ j.to = eqb-true j.from j.to h in let p = y.0 in let q = y.1 in omega arith

    low : (without_one i j).from ≤ a
    low = cond_both ((j.from == j.to) && (i.from == j.from)) (i.from + 1) i.from (λ n. n ≤ a)
        (λ h. let p = and_parts (j.from == j.to) (i.from == j.from) h in let e = one p.0 in let f : i.from ≡ j.from = eqb-true i.from j.from p.1 in let l = x.0 in omega arith)
        (λ _. x.0)

    high : a ≤ (without_one i j).to
    high = cond_both ((j.from == j.to) && (i.to == j.from)) (i.to - 1) i.to (λ n. a ≤ n)
        (λ h. let p = and_parts (j.from == j.to) (i.to == j.from) h in let e = one p.0 in let f : i.to ≡ j.from = eqb-true i.to j.from p.1 in let l = x.1 in omega arith)
        (λ _. x.1)
