-- What instructions make of relations.
use Rattle.std.proofs.Common.{◌≡◌, ℕ, zero, suc, ◌+◌, ◌-◌, ◌*◌, ◌/◌, ◌<◌, ◌≤◌, ◌%◌, ◌^◌, ◌⊎◌, inl, inr, ⊎_elim, Bool, true, false, refl, sym, ap, ◌∙◌, subst, arith, Option, Some, None}
use Rattle.std.specs.Prelude.{pos, int_div, int_rem, ◌*ℤ◌, ◌==◌, ◌&&◌, not, int_lt, nat_lt, is_some, bit_and, if◌then◌else◌}
use Rattle.std.specs.Int.{w32, int_shr}
use Rattle.std.proofs.lemmas.Int.{to_z_pos}
use Rattle.std.proofs.lemmas.Bool.{and_parts, cond_both, ltb-false, ltb-true, eqb-true, not-true}
use Rattle.std.proofs.lemmas.Nat.{and_le_l, and_le_r, le-div, pow_pos, pow-add}
use Rattle.std.proofs.Math.Nat.{add-mul, div-mul-le_self, div-le_of_le-mul, mul-le-mul_left, mul-le-mul_right, mul_comm, mul_assoc, mod-le, mod-lt, mod-eq_of_lt, pow-le-pow_right}
use Rattle.scale_base.specs.declared.instruction.BranchOp.{BranchOp}
use Rattle.scale_base.specs.declared.instruction.BranchOp.TheVariants.{Beq, Bne, Blt, Bge, Bltu, Bgeu}
use Rattle.scale_base.specs.Arith.{plus, signed, unsigned, upper_half, is_taken}
use Rattle.bound_laws.specs.Values.{Arc, IsHeld, difference_of, negated, sum_of, least_of, top_of}
use Rattle.bound_laws.proofs.Laws.{in_covers, in_word, scaled_in, sum_in, sum_with_in, below_top}
use Rattle.turn_laws.specs.Relating.{Relation, IsError, IsRelated, IsWeaker, moved_by_number, moved_by_arc, moved_back, multiplied, divided, lowered, is_low, are_low, exponent_within, bits_off, is_one, greater, lesser, are_ordered, first_related, second_related}
use Rattle.turn_laws.specs.Relating.Relation.{unknown, ahead_by, below, above, read}

pub low_one : (a : ℕ) → a < 2 ^ 31 → signed a ≡ pos a
low_one a h = to_z_pos w32 a h

-- ---- the ends of intervals

pub over : (l m a : ℕ) → l < 2 ^ 32 → a < 2 ^ 32 → (a + (2 ^ 32 - l)) % 2 ^ 32 ≤ m → l + m < 2 ^ 32 → l ≤ a
over l m a h k n s = omega arith

minus : (a b : ℕ) → b < 2 ^ 32 → (a + (2 ^ 32 - b)) % 2 ^ 32 ≡ (a + (2 ^ 32 - 1) * b % 2 ^ 32) % 2 ^ 32
minus a b h = omega arith

-- a difference is a sum with the number times 2^32 - 1
difference_in : (i j : Option Arc) (a b : ℕ) → IsHeld i a → IsHeld j b → IsHeld (difference_of i j) ((a + (2 ^ 32 - b)) % 2 ^ 32)
difference_in i None a b x y = in_word ((a + (2 ^ 32 - b)) % 2 ^ 32) (omega arith)
difference_in i (Some j) a b x y =
    let back : IsHeld (Some (negated j)) ((2 ^ 32 - 1) * b % 2 ^ 32) = scaled_in (2 ^ 32 - 1) (Some j) b y in
    subst (λ v. IsHeld (sum_of i (Some (negated j))) v) (sym (minus a b y.word)) (sum_in i (Some (negated j)) a ((2 ^ 32 - 1) * b % 2 ^ 32) x back)

pub above_least : (j : Option Arc) (b : ℕ) → IsHeld j b → least_of j ≤ b
above_least None b y = omega arith
above_least (Some j) b y = cond_both (nat_lt (j.low + j.more) (2 ^ 32)) _ _ (λ n. n ≤ b)
    (λ h. over j.low j.more b y.start y.word y.near (ltb-true (j.low + j.more) (2 ^ 32) h)) (λ _. omega arith)

pub under_top : (j : Option Arc) (b : ℕ) → IsHeld j b → b % 2 ^ 32 ≤ top_of j
under_top None b y = omega arith
under_top (Some j) b y = let p = below_top j b y in let q = mod-le b (2 ^ 32) in omega arith

pub least_mod : (j : Option Arc) (b : ℕ) → IsHeld j b → least_of j ≤ b % 2 ^ 32
least_mod None b y = omega arith
least_mod (Some j) b y = let p = above_least (Some j) b y in let w = y.word in let e : b % 2 ^ 32 ≡ b = omega arith in omega arith

word_of : (j : Option Arc) (b : ℕ) → 0 < least_of j → IsHeld j b → b < 2 ^ 32
word_of None b some y = absurd (let bad : ⊥ = omega arith in bad)
word_of (Some j) b some y = y.word

pub held_word : (j : Option Arc) (b : ℕ) → is_some j ≡ true → IsHeld j b → b < 2 ^ 32
held_word None b some y = let bad : ⊥ = cc in absurd bad
held_word (Some j) b some y = y.word

pub held_low : (j : Option Arc) (b : ℕ) → is_low j ≡ true → IsHeld j b → b < 2 ^ 31
held_low None b low y = let bad : ⊥ = cc in absurd bad
held_low (Some j) b low y = let p = ltb-true (top_of (Some j)) (2 ^ 31) low in let q = below_top j b y in omega arith

pub held_more : (j : Option Arc) (n b : ℕ) → nat_lt n (least_of j) ≡ true → IsHeld j b → n < b
held_more j n b low y = let p = ltb-true n (least_of j) low in let q = above_least j b y in omega arith

pub one_held : (j : Option Arc) (n b : ℕ) → is_one j n ≡ true → IsHeld j b → b ≡ n
one_held None n b one y = let bad : ⊥ = cc in absurd bad
one_held (Some j) n b one y =
    let p = and_parts (least_of (Some j) == n) (top_of (Some j) == n) one in
    let low : least_of (Some j) ≡ n = eqb-true (least_of (Some j)) n p.0 in
    let high : top_of (Some j) ≡ n = eqb-true (top_of (Some j)) n p.1 in
    let above = above_least (Some j) b y in
    let under = below_top j b y in
    omega arith

-- ---- weaker relations

-- a greater divisor gives no greater a quotient
less_divided : (s n m : ℕ) → 0 < n → n ≤ m → s / m ≤ s / n
less_divided s n m some k =
    let p : s / m * n ≤ s / m * m = mul-le-mul_left (s / m) k in
    let q : s / m * m ≤ s = div-mul-le_self s m in
    le-div (s / m) s n some (omega arith)

pub divided_less : (s shift further : ℕ) → shift ≤ further → s / 2 ^ further ≤ s / 2 ^ shift
divided_less s shift further h = less_divided s (2 ^ shift) (2 ^ further) (pow_pos shift) (pow-le-pow_right (let e : 0 < 2 = omega arith in e) h)

pub weaker_in : (rest : ℕ) (p q : Relation) (s v : ℕ) → IsRelated rest q s v → IsWeaker p q → IsRelated rest p s v
weaker_in rest unknown q s v h w = tt
weaker_in rest (ahead_by i) (ahead_by j) s v h w = (h.0, in_covers j i h.0 h.1 w, h.2)
weaker_in rest (ahead_by i) unknown s v h w = absurd w
weaker_in rest (ahead_by i) (below l b) s v h w = absurd w
weaker_in rest (ahead_by i) (above m) s v h w = absurd w
weaker_in rest (ahead_by i) (read m) s v h w = absurd w
weaker_in rest (below l b) (below m c) s v h w = let a = w.0 in let d = divided_less s b c w.1 in omega arith
weaker_in rest (below l b) unknown s v h w = absurd w
weaker_in rest (below l b) (ahead_by j) s v h w = absurd w
weaker_in rest (below l b) (above m) s v h w = absurd w
weaker_in rest (below l b) (read m) s v h w = absurd w
weaker_in rest (above m) (above n) s v h w = let r : s + m ≤ v % 2 ^ 32 = omega arith in r
weaker_in rest (above m) unknown s v h w = absurd w
weaker_in rest (above m) (ahead_by j) s v h w = absurd w
weaker_in rest (above m) (below l b) s v h w = absurd w
weaker_in rest (above m) (read l) s v h w = absurd w
weaker_in rest (read m) (read n) s v h w = ⊎_elim (λ (q : rest + v % 2 ^ 32 + n ≤ s). inl (let r : rest + v % 2 ^ 32 + m ≤ s = omega arith in r)) (λ (q : IsError v). inr q) h
weaker_in rest (read m) unknown s v h w = absurd w
weaker_in rest (read m) (ahead_by j) s v h w = absurd w
weaker_in rest (read m) (below l b) s v h w = absurd w
weaker_in rest (read m) (above l) s v h w = absurd w

-- where no more is left of the input than before
pub fewer_in : (rest fewer : ℕ) (p : Relation) (s v : ℕ) → fewer ≤ rest → IsRelated rest p s v → IsRelated fewer p s v
fewer_in rest fewer unknown s v le h = tt
fewer_in rest fewer (ahead_by i) s v le h = h
fewer_in rest fewer (below l b) s v le h = h
fewer_in rest fewer (above m) s v le h = h
fewer_in rest fewer (read l) s v le h = ⊎_elim (λ (q : rest + v % 2 ^ 32 + l ≤ s). inl (let r : fewer + v % 2 ^ 32 + l ≤ s = omega arith in r)) (λ (q : IsError v). inr q) h

-- a value that is the same modulo 2^32
pub same_in : (rest : ℕ) (p : Relation) (s v u : ℕ) → u % 2 ^ 32 ≡ v % 2 ^ 32 → IsRelated rest p s v → IsRelated rest p s u
same_in rest unknown s v u e h = tt
same_in rest (ahead_by i) s v u e h = (h.0, h.1, e ∙ h.2)
same_in rest (below l b) s v u e h = subst (λ n. n + l ≤ s / 2 ^ b) (sym e) h
same_in rest (above m) s v u e h = subst (λ n. s + m ≤ n) (sym e) h
same_in rest (read l) s v u e h = subst (λ n. (rest + n + l ≤ s) ⊎ (2 ^ 31 ≤ n)) (sym e) h

-- ---- sums

more_ahead : (s d v n : ℕ) → v % 2 ^ 32 ≡ (s + d) % 2 ^ 32 → (v + n) % 2 ^ 32 % 2 ^ 32 ≡ (s + (d + n) % 2 ^ 32) % 2 ^ 32
more_ahead s d v n h = omega arith

nothing_added : (v n : ℕ) → n % 2 ^ 32 ≡ 0 → (v + n) % 2 ^ 32 % 2 ^ 32 ≡ v % 2 ^ 32
nothing_added v n h = omega arith

-- what is taken away, and what is added, without wrapping
less_taken : (v n l x : ℕ) → v < 2 ^ 32 → n < 2 ^ 32 → 2 ^ 32 ≤ v + n → v % 2 ^ 32 + l ≤ x → (v + n) % 2 ^ 32 % 2 ^ 32 + (l + (2 ^ 32 - n)) ≤ x
less_taken v n l x a b c h = omega arith

more_added : (v n m s : ℕ) → v % 2 ^ 32 + n < 2 ^ 32 → s + m ≤ v % 2 ^ 32 → s + (m + n) ≤ (v + n) % 2 ^ 32 % 2 ^ 32
more_added v n m s a h = omega arith

more_taken : (v n m s : ℕ) → n < 2 ^ 32 → 2 ^ 32 ≤ m + n → s + m ≤ v % 2 ^ 32 → s + (m + n - 2 ^ 32) ≤ (v + n) % 2 ^ 32 % 2 ^ 32
more_taken v n m s a b h = omega arith

both_added : (v u l m s : ℕ) → v % 2 ^ 32 + u % 2 ^ 32 < 2 ^ 32 → l ≤ u % 2 ^ 32 → s + m ≤ v % 2 ^ 32 → s + (m + l) ≤ (v + u) % 2 ^ 32 % 2 ^ 32
both_added v u l m s a b h = omega arith

less_back : (v u k l x : ℕ) → v < 2 ^ 32 → u < 2 ^ 32 → u ≤ v → k ≤ u → v % 2 ^ 32 + l ≤ x → (v + (2 ^ 32 - u)) % 2 ^ 32 % 2 ^ 32 + (l + k) ≤ x
less_back v u k l x a b c d h = omega arith

pub number_in : (rest : ℕ) (p : Relation) (i : Option Arc) (n s v : ℕ) → IsHeld i v → IsRelated rest p s v → IsRelated rest (moved_by_number p i n) s (plus v n)
number_in rest unknown i n s v k h = tt
number_in rest (ahead_by j) i n s v k h = (plus h.0 n, sum_with_in j n h.0 h.1, more_ahead s h.0 v n h.2)
number_in rest (below l b) i n s v k h = cond_both (n == 0) (below l b) _ (λ p. IsRelated rest p s (plus v n))
    (λ e. same_in rest (below l b) s v (plus v n) (nothing_added v n (ap (λ k. k % 2 ^ 32) (eqb-true n 0 e))) h)
    (λ _. cond_both (nat_lt n (2 ^ 32) && nat_lt (2 ^ 32 - 1) (least_of i + n)) (below (l + (2 ^ 32 - n)) b) unknown (λ p. IsRelated rest p s (plus v n))
    (λ e. let q = and_parts (nat_lt n (2 ^ 32)) (nat_lt (2 ^ 32 - 1) (least_of i + n)) e in
    let a : n < 2 ^ 32 = ltb-true n (2 ^ 32) q.0 in
    let c : 2 ^ 32 - 1 < least_of i + n = ltb-true (2 ^ 32 - 1) (least_of i + n) q.1 in
    let d = above_least i v k in
    let w : v < 2 ^ 32 = word_of i v (omega arith) k in
    less_taken v n l (s / 2 ^ b) w a (omega arith) h) (λ _. tt))
number_in rest (above m) i n s v k h = cond_both (nat_lt (top_of i + n) (2 ^ 32)) (above (m + n)) _ (λ p. IsRelated rest p s (plus v n))
    (λ e. let a : top_of i + n < 2 ^ 32 = ltb-true (top_of i + n) (2 ^ 32) e in let t = under_top i v k in more_added v n m s (omega arith) h)
    (λ _. cond_both (nat_lt n (2 ^ 32) && nat_lt (2 ^ 32 - 1) (m + n)) (above (m + n - 2 ^ 32)) unknown (λ p. IsRelated rest p s (plus v n))
    (λ e. let q = and_parts (nat_lt n (2 ^ 32)) (nat_lt (2 ^ 32 - 1) (m + n)) e in
    let a : n < 2 ^ 32 = ltb-true n (2 ^ 32) q.0 in
    let c : 2 ^ 32 - 1 < m + n = ltb-true (2 ^ 32 - 1) (m + n) q.1 in
    more_taken v n m s a (omega arith) h) (λ _. tt))
number_in rest (read l) i n s v k h = cond_both (n == 0) (read l) unknown (λ p. IsRelated rest p s (plus v n))
    (λ e. same_in rest (read l) s v (plus v n) (nothing_added v n (ap (λ k. k % 2 ^ 32) (eqb-true n 0 e))) h) (λ _. tt)

pub arc_in : (rest : ℕ) (p : Relation) (i j : Option Arc) (s v u : ℕ) → IsHeld i v → IsHeld j u → IsRelated rest p s v → IsRelated rest (moved_by_arc p i j) s (plus v u)
arc_in rest unknown i j s v u g k h = tt
arc_in rest (ahead_by l) i j s v u g k h = (plus h.0 u, sum_in l j h.0 u h.1 k, more_ahead s h.0 v u h.2)
arc_in rest (below l b) i j s v u g k h = cond_both (top_of j == 0) (below l b) unknown (λ p. IsRelated rest p s (plus v u))
    (λ e. let z : top_of j ≡ 0 = eqb-true (top_of j) 0 e in let t = under_top j u k in
    let none : u % 2 ^ 32 ≡ 0 = omega arith in same_in rest (below l b) s v (plus v u) (nothing_added v u none) h) (λ _. tt)
arc_in rest (above m) i j s v u g k h = cond_both (nat_lt (top_of i + top_of j) (2 ^ 32)) (above (m + least_of j)) unknown (λ p. IsRelated rest p s (plus v u))
    (λ e. let a : top_of i + top_of j < 2 ^ 32 = ltb-true (top_of i + top_of j) (2 ^ 32) e in
    let x = under_top i v g in let y = under_top j u k in
    both_added v u (least_of j) m s (omega arith) (least_mod j u k) h) (λ _. tt)
arc_in rest (read l) i j s v u g k h = tt

pub sum_both_in : (rest : ℕ) (p : Relation) (i j : Option Arc) (s v u : ℕ) → IsHeld i v → IsHeld j u → IsRelated rest p s v → IsRelated rest (moved_by_arc p i j) s (plus u v)
sum_both_in rest p i j s v u g k h = subst (λ n. IsRelated rest (moved_by_arc p i j) s (n % 2 ^ 32)) (let e : v + u ≡ u + v = omega arith in e) (arc_in rest p i j s v u g k h)

pub back_in : (rest : ℕ) (p : Relation) (i j : Option Arc) (s v u : ℕ) → IsHeld i v → IsHeld j u → IsRelated rest p s v → IsRelated rest (moved_back p i j) s ((v + (2 ^ 32 - u)) % 2 ^ 32)
back_in rest unknown i j s v u g k h = tt
back_in rest (ahead_by l) i j s v u g k h = ((h.0 + (2 ^ 32 - u)) % 2 ^ 32, difference_in l j h.0 u h.1 k, more_ahead s h.0 v (2 ^ 32 - u) h.2)
back_in rest (below l b) i j s v u g k h = cond_both ((is_some i && is_some j) && not (nat_lt (least_of i) (top_of j))) (below (l + least_of j) b) unknown
    (λ p. IsRelated rest p s ((v + (2 ^ 32 - u)) % 2 ^ 32))
    (λ e. let q = and_parts (is_some i && is_some j) (not (nat_lt (least_of i) (top_of j))) e in
    let both = and_parts (is_some i) (is_some j) q.0 in
    let x : v < 2 ^ 32 = held_word i v both.0 g in
    let y : u < 2 ^ 32 = held_word j u both.1 k in
    let order : top_of j ≤ least_of i = ltb-false (least_of i) (top_of j) (not-true (nat_lt (least_of i) (top_of j)) q.1) in
    let t = under_top j u k in let m : u % 2 ^ 32 ≡ u = mod-eq_of_lt y in let f = above_least i v g in
    less_back v u (least_of j) l (s / 2 ^ b) x y (omega arith) (above_least j u k) h) (λ _. tt)
back_in rest (above m) i j s v u g k h = tt
back_in rest (read l) i j s v u g k h = tt

-- ---- products

power_times : (v n : ℕ) → v * 2 ^ n ≡ v * (2 ^ n - 1) + v
power_times v n =
    let some = pow_pos n in
    let e : 2 ^ n ≡ (2 ^ n - 1) + 1 = omega arith in
    let one : 1 * v ≡ v = omega arith in
    mul_comm v (2 ^ n) ∙ (ap (λ x. x * v) e ∙ (add-mul (2 ^ n - 1) 1 v ∙ (ap (λ x. (2 ^ n - 1) * v + x) one ∙ ap (λ x. x + v) (mul_comm (2 ^ n - 1) v))))

pub product_in : (rest : ℕ) (p : Relation) (i : Option Arc) (n s v : ℕ) → IsHeld i v → IsRelated rest p s v → IsRelated rest (multiplied p i n) s (v * 2 ^ n % 2 ^ 32)
product_in rest unknown i n s v k h = tt
product_in rest (ahead_by j) i n s v k h = tt
product_in rest (below l b) i n s v k h = tt
product_in rest (read l) i n s v k h = tt
product_in rest (above m) i n s v k h = cond_both (is_some i && nat_lt (top_of i * 2 ^ n) (2 ^ 32)) (above (m + least_of i * (2 ^ n - 1))) unknown
    (λ p. IsRelated rest p s (v * 2 ^ n % 2 ^ 32))
    (λ e. let q = and_parts (is_some i) (nat_lt (top_of i * 2 ^ n) (2 ^ 32)) e in
    let w : v < 2 ^ 32 = held_word i v q.0 k in
    let lt : top_of i * 2 ^ n < 2 ^ 32 = ltb-true (top_of i * 2 ^ n) (2 ^ 32) q.1 in
    let t = under_top i v k in let same : v % 2 ^ 32 ≡ v = mod-eq_of_lt w in
    let most : v * 2 ^ n ≤ top_of i * 2 ^ n = mul-le-mul_right (2 ^ n) (let r : v ≤ top_of i = omega arith in r) in
    let least : least_of i * (2 ^ n - 1) ≤ v * (2 ^ n - 1) = mul-le-mul_right (2 ^ n - 1) (above_least i v k) in
    let sum = power_times v n in
    go (v * 2 ^ n) (v * (2 ^ n - 1)) (least_of i * (2 ^ n - 1)) (omega arith) sum least (omega arith)) (λ _. tt)
  where
    go : (x y z : ℕ) → x < 2 ^ 32 → x ≡ y + v → z ≤ y → s + m ≤ v → s + (m + z) ≤ x % 2 ^ 32 % 2 ^ 32
    go x y z a b c d = omega arith

-- ---- divisions

twice_divided : (s b n : ℕ) → s / 2 ^ b / 2 ^ n ≤ s / 2 ^ (b + n)
twice_divided s b n =
    let x : ℕ = s / 2 ^ b / 2 ^ n in
    let p : x * 2 ^ n ≤ s / 2 ^ b = div-mul-le_self (s / 2 ^ b) (2 ^ n) in
    let q : x * 2 ^ n * 2 ^ b ≤ s / 2 ^ b * 2 ^ b = mul-le-mul_right (2 ^ b) p in
    let r : s / 2 ^ b * 2 ^ b ≤ s = div-mul-le_self s (2 ^ b) in
    let e : x * 2 ^ (b + n) ≡ x * 2 ^ n * 2 ^ b = ap (λ y. x * y) (pow-add 2 b n ∙ mul_comm (2 ^ b) (2 ^ n)) ∙ sym (mul_assoc x (2 ^ n) (2 ^ b)) in
    le-div x s (2 ^ (b + n)) (pow_pos (b + n)) (omega arith)

order_divided : (a b n : ℕ) → 0 < n → a ≤ b → a / n ≤ b / n
order_divided a b n some h =
    let q : a / n * n ≤ a = div-mul-le_self a n in
    le-div (a / n) b n some (omega arith)

pub divided_in : (rest : ℕ) (p : Relation) (n : ℕ) (word : Bool) (s v u : ℕ) → (word ≡ true → u % 2 ^ 32 ≤ v % 2 ^ 32 / 2 ^ n) → IsRelated rest p s v → IsRelated rest (divided p n word) s u
divided_in rest unknown n word s v u h k = tt
divided_in rest (ahead_by i) n word s v u h k = tt
divided_in rest (above m) n word s v u h k = tt
divided_in rest (read l) n word s v u h k = tt
divided_in rest (below l b) n word s v u h k = cond_both word (below 0 (b + n)) unknown (λ p. IsRelated rest p s u)
    (λ e. let a = h e in
    let c : v % 2 ^ 32 / 2 ^ n ≤ s / 2 ^ b / 2 ^ n = order_divided (v % 2 ^ 32) (s / 2 ^ b) (2 ^ n) (pow_pos n) (omega arith) in
    let d = twice_divided s b n in
    let r : u % 2 ^ 32 + 0 ≤ s / 2 ^ (b + n) = omega arith in r) (λ _. tt)

pub lowered_in : (rest : ℕ) (p : Relation) (n : ℕ) (word : Bool) (s v u : ℕ) → (word ≡ true → u % 2 ^ 32 + n ≤ v % 2 ^ 32) → IsRelated rest p s v → IsRelated rest (lowered p n word) s u
lowered_in rest unknown n word s v u h k = tt
lowered_in rest (ahead_by i) n word s v u h k = tt
lowered_in rest (above m) n word s v u h k = tt
lowered_in rest (read l) n word s v u h k = tt
lowered_in rest (below l b) n word s v u h k = cond_both word (below (l + n) b) unknown (λ p. IsRelated rest p s u)
    (λ e. let a = h e in let r : u % 2 ^ 32 + (l + n) ≤ s / 2 ^ b = omega arith in r) (λ _. tt)

-- ---- results

small_below : (x y v : ℕ) → v < 2 ^ 32 → x ≤ v / y → x % 2 ^ 32 ≤ v % 2 ^ 32 / y
small_below x y v small h = subst (λ n. x % 2 ^ 32 ≤ n / y) (sym (mod-eq_of_lt small)) (let q = mod-le x (2 ^ 32) in let r : x % 2 ^ 32 ≤ v / y = omega arith in r)

pub and_less : (a n : ℕ) → a < 2 ^ 32 → bit_and a n % 2 ^ 32 + 0 ≤ a % 2 ^ 32
and_less a n small = let p = and_le_l a n in omega arith

pub and_less_too : (a n : ℕ) → n < 2 ^ 32 → bit_and a n % 2 ^ 32 + 0 ≤ n % 2 ^ 32
and_less_too a n small = let p = and_le_r a n in omega arith

pub shifted_less : (a n : ℕ) → a < 2 ^ 32 → a / 2 ^ n % 2 ^ 32 ≤ a % 2 ^ 32 / 2 ^ n
shifted_less a n small = small_below (a / 2 ^ n) (2 ^ n) a small (let r : a / 2 ^ n ≤ a / 2 ^ n = omega arith in r)

pub signed_shifted : (a n : ℕ) → a < 2 ^ 31 → unsigned (int_shr (signed a) n) % 2 ^ 32 ≤ a % 2 ^ 32 / 2 ^ n
signed_shifted a n small = subst (λ z. unsigned (int_shr z n) % 2 ^ 32 ≤ a % 2 ^ 32 / 2 ^ n) (sym (low_one a small)) (go (a / 2 ^ n) (shifted_less a n (let q : a < 2 ^ 32 = omega arith in q)))
  where
    go : (x : ℕ) → x % 2 ^ 32 ≤ a % 2 ^ 32 / 2 ^ n → unsigned (int_shr (pos a) n) % 2 ^ 32 ≤ a % 2 ^ 32 / 2 ^ n
    go x h = let q = shifted_less a n (let q : a < 2 ^ 32 = omega arith in q) in q

pub product_less : (a b : ℕ) → a < 2 ^ 32 → b < 2 ^ 32 → a * b / 2 ^ 32 % 2 ^ 32 ≤ a % 2 ^ 32 / 2 ^ 0
product_less a b small other =
    let p : a * b ≤ a * 2 ^ 32 = mul-le-mul_left a (let q : b ≤ 2 ^ 32 = omega arith in q) in
    let q : a * b / 2 ^ 32 ≤ a = div-le_of_le-mul (2 ^ 32) (let r : a * b ≤ 2 ^ 32 * a = omega arith in r) in
    omega arith

pub product_less_too : (a b : ℕ) → a < 2 ^ 32 → b < 2 ^ 32 → a * b / 2 ^ 32 % 2 ^ 32 ≤ b % 2 ^ 32 / 2 ^ 0
product_less_too a b small other = subst (λ n. n / 2 ^ 32 % 2 ^ 32 ≤ b % 2 ^ 32 / 2 ^ 0) (mul_comm b a) (product_less b a other small)

-- a number that isn't 0 is at least the power of 2 with the exponent that is found for it
exponent_least : (k n : ℕ) → 0 < n → 2 ^ exponent_within k n ≤ n
exponent_least zero n some = some
exponent_least (suc k) n some = cond_both (nat_lt n (2 ^ suc k)) (exponent_within k n) (suc k) (λ e. 2 ^ e ≤ n)
    (λ _. exponent_least k n some) (λ h. ltb-false n (2 ^ suc k) h)

pub off_least : (j : Option Arc) (b : ℕ) → nat_lt 0 (least_of j) ≡ true → IsHeld j b → 2 ^ bits_off j ≤ b
unfolding bits_off
off_least j b some y = let p = exponent_least 31 (least_of j) (ltb-true 0 (least_of j) some) in let q = above_least j b y in omega arith

pub quotient_less : (a b n : ℕ) → a < 2 ^ 32 → 2 ^ n ≤ b → (if b == 0 then 2 ^ 32 - 1 else a / b) % 2 ^ 32 ≤ a % 2 ^ 32 / 2 ^ n
quotient_less a b n small least = let some = pow_pos n in cond_both (b == 0) (2 ^ 32 - 1) (a / b) (λ q. q % 2 ^ 32 ≤ a % 2 ^ 32 / 2 ^ n)
    (λ e. absurd (let z : b ≡ 0 = eqb-true b 0 e in let bad : ⊥ = omega arith in bad))
    (λ _. small_below (a / b) (2 ^ n) a small (less_divided a (2 ^ n) b some least))

pub remainder_less : (a b : ℕ) → b < 2 ^ 32 → 0 < b → (if b == 0 then a else a % b) % 2 ^ 32 + 1 ≤ b % 2 ^ 32
remainder_less a b small some = cond_both (b == 0) a (a % b) (λ n. n % 2 ^ 32 + 1 ≤ b % 2 ^ 32)
    (λ e. absurd (let z : b ≡ 0 = eqb-true b 0 e in let bad : ⊥ = omega arith in bad))
    (λ _. let p : a % b < b = mod-lt a some in let q = mod-le (a % b) (2 ^ 32) in let e : b % 2 ^ 32 ≡ b = mod-eq_of_lt small in omega arith)

-- ---- signed results of numbers that aren't negative

signed_quotient : (a b : ℕ) → a < 2 ^ 31 → b < 2 ^ 31 → unsigned (int_div (signed a) (signed b)) ≡ a / b
signed_quotient a b x y = ap (λ z. unsigned (int_div z (signed b))) (low_one a x) ∙ ap (λ z. unsigned (int_div (pos a) z)) (low_one b y)

signed_remainder : (a b : ℕ) → a < 2 ^ 31 → b < 2 ^ 31 → unsigned (int_rem (signed a) (signed b)) ≡ a % b
signed_remainder a b x y = ap (λ z. unsigned (int_rem z (signed b))) (low_one a x) ∙ ap (λ z. unsigned (int_rem (pos a) z)) (low_one b y)

signed_product : (a b : ℕ) → a < 2 ^ 31 → b < 2 ^ 31 → upper_half (signed a *ℤ signed b) ≡ a * b / 2 ^ 32
signed_product a b x y = ap (λ z. upper_half (z *ℤ signed b)) (low_one a x) ∙ ap (λ z. upper_half (pos a *ℤ z)) (low_one b y)

pub both_low : (i j : Option Arc) (a b : ℕ) → are_low i j ≡ true → IsHeld i a → IsHeld j b → (a < 2 ^ 31) × (b < 2 ^ 31)
both_low i j a b low x y = let p = and_parts (is_low i) (is_low j) low in (held_low i a p.0 x, held_low j b p.1 y)

pub signed_quotient_less : (a b n : ℕ) → a < 2 ^ 31 → b < 2 ^ 31 → 2 ^ n ≤ b →
    (if b == 0 then 2 ^ 32 - 1 else unsigned (int_div (signed a) (signed b))) % 2 ^ 32 ≤ a % 2 ^ 32 / 2 ^ n
signed_quotient_less a b n x y least =
    subst (λ q. (if b == 0 then 2 ^ 32 - 1 else q) % 2 ^ 32 ≤ a % 2 ^ 32 / 2 ^ n) (sym (signed_quotient a b x y))
    (quotient_less a b n (let q : a < 2 ^ 32 = omega arith in q) least)

pub signed_remainder_less : (a b : ℕ) → a < 2 ^ 31 → b < 2 ^ 31 → 0 < b → (if b == 0 then a else unsigned (int_rem (signed a) (signed b))) % 2 ^ 32 + 1 ≤ b % 2 ^ 32
signed_remainder_less a b x y some =
    subst (λ n. (if b == 0 then a else n) % 2 ^ 32 + 1 ≤ b % 2 ^ 32) (sym (signed_remainder a b x y)) (remainder_less a b (let q : b < 2 ^ 32 = omega arith in q) some)

-- the upper half of a product of two of them is at most half of each
half_product : (a b : ℕ) → a < 2 ^ 31 → b < 2 ^ 31 → a * b / 2 ^ 32 % 2 ^ 32 ≤ a % 2 ^ 32 / 2 ^ 1
half_product a b x y =
    let p : a * b ≤ a * 2 ^ 31 = mul-le-mul_left a (let q : b ≤ 2 ^ 31 = omega arith in q) in
    go (a * b) (omega arith)
  where
    go : (n : ℕ) → n ≤ a * 2 ^ 31 → n / 2 ^ 32 % 2 ^ 32 ≤ a % 2 ^ 32 / 2 ^ 1
    go n h = omega arith

pub signed_product_less : (a b : ℕ) → a < 2 ^ 31 → b < 2 ^ 31 → upper_half (signed a *ℤ signed b) % 2 ^ 32 ≤ a % 2 ^ 32 / 2 ^ 1
signed_product_less a b x y = subst (λ n. n % 2 ^ 32 ≤ a % 2 ^ 32 / 2 ^ 1) (sym (signed_product a b x y)) (half_product a b x y)

pub signed_product_less_too : (a b : ℕ) → a < 2 ^ 31 → b < 2 ^ 31 → upper_half (signed a *ℤ signed b) % 2 ^ 32 ≤ b % 2 ^ 32 / 2 ^ 1
signed_product_less_too a b x y = subst (λ n. n % 2 ^ 32 ≤ b % 2 ^ 32 / 2 ^ 1) (sym (signed_product a b x y ∙ ap (λ n. n / 2 ^ 32) (mul_comm a b))) (half_product b a y x)

-- ---- comparisons

-- how two words compare
abbrev pub IsOrdered : BranchOp → ℕ → ℕ → Type 0
IsOrdered Beq a b = a ≡ b
IsOrdered Bne a b = Unit {0}
IsOrdered Blt a b = a < b
IsOrdered Bge a b = b ≤ a
IsOrdered Bltu a b = a < b
IsOrdered Bgeu a b = b ≤ a

less_signed : (a b : ℕ) → a < 2 ^ 31 → int_lt (signed a) (signed b) ≡ true → a < b
less_signed a b low h = go (nat_lt b (2 ^ 31)) refl
  where
    go : (y : Bool) → nat_lt b (2 ^ 31) ≡ y → a < b
    go true e =
        let small : b < 2 ^ 31 = ltb-true b (2 ^ 31) e in
        let k : int_lt (pos a) (pos b) ≡ true = subst (λ z. int_lt (pos a) z ≡ true) (low_one b small) (subst (λ z. int_lt z (signed b) ≡ true) (low_one a low) h) in
        ltb-true a b k
    go false e = let high : 2 ^ 31 ≤ b = ltb-false b (2 ^ 31) e in omega arith

not_less_signed : (a b : ℕ) → b < 2 ^ 31 → int_lt (signed a) (signed b) ≡ false → b ≤ a
not_less_signed a b low h = go (nat_lt a (2 ^ 31)) refl
  where
    go : (y : Bool) → nat_lt a (2 ^ 31) ≡ y → b ≤ a
    go true e =
        let small : a < 2 ^ 31 = ltb-true a (2 ^ 31) e in
        let k : int_lt (pos a) (pos b) ≡ false = subst (λ z. int_lt (pos a) z ≡ false) (low_one b low) (subst (λ z. int_lt z (signed b) ≡ false) (low_one a small) h) in
        ltb-false a b k
    go false e = let high : 2 ^ 31 ≤ a = ltb-false a (2 ^ 31) e in omega arith

low_some : (j : Option Arc) → is_low j ≡ true → is_some j ≡ true
low_some None h = let bad : ⊥ = cc in absurd bad
low_some (Some j) h = refl

pub both_words : (op : BranchOp) (i j : Option Arc) → are_ordered op i j ≡ true → (is_some i ≡ true) × (is_some j ≡ true)
both_words Beq i j h = and_parts (is_some i) (is_some j) h
both_words Bne i j h = and_parts (is_some i) (is_some j) h
both_words Blt i j h = let p = and_parts (is_low i) (is_some j) h in (low_some i p.0, p.1)
both_words Bge i j h = let p = and_parts (is_some i) (is_low j) h in (p.0, low_some j p.1)
both_words Bltu i j h = and_parts (is_some i) (is_some j) h
both_words Bgeu i j h = and_parts (is_some i) (is_some j) h

pub ordered_so : (op : BranchOp) (i j : Option Arc) (a b : ℕ) → IsHeld i a → IsHeld j b → are_ordered op i j ≡ true → is_taken op a b ≡ true → IsOrdered op a b
ordered_so Beq i j a b x y are h = eqb-true a b h
ordered_so Bne i j a b x y are h = tt
ordered_so Blt i j a b x y are h = less_signed a b (held_low i a (and_parts (is_low i) (is_some j) are).0 x) h
ordered_so Bge i j a b x y are h = not_less_signed a b (held_low j b (and_parts (is_some i) (is_low j) are).1 y) (not-true (int_lt (signed a) (signed b)) h)
ordered_so Bltu i j a b x y are h = ltb-true a b h
ordered_so Bgeu i j a b x y are h = ltb-false a b (not-true (nat_lt a b) h)

lesser_in : (rest : ℕ) (q : Relation) (n s a b : ℕ) → a < 2 ^ 32 → b < 2 ^ 32 → a + n ≤ b → IsRelated rest q s b → IsRelated rest (lesser q n) s a
lesser_in rest unknown n s a b x y le h = tt
lesser_in rest (ahead_by i) n s a b x y le h = tt
lesser_in rest (below l c) n s a b x y le h = go (s / 2 ^ c) h
  where
    go : (z : ℕ) → b % 2 ^ 32 + l ≤ z → a % 2 ^ 32 + (l + n) ≤ z
    go z k = omega arith
lesser_in rest (above m) n s a b x y le h = tt
lesser_in rest (read l) n s a b x y le h = tt

greater_in : (rest : ℕ) (q : Relation) (n s a b : ℕ) → a < 2 ^ 32 → b < 2 ^ 32 → b + n ≤ a → IsRelated rest q s b → IsRelated rest (greater q n) s a
greater_in rest unknown n s a b x y le h = tt
greater_in rest (ahead_by i) n s a b x y le h = tt
greater_in rest (below l c) n s a b x y le h = tt
greater_in rest (read l) n s a b x y le h = tt
greater_in rest (above m) n s a b x y le h = let r : s + (m + n) ≤ a % 2 ^ 32 = omega arith in r

pub first_in : (rest : ℕ) (op : BranchOp) (q : Relation) (s a b : ℕ) → a < 2 ^ 32 → b < 2 ^ 32 → IsOrdered op a b → IsRelated rest q s b → IsRelated rest (first_related op q) s a
first_in rest Beq q s a b x y o h = subst (λ n. IsRelated rest q s n) (sym o) h
first_in rest Bne q s a b x y o h = tt
first_in rest Blt q s a b x y o h = lesser_in rest q 1 s a b x y (omega arith) h
first_in rest Bge q s a b x y o h = greater_in rest q 0 s a b x y (omega arith) h
first_in rest Bltu q s a b x y o h = lesser_in rest q 1 s a b x y (omega arith) h
first_in rest Bgeu q s a b x y o h = greater_in rest q 0 s a b x y (omega arith) h

pub second_in : (rest : ℕ) (op : BranchOp) (q : Relation) (s a b : ℕ) → a < 2 ^ 32 → b < 2 ^ 32 → IsOrdered op a b → IsRelated rest q s a → IsRelated rest (second_related op q) s b
second_in rest Beq q s a b x y o h = subst (λ n. IsRelated rest q s n) o h
second_in rest Bne q s a b x y o h = tt
second_in rest Blt q s a b x y o h = greater_in rest q 1 s b a y x (omega arith) h
second_in rest Bge q s a b x y o h = lesser_in rest q 0 s b a y x (omega arith) h
second_in rest Bltu q s a b x y o h = greater_in rest q 1 s b a y x (omega arith) h
second_in rest Bgeu q s a b x y o h = lesser_in rest q 0 s b a y x (omega arith) h
