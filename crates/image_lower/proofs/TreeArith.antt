-- The numbers of a tree: targets that agree from a bit on, the shifted register and its sign, and the two parts of a number.
use Rattle.std.proofs.Common.{◌≡◌, ℕ, pos, negsuc, suc, ◌+◌, ◌-◌, ◌*◌, ◌/◌, ◌%◌, ◌^◌, ◌<◌, ◌≤◌, Bool, true, false, not, List, [], ◌∷◌, refl, arith, ap, sym, subst, ◌∙◌, ◌⊎◌, inl, inr}
use Rattle.std.specs.Prelude.{filter, nat_lt, ◌==◌, if◌then◌else◌, All, int_lt}
use Rattle.std.specs.List.{list_all, list_any}
use Rattle.std.proofs.Math.Nat.{div-div-eq-div-mul, pow-suc, mul-lt-mul_of_pos_right}
use Rattle.std.proofs.lemmas.Nat.{mul-mod_first, pow-add, pow_pos}
use Rattle.std.proofs.lemmas.Bool.{and_parts, or_cases, or_left, or_right, eqb-true, both_ways}
use Rattle.std.proofs.lemmas.Bool.Decides.{nat_tests}
use Rattle.std.proofs.lemmas.Int.{ints}
use Rattle.std.proofs.lemmas.List.Elements.{All-head, All-tail}
use Rattle.scale_base.specs.Arith.{plus, unsigned, signed}
use Rattle.stub_writer.specs.Fragments.{hi, lo}
use Rattle.image_lower.specs.Trees.{first_target, has_bit, lacks_bit, are_alike}

-- ---- numbers that agree from a bit on

abbrev pub Agree : ℕ → ℕ → List ℕ → Type 0
Agree b t [] = Unit {0}
Agree b t (x ∷ xs) = (x / 2 ^ b ≡ t / 2 ^ b) × Agree b t xs

-- a bit more
halved : (b u : ℕ) → u / 2 ^ suc b ≡ u / 2 ^ b / 2
halved b u = ap (λ n. u / n) (pow-suc 2 b) ∙ sym (div-div-eq-div-mul u (2 ^ b) 2)

agree_more : (b u t : ℕ) → u / 2 ^ suc b ≡ t / 2 ^ suc b → u / 2 ^ b % 2 ≡ t / 2 ^ b % 2 → u / 2 ^ b ≡ t / 2 ^ b
agree_more b u t e f =
    let h : u / 2 ^ b / 2 ≡ t / 2 ^ b / 2 = sym (halved b u) ∙ (e ∙ halved b t) in
    halves (u / 2 ^ b) (t / 2 ^ b) h f
  where
    halves : (x y : ℕ) → x / 2 ≡ y / 2 → x % 2 ≡ y % 2 → x ≡ y
    halves x y h f = omega (arith, h, f)

-- a number that passes a test has the target's bit
abbrev HasBitOf : ℕ → ℕ → (ℕ → Bool) → Type 0
HasBitOf b t p = (x : ℕ) → p x ≡ true → x / 2 ^ b % 2 ≡ t / 2 ^ b % 2

pub all_agree : (b t : ℕ) (p : ℕ → Bool) (xs : List ℕ) → HasBitOf b t p → list_all p xs ≡ true → Agree (suc b) t xs → Agree b t xs
all_agree b t p [] f all h = tt
all_agree b t p (x ∷ xs) f all h =
    let parts = and_parts (p x) (list_all p xs) all in
    (agree_more b x t h.0 (f x parts.0), all_agree b t p xs f parts.1 h.1)

pub some_agree : (b t : ℕ) (p : ℕ → Bool) (xs : List ℕ) → HasBitOf b t p → Agree (suc b) t xs → Agree b t (filter p xs)
some_agree b t p [] f h = tt
some_agree b t p (x ∷ xs) f h = step (p x) refl (some_agree b t p xs f h.1)
  where
    step : (c : Bool) → p x ≡ c → Agree b t (filter p xs) → Agree b t (if c then x ∷ filter p xs else filter p xs)
    step true e rest = (agree_more b x t h.0 (f x e), rest)
    step false e rest = rest

pub agree_first : (t : ℕ) (xs : List ℕ) → list_any (λ u. u == t) xs ≡ true → Agree 0 t xs → first_target xs ≡ t
agree_first t [] e h = absurd cc
agree_first t (x ∷ xs) e h = let g : x / 2 ^ 0 ≡ t / 2 ^ 0 = h.0 in omega (arith, g)

pub agree_all : (t : ℕ) (xs : List ℕ) → t < 2 ^ 32 → All (λ u. (u % 4 ≡ 0) × (u < 2 ^ 32)) xs → Agree 32 t xs
agree_all t [] low h = tt
agree_all t (x ∷ xs) low h =
    let one = All-head (λ u. (u % 4 ≡ 0) × (u < 2 ^ 32)) x xs h in
    let a = one.1 in
    let e : x / 2 ^ 32 ≡ t / 2 ^ 32 = omega (arith, a, low) in
    (e, agree_all t xs low (All-tail (λ u. (u % 4 ≡ 0) × (u < 2 ^ 32)) x xs h))

-- ---- the target among them

pub any_pass : (p : ℕ → Bool) (t : ℕ) (xs : List ℕ) → list_any (λ u. u == t) xs ≡ true → list_all p xs ≡ true → p t ≡ true
any_pass p t [] e all = absurd cc
any_pass p t (x ∷ xs) e all =
    let parts = and_parts (p x) (list_all p xs) all in
    elim (or_cases (x == t) (list_any (λ u. u == t) xs) e) [
      | inl here ↦ ap p (sym (eqb-true x t here)) ∙ parts.0
      | inr later ↦ any_pass p t xs later parts.1
    ]

kept_step : (p : ℕ → Bool) (t x : ℕ) (xs ys : List ℕ) → p t ≡ true → (list_any (λ u. u == t) xs ≡ true → list_any (λ u. u == t) ys ≡ true) → (c : Bool) → p x ≡ c → ((x == t) ≡ true) ⊎ (list_any (λ u. u == t) xs ≡ true)
    → list_any (λ u. u == t) (if c then x ∷ ys else ys) ≡ true
kept_step p t x xs ys is go true f (inl here) = or_left (x == t) (list_any (λ u. u == t) ys) here
kept_step p t x xs ys is go true f (inr later) = or_right (x == t) (list_any (λ u. u == t) ys) (go later)
kept_step p t x xs ys is go false f (inl here) = absurd (both_ways (p x) f (ap p (eqb-true x t here) ∙ is))
kept_step p t x xs ys is go false f (inr later) = go later

pub any_kept : (p : ℕ → Bool) (t : ℕ) (xs : List ℕ) → p t ≡ true → list_any (λ u. u == t) xs ≡ true → list_any (λ u. u == t) (filter p xs) ≡ true
any_kept p t [] is e = absurd cc
any_kept p t (x ∷ xs) is e = kept_step p t x xs (filter p xs) is (any_kept p t xs is) (p x) refl (or_cases (x == t) (list_any (λ u. u == t) xs) e)

-- ---- the bit

pub bit_of_having : (b x : ℕ) → has_bit b x ≡ true → x / 2 ^ b % 2 ≡ 1
bit_of_having b x e = eqb-true (x / 2 ^ b % 2) 1 e

pub bit_of_lacking : (b x : ℕ) → lacks_bit b x ≡ true → x / 2 ^ b % 2 ≡ 0
bit_of_lacking b x e = lacks (x / 2 ^ b) e
  where
    lacks : (n : ℕ) → not (n % 2 == 1) ≡ true → n % 2 ≡ 0
    lacks n f = grind (arith, nat_tests)

pub having_agree : (b t : ℕ) → has_bit b t ≡ true → HasBitOf b t (has_bit b)
having_agree b t e x f = bit_of_having b x f ∙ sym (bit_of_having b t e)

pub lacking_agree : (b t : ℕ) → lacks_bit b t ≡ true → HasBitOf b t (lacks_bit b)
lacking_agree b t e x f = bit_of_lacking b x f ∙ sym (bit_of_lacking b t e)

pub alike_agree : (b t : ℕ) (xs : List ℕ) → are_alike b xs ≡ true → list_any (λ u. u == t) xs ≡ true → Agree (suc b) t xs → Agree b t xs
alike_agree b t xs alike e h = elim (or_cases (list_all (has_bit b) xs) (list_all (lacks_bit b) xs) alike) [
  | inl all ↦ all_agree b t (has_bit b) xs (having_agree b t (any_pass (has_bit b) t xs e all)) all h
  | inr none ↦ all_agree b t (lacks_bit b) xs (lacking_agree b t (any_pass (lacks_bit b) t xs e none)) none h
]

-- ---- the shifted register

-- by so many places, and then by more
pub shifted_on : (t c k m : ℕ) → m ≡ c + k → (t * 2 ^ c % 2 ^ 32) * 2 ^ k % 2 ^ 32 ≡ t * 2 ^ m % 2 ^ 32
shifted_on t c k m e =
    mul-mod_first (t * 2 ^ c) (2 ^ k) (2 ^ 32)
    ∙ ap (λ n. n % 2 ^ 32) (grouped t (2 ^ c) (2 ^ k) ∙ (ap (λ n. t * n) (sym (pow-add 2 c k)) ∙ ap (λ n. t * 2 ^ n) (sym e)))
  where
    grouped : (x y z : ℕ) → x * y * z ≡ x * (y * z)
    grouped x y z = grind arith

-- where the bit stands at the top of 32, the part above is even or odd
record AtTop (t b : ℕ) : Type 0 where
  rest : ℕ
  low : rest < 2 ^ 31
  whole : t * 2 ^ (31 - b) ≡ t / 2 ^ b * 2 ^ 31 + rest

split : (q r c d m : ℕ) → c * d ≡ m → (q * d + r) * c ≡ q * m + r * c
split q r c d m e = distributed ∙ ap (λ n. q * n + r * c) e
  where
    distributed : (q * d + r) * c ≡ q * (c * d) + r * c
    distributed = grind arith

at_top : (t b : ℕ) → b < 32 → AtTop t b
at_top t b lt =
    let c = 2 ^ (31 - b) in
    let d = 2 ^ b in
    let product : c * d ≡ 2 ^ 31 = sym (pow-add 2 (31 - b) b) ∙ ap (λ n. 2 ^ n) (sums b lt) in
    let some : 0 < d = positive b in
    let some_too : 0 < c = positive (31 - b) in
    let small : t % d < d = below t d some in
    let scaled : t % d * c < d * c = mul-lt-mul_of_pos_right small some_too in
    let swapped : d * c ≡ c * d = commuted d c in
    record {
      rest = t % d * c;
      low = subst (λ n. t % d * c < n) (swapped ∙ product) scaled;
      whole = ap (λ n. n * c) (sym (divided t d some)) ∙ split (t / d) (t % d) c d (2 ^ 31) product;
    }
  where
    sums : (b : ℕ) → b < 32 → 31 - b + b ≡ 31
    sums b lt = omega arith

    positive : (n : ℕ) → 0 < 2 ^ n
    positive n = pow_pos n

    below : (x d : ℕ) → 0 < d → x % d < d
    below x d h = omega arith

    commuted : (x y : ℕ) → x * y ≡ y * x
    commuted x y = grind arith

    divided : (x d : ℕ) → 0 < d → x / d * d + x % d ≡ x
    divided x d h = grind arith

top_bit : (v q rest : ℕ) → rest < 2 ^ 31 → v ≡ (q * 2 ^ 31 + rest) % 2 ^ 32 → nat_lt v (2 ^ 31) ≡ not (q % 2 == 1)
top_bit v q rest low e = by (q % 2 == 1) refl
  where
    by : (c : Bool) → (q % 2 == 1) ≡ c → nat_lt v (2 ^ 31) ≡ not c
    by true f = let odd = eqb-true (q % 2) 1 f in grind (arith, nat_tests)
    by false f = let even : q % 2 ≡ 0 = bit_of q f in grind (arith, nat_tests)
      where
        bit_of : (n : ℕ) → (n % 2 == 1) ≡ false → n % 2 ≡ 0
        bit_of n f = grind (arith, nat_tests)

signed_low : (v : ℕ) → nat_lt v (2 ^ 31) ≡ true → int_lt (signed v) (signed 0) ≡ false
signed_low v e = let low : v < 2 ^ 31 = grind (arith, nat_tests) in grind (arith, ints)

signed_high : (v : ℕ) → v < 2 ^ 32 → nat_lt v (2 ^ 31) ≡ false → int_lt (signed v) (signed 0) ≡ true
signed_high v small e = let high : 2 ^ 31 ≤ v = grind (arith, nat_tests) in grind (arith, ints)

-- the shifted register is below zero where the target has the bit
pub sign_is_bit : (t b v z : ℕ) → b < 32 → v ≡ t * 2 ^ (31 - b) % 2 ^ 32 → z ≡ 0 → int_lt (signed v) (signed z) ≡ has_bit b t
sign_is_bit t b v z lt e zero_is =
    let top = at_top t b lt in
    let small : v < 2 ^ 32 = omega (arith, e) in
    let is = top_bit v (t / 2 ^ b) top.rest top.low (e ∙ ap (λ n. n % 2 ^ 32) top.whole) in
    ap (λ n. int_lt (signed v) (signed n)) zero_is ∙ by (has_bit b t) small is
  where
    by : (c : Bool) → v < 2 ^ 32 → nat_lt v (2 ^ 31) ≡ not c → int_lt (signed v) (signed 0) ≡ c
    by true small is = signed_high v small is
    by false small is = signed_low v is

-- ---- the two parts of a number

pub parts_join : (to : ℕ) → to < 2 ^ 32 → plus (hi to) (unsigned (lo to)) ≡ to
parts_join to small = by (nat_lt (to % 2 ^ 12) (2 ^ 11)) refl
  where
    by : (c : Bool) → nat_lt (to % 2 ^ 12) (2 ^ 11) ≡ c → plus (hi to) (unsigned (if c then pos (to % 2 ^ 12) else negsuc (2 ^ 12 - 1 - to % 2 ^ 12))) ≡ to
    by true e = let low : to % 2 ^ 12 < 2 ^ 11 = grind (arith, nat_tests) in omega (arith, ints)
    by false e = let high : 2 ^ 11 ≤ to % 2 ^ 12 = grind (arith, nat_tests) in omega (arith, ints)
