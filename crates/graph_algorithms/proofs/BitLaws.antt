-- Bits of words.
use Rattle.std.proofs.Common.{◌≡◌, ◌≢◌, ℕ, zero, suc, ◌+◌, ◌-◌, ◌*◌, ◌%◌, ◌^◌, ◌<◌, ◌↔◌, min, max, List, length, get_or, set, replicate, refl, sym, ap, ◌∙◌, subst, arith, ◌⊎◌, inl, inr, ⊎_elim, get_or-set_same, get_or-set_other, bit_and, bit_or, bit_xor, w64}
use Rattle.std.specs.Int.{bit_at, bit_not}
use Rattle.std.proofs.lemmas.Nat.{one_shl}
use Rattle.std.proofs.lemmas.Nat.Bits.{bit_at-zero, bit_at-lt, bit_at_and, bit_at_or, bit_at_xor, bit_at-pow_same, bit_at-pow_other, bit_at_not, bit_at_above}
use Rattle.std.proofs.lemmas.Bool.{cases_eq, cases_lt}
use Rattle.graph_algorithms.specs.Groups.{HasBit, IsFlagged}

-- ---- numbers below 2
two_cases : (a : ℕ) → a < 2 → (a ≡ 1) ⊎ (a ≡ 0)
two_cases zero lt = inr refl
two_cases (suc zero) lt = inl refl
two_cases (suc (suc a)) lt = let bad : ⊥ = omega arith in absurd bad

max_cases : (x a b : ℕ) → x ≡ max a b → a < 2 → b < 2 → x ≡ 1 → (a ≡ 1) ⊎ (b ≡ 1)
max_cases x a b e la lb h = ⊎_elim (λ one. inl one) (λ none. inr (omega arith)) (two_cases a la)

max_left : (x a b : ℕ) → x ≡ max a b → b < 2 → a ≡ 1 → x ≡ 1
max_left x a b e lb h = omega arith

max_right : (x a b : ℕ) → x ≡ max a b → a < 2 → b ≡ 1 → x ≡ 1
max_right x a b e la h = omega arith

min_both : (x a b : ℕ) → x ≡ min a b → a < 2 → b < 2 → x ≡ 1 → (a ≡ 1) × (b ≡ 1)
min_both x a b e la lb h = (omega arith, omega arith)

min_one : (x a b : ℕ) → x ≡ min a b → a ≡ 1 → b ≡ 1 → x ≡ 1
min_one x a b e ha hb = omega arith

-- ---- one bit
pub no_bit : (i : ℕ) → HasBit 0 i → ⊥
no_bit i h = let e : 0 ≡ 1 = sym (bit_at-zero i) ∙ h in let bad : ⊥ = omega arith in bad

pub bit_cases : (word i : ℕ) → HasBit word i ⊎ (HasBit word i → ⊥)
bit_cases word i = ⊎_elim (λ one. inl one) (λ (none : bit_at word i ≡ 0). inr (λ one. let e : 0 ≡ 1 = sym none ∙ one in let bad : ⊥ = omega arith in bad)) (two_cases (bit_at word i) (bit_at-lt word i))

pub has_or : (a b i : ℕ) → HasBit (bit_or a b) i → HasBit a i ⊎ HasBit b i
has_or a b i h = max_cases (bit_at (bit_or a b) i) (bit_at a i) (bit_at b i) (bit_at_or a b i) (bit_at-lt a i) (bit_at-lt b i) h

pub or_left : (a b i : ℕ) → HasBit a i → HasBit (bit_or a b) i
or_left a b i h = max_left (bit_at (bit_or a b) i) (bit_at a i) (bit_at b i) (bit_at_or a b i) (bit_at-lt b i) h

pub or_right : (a b i : ℕ) → HasBit b i → HasBit (bit_or a b) i
or_right a b i h = max_right (bit_at (bit_or a b) i) (bit_at a i) (bit_at b i) (bit_at_or a b i) (bit_at-lt a i) h

pub has_and : (a b i : ℕ) → HasBit (bit_and a b) i → HasBit a i × HasBit b i
has_and a b i h = min_both (bit_at (bit_and a b) i) (bit_at a i) (bit_at b i) (bit_at_and a b i) (bit_at-lt a i) (bit_at-lt b i) h

pub and_both : (a b i : ℕ) → HasBit a i → HasBit b i → HasBit (bit_and a b) i
and_both a b i ha hb = min_one (bit_at (bit_and a b) i) (bit_at a i) (bit_at b i) (bit_at_and a b i) ha hb

-- one of two words has the bit, and not both
module _ (a b i : ℕ) where
  zero_of : (word : ℕ) → (HasBit word i → ⊥) → bit_at word i ≡ 0
  zero_of word none = ⊎_elim (λ one. absurd (none one)) (λ z. z) (two_cases (bit_at word i) (bit_at-lt word i))

  sum_is : (x y : ℕ) → bit_at a i ≡ x → bit_at b i ≡ y → bit_at (bit_xor a b) i ≡ (x + y) % 2
  sum_is x y ea eb = bit_at_xor a b i ∙ (ap (λ z. (z + bit_at b i) % 2) ea ∙ ap (λ z. (x + z) % 2) eb)

  pub has_xor : HasBit (bit_xor a b) i → (HasBit a i × (HasBit b i → ⊥)) ⊎ ((HasBit a i → ⊥) × HasBit b i)
  has_xor h = ⊎_elim
      (λ (ha : HasBit a i). inl (ha, λ hb. let e : 0 ≡ 1 = sym (sum_is 1 1 ha hb) ∙ h in let bad : ⊥ = omega arith in bad))
      (λ (na : HasBit a i → ⊥). ⊎_elim
      (λ (hb : HasBit b i). inr (na, hb))
      (λ (nb : HasBit b i → ⊥). let e : 0 ≡ 1 = sym (sum_is 0 0 (zero_of a na) (zero_of b nb)) ∙ h in absurd (let bad : ⊥ = omega arith in bad))
      (bit_cases b i))
      (bit_cases a i)

  pub xor_left : HasBit a i → (HasBit b i → ⊥) → HasBit (bit_xor a b) i
  xor_left ha nb = sum_is 1 0 ha (zero_of b nb)

  pub xor_right : (HasBit a i → ⊥) → HasBit b i → HasBit (bit_xor a b) i
  xor_right na hb = sum_is 0 1 (zero_of a na) hb

-- a bit of a word of 64 bits
pub bit_small : (word i : ℕ) → word < 2 ^ 64 → HasBit word i → i < 64
bit_small word i lt h = ⊎_elim (λ below. below) (λ above. let e : 0 ≡ 1 = sym (bit_at_above word 64 i lt above) ∙ h in absurd (let bad : ⊥ = omega arith in bad)) (cases_lt i 64)

pub has_not : (word i : ℕ) → word < 2 ^ 64 → i < 64 → HasBit (bit_not w64 word) i → HasBit word i → ⊥
has_not word i lt il n h = let e = bit_at_not w64 word i lt il in let bad : ⊥ = one_less (bit_at (bit_not w64 word) i) (bit_at word i) e n h in bad
  where
    one_less : (x y : ℕ) → x ≡ 1 - y → x ≡ 1 → y ≡ 1 → ⊥
    one_less x y e hx hy = omega arith

pub not_has : (word i : ℕ) → word < 2 ^ 64 → i < 64 → (HasBit word i → ⊥) → HasBit (bit_not w64 word) i
not_has word i lt il none = less_none (bit_at (bit_not w64 word) i) (bit_at word i) (bit_at_not w64 word i lt il) none (two_cases (bit_at word i) (bit_at-lt word i))
  where
    less_none : (x y : ℕ) → x ≡ 1 - y → (y ≡ 1 → ⊥) → (y ≡ 1) ⊎ (y ≡ 0) → x ≡ 1
    less_none x y e no_one c = ⊎_elim (λ one. absurd (no_one one)) (λ (z : y ≡ 0). (let r : x ≡ 1 = omega arith in r)) c

-- ---- 1 << k
pub shl_same : (k : ℕ) → k < 64 → HasBit (1 * 2 ^ k % 2 ^ 64) k
shl_same k lt = ap (λ x. bit_at x k) (one_shl k 64 lt) ∙ bit_at-pow_same k

pub shl_only : (k i : ℕ) → k < 64 → HasBit (1 * 2 ^ k % 2 ^ 64) i → i ≡ k
shl_only k i lt h = ⊎_elim (λ e. e) (λ (ne : i ≡ k → ⊥). let d : i ≢ k = ne in
    let e : 0 ≡ 1 = sym (ap (λ x. bit_at x i) (one_shl k 64 lt) ∙ bit_at-pow_other k i d) ∙ h in absurd (let bad : ⊥ = omega arith in bad)) (cases_eq i k)

-- ---- words of nodes
pub flag_same : (words : List ℕ) (node word i : ℕ) → node < length words → HasBit word i → IsFlagged (set words node word) node i
flag_same words node word i lt h = ap (λ x. bit_at x i) (get_or-set_same words node word 0 lt) ∙ h

pub same_flag : (words : List ℕ) (node word i : ℕ) → node < length words → IsFlagged (set words node word) node i → HasBit word i
same_flag words node word i lt h = ap (λ x. bit_at x i) (sym (get_or-set_same words node word 0 lt)) ∙ h

pub flag_other : (words : List ℕ) (node v word i : ℕ) → v ≢ node → IsFlagged words v i → IsFlagged (set words node word) v i
flag_other words node v word i ne h = ap (λ x. bit_at x i) (get_or-set_other words node v word 0 ne) ∙ h

pub other_flag : (words : List ℕ) (node v word i : ℕ) → v ≢ node → IsFlagged (set words node word) v i → IsFlagged words v i
other_flag words node v word i ne h = ap (λ x. bit_at x i) (sym (get_or-set_other words node v word 0 ne)) ∙ h

pub no_flag : (n v i : ℕ) → IsFlagged (replicate {A = ℕ} n 0) v i → ⊥
no_flag zero v i h = no_bit i h
no_flag (suc n) zero i h = no_bit i h
no_flag (suc n) (suc v) i h = no_flag n v i h

-- a bit is set at one node
pub set_flags : (words : List ℕ) (node bit : ℕ) → node < length words → bit < 64 → (v i : ℕ) →
    IsFlagged (set words node (bit_or (get_or words node 0) (1 * 2 ^ bit % 2 ^ 64))) v i ↔ (IsFlagged words v i ⊎ ((v ≡ node) × (i ≡ bit)))
set_flags words node bit lt bl v i = (
  λ h. ⊎_elim
      (λ (e : v ≡ node). ⊎_elim (λ old. inl (subst (λ x. IsFlagged words x i) (sym e) old)) (λ new. inr (e, shl_only bit i bl new))
      (has_or (get_or words node 0) (1 * 2 ^ bit % 2 ^ 64) i (same_flag words node word i lt (subst (λ x. IsFlagged (set words node word) x i) e h))))
      (λ (ne : v ≡ node → ⊥). let d : v ≢ node = ne in inl (other_flag words node v word i d h))
      (cases_eq v node),
  λ h. ⊎_elim
      (λ (old : IsFlagged words v i). ⊎_elim
      (λ (e : v ≡ node). subst (λ x. IsFlagged (set words node word) x i) (sym e) (flag_same words node word i lt (or_left (get_or words node 0) (1 * 2 ^ bit % 2 ^ 64) i (subst (λ x. IsFlagged words x i) e old))))
      (λ (ne : v ≡ node → ⊥). let d : v ≢ node = ne in flag_other words node v word i d old)
      (cases_eq v node))
      (λ (new : (v ≡ node) × (i ≡ bit)). subst (λ x. IsFlagged (set words node word) x i) (sym new.0) (flag_same words node word i lt
      (or_right (get_or words node 0) (1 * 2 ^ bit % 2 ^ 64) i (subst (λ x. HasBit (1 * 2 ^ bit % 2 ^ 64) x) (sym new.1) (shl_same bit bl)))))
      h,
)
  where
    word : ℕ
    word = bit_or (get_or words node 0) (1 * 2 ^ bit % 2 ^ 64)
