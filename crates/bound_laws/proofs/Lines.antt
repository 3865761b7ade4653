-- Sums and differences of two registers are within their intervals.
use Rattle.std.proofs.Common.{◌≡◌, ◌≢◌, ℕ, zero, suc, ◌+◌, ◌-◌, ◌*◌, ◌<◌, ◌≤◌, ◌%◌, ◌^◌, ◌⊎◌, ⊎_elim, true, false, List, length, sym, ap, ◌∙◌, subst, arith, Option, Some, None}
use Rattle.std.specs.Prelude.{◌==◌, ◌&&◌, ◌||◌, nat_lt, is_some}
use Rattle.std.proofs.Math.ListN.{get_or-eq_default}
use Rattle.std.proofs.lemmas.Bool.{cond_both, and_parts, or_cases, eqb-true, ltb-true, ltb-false, lt-ltb}
use Rattle.std.proofs.lemmas.Nat.{mod_below}
use Rattle.scale_base.specs.Arith.{plus, is_taken}
use Rattle.scale_base.specs.State.{reg}
use Rattle.bound_laws.specs.Registers.{Measure, measured}
use Rattle.bound_laws.specs.Values.{Arc, IsHeld, strided, held, scaled, sum_of, line_of, opposite_of, solved, Said, differs, is_difference, IsRegister}
use Rattle.bound_laws.proofs.Moduli.{sum_of_products, solved_is, apart, apart_back}
use Rattle.bound_laws.proofs.Arcs.{in_exactly, sum_in, sum_with_in, scaled_in}
use Rattle.bound_laws.proofs.Transfers.{differ}

-- by all registers, what an instruction reads
pub held_of : (at : ℕ → Option Arc) (regs : List ℕ) → reg regs 0 ≡ 0 → length regs ≡ 32 → ((r : ℕ) → IsRegister r → IsHeld (at r) (reg regs r)) → (r : ℕ) → IsHeld (held at r) (reg regs r)
held_of at regs zero_is size are r = cond_both (nat_lt 0 r && nat_lt r 32) _ _ (λ k. IsHeld k (reg regs r))
    (λ h. let p = and_parts (nat_lt 0 r) (nat_lt r 32) h in are r (ltb-true 0 r p.0, ltb-true r 32 p.1))
    (λ h. subst (λ v. IsHeld (Some (strided 0 0 0)) v) (sym (none r h)) (in_exactly 0))
  where
    none : (r : ℕ) → (nat_lt 0 r && nat_lt r 32) ≡ false → reg regs r ≡ 0
    none zero h = zero_is
    none (suc n) h = get_or-eq_default regs 0 (let q : 32 ≤ suc n = past n h in omega arith)
      where
        past : (n : ℕ) → (nat_lt 0 (suc n) && nat_lt (suc n) 32) ≡ false → 32 ≤ suc n
        past n h = ltb-false (suc n) 32 (sym (ap (λ b. b && nat_lt (suc n) 32) (lt-ltb 0 (suc n) (omega arith))) ∙ h)

pub measured_small : (m : Measure) (regs : List ℕ) → measured m regs < 2 ^ 32
measured_small m regs = mod_below (m.shift + m.factor * reg regs m.register + m.other_factor * reg regs m.other) (2 ^ 32) (omega arith)

pub line_in : (m : Measure) (at : ℕ → Option Arc) (regs : List ℕ) → ((r : ℕ) → IsHeld (held at r) (reg regs r)) → IsHeld (line_of m at) (measured m regs)
line_in m at regs are =
    let p : ℕ = m.factor * reg regs m.register in
    let q : ℕ = m.other_factor * reg regs m.other in
    let a = scaled_in m.factor (held at m.register) (reg regs m.register) (are m.register) in
    let b = scaled_in m.other_factor (held at m.other) (reg regs m.other) (are m.other) in
    let s = sum_in (scaled m.factor (held at m.register)) (scaled m.other_factor (held at m.other)) (p % 2 ^ 32) (q % 2 ^ 32) a b in
    subst (λ v. IsHeld (line_of m at) v) (sum_of_products (2 ^ 32) m.shift p q)
    (sum_with_in (sum_of (scaled m.factor (held at m.register)) (scaled m.other_factor (held at m.other))) m.shift (plus (p % 2 ^ 32) (q % 2 ^ 32)) s)

pub word_of : (k : Option Arc) (v : ℕ) → is_some k ≡ true → IsHeld k v → v < 2 ^ 32
word_of None v h is = let bad : ⊥ = cc in absurd bad
word_of (Some k) v h is = is.word

-- a difference of two registers that differ is not the shift alone
pub not_shift : (x : Said) (m : Measure) (at : ℕ → Option Arc) (regs : List ℕ) → ((r : ℕ) → IsHeld (held at r) (reg regs r)) → is_taken x.op (reg regs x.first) (reg regs x.second) ≡ true →
    is_difference (Some x) m at ≡ true → measured m regs ≢ m.shift % 2 ^ 32
not_shift x m at regs are so h same = ne (equal (or_cases ((m.factor == 1) && (m.other_factor == 2 ^ 32 - 1)) ((m.factor == 2 ^ 32 - 1) && (m.other_factor == 1)) p.1))
  where
    a : ℕ
    a = reg regs m.register

    b : ℕ
    b = reg regs m.other

    p : ((differs x.op && is_some (held at m.register) && is_some (held at m.other) && (((m.register == x.first) && (m.other == x.second)) || ((m.register == x.second) && (m.other == x.first)))) ≡ true) × ((((m.factor == 1) && (m.other_factor == 2 ^ 32 - 1)) || ((m.factor == 2 ^ 32 - 1) && (m.other_factor == 1))) ≡ true)
    p = and_parts (differs x.op && is_some (held at m.register) && is_some (held at m.other) && (((m.register == x.first) && (m.other == x.second)) || ((m.register == x.second) && (m.other == x.first))))
        (((m.factor == 1) && (m.other_factor == 2 ^ 32 - 1)) || ((m.factor == 2 ^ 32 - 1) && (m.other_factor == 1))) h

    q : ((differs x.op && is_some (held at m.register) && is_some (held at m.other)) ≡ true) × ((((m.register == x.first) && (m.other == x.second)) || ((m.register == x.second) && (m.other == x.first))) ≡ true)
    q = and_parts (differs x.op && is_some (held at m.register) && is_some (held at m.other)) (((m.register == x.first) && (m.other == x.second)) || ((m.register == x.second) && (m.other == x.first))) p.0

    w : ((differs x.op && is_some (held at m.register)) ≡ true) × (is_some (held at m.other) ≡ true)
    w = and_parts (differs x.op && is_some (held at m.register)) (is_some (held at m.other)) q.0

    z : (differs x.op ≡ true) × (is_some (held at m.register) ≡ true)
    z = and_parts (differs x.op) (is_some (held at m.register)) w.0

    small_a : a < 2 ^ 32
    small_a = word_of (held at m.register) a z.1 (are m.register)

    small_b : b < 2 ^ 32
    small_b = word_of (held at m.other) b w.1 (are m.other)

    ne : a ≢ b
    ne e = ⊎_elim
        (λ (y : ((m.register == x.first) && (m.other == x.second)) ≡ true).
        let c = and_parts (m.register == x.first) (m.other == x.second) y in
        differ x.op (reg regs x.first) (reg regs x.second) z.0 so (sym (ap (reg regs) (eqb-true m.register x.first c.0)) ∙ (e ∙ ap (reg regs) (eqb-true m.other x.second c.1))))
        (λ (y : ((m.register == x.second) && (m.other == x.first)) ≡ true).
        let c = and_parts (m.register == x.second) (m.other == x.first) y in
        differ x.op (reg regs x.first) (reg regs x.second) z.0 so (sym (ap (reg regs) (eqb-true m.other x.first c.1)) ∙ (sym e ∙ ap (reg regs) (eqb-true m.register x.second c.0))))
        (or_cases ((m.register == x.first) && (m.other == x.second)) ((m.register == x.second) && (m.other == x.first)) q.1)

    equal : (((m.factor == 1) && (m.other_factor == 2 ^ 32 - 1)) ≡ true) ⊎ (((m.factor == 2 ^ 32 - 1) && (m.other_factor == 1)) ≡ true) → a ≡ b
    equal y = ⊎_elim
        (λ (y : ((m.factor == 1) && (m.other_factor == 2 ^ 32 - 1)) ≡ true).
        let c = and_parts (m.factor == 1) (m.other_factor == 2 ^ 32 - 1) y in
        apart m.shift a b small_a small_b
        (sym (ap (λ f. (m.shift + f * a + m.other_factor * b) % 2 ^ 32) (eqb-true m.factor 1 c.0) ∙ ap (λ f. (m.shift + 1 * a + f * b) % 2 ^ 32) (eqb-true m.other_factor (2 ^ 32 - 1) c.1)) ∙ same))
        (λ (y : ((m.factor == 2 ^ 32 - 1) && (m.other_factor == 1)) ≡ true).
        let c = and_parts (m.factor == 2 ^ 32 - 1) (m.other_factor == 1) y in
        apart_back m.shift a b small_a small_b
        (sym (ap (λ f. (m.shift + f * a + m.other_factor * b) % 2 ^ 32) (eqb-true m.factor (2 ^ 32 - 1) c.0) ∙ ap (λ f. (m.shift + (2 ^ 32 - 1) * a + f * b) % 2 ^ 32) (eqb-true m.other_factor 1 c.1)) ∙ same)) y

-- a register by a line
pub solved_in : (m : Measure) (line other : Option Arc) (regs : List ℕ) → m.factor ≡ 1 → reg regs m.register < 2 ^ 32 → IsHeld line (measured m regs) → IsHeld other (reg regs m.other) →
    IsHeld (solved m line other) (reg regs m.register)
solved_in m line other regs one small a b =
    let x : ℕ = reg regs m.register in
    let o : ℕ = reg regs m.other in
    let value : ℕ = measured m regs in
    let g : ℕ = opposite_of m.other_factor in
    let t : ℕ = opposite_of m.shift in
    let sum = sum_in line (scaled g other) value (g * o % 2 ^ 32) a (scaled_in g other o b) in
    let all = sum_with_in (sum_of line (scaled g other)) t (plus value (g * o % 2 ^ 32)) sum in
    let e : value ≡ (m.shift + 1 * x + m.other_factor * o) % 2 ^ 32 = ap (λ f. (m.shift + f * x + m.other_factor * o) % 2 ^ 32) one in
    subst (λ n. IsHeld (solved m line other) n) (ap (λ n. plus (plus n (g * o % 2 ^ 32)) t) e ∙ solved_is m.shift x m.other_factor o small) all
