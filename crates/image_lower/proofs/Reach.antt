-- Which jumps fit.
use Rattle.std.proofs.Common.{◌≡◌, ℕ, ℤ, pos, negsuc, ◌%◌, ◌^◌, ◌<◌, ◌≤◌, Bool, true, false, arith, refl, sym, ap, ◌∙◌}
use Rattle.std.specs.Prelude.{nat_lt, ◌==◌, ◌&&◌, IsTrue, ◌↔◌}
use Rattle.std.proofs.lemmas.Bool.{and_parts, and_from}
use Rattle.std.proofs.lemmas.Bool.Decides.{nat_tests}
use Rattle.scale_base.specs.declared.instruction.Instr.TheVariants as instr
use Rattle.scale_base.specs.Word.{FieldsInRange, IsSignedField, IsEven}
use Rattle.rv_encode.specs.Jumps.{distance, Reaches}
use Rattle.stub_writer.specs.Stubs.{reaches, is_even, is_field}

-- the offset of a JAL
abbrev fits_jal : ℤ → Bool
fits_jal z = is_even z && is_field z

pub offset_fits : (z : ℤ) → (is_even z && is_field z) ≡ true → IsEven z × IsSignedField 21 z
offset_fits (pos n) h = let p = and_parts (n % 2 == 0) (nat_lt n (2 ^ 20)) h in (grind (arith, nat_tests), grind (arith, nat_tests))
offset_fits (negsuc n) h = let p = and_parts (n % 2 == 1) (nat_lt n (2 ^ 20)) h in (grind (arith, nat_tests), grind (arith, nat_tests))

fits_offset : (z : ℤ) → IsEven z → IsSignedField 21 z → fits_jal z ≡ true
fits_offset (pos n) e f = and_from (n % 2 == 0) (nat_lt n (2 ^ 20)) (grind (arith, nat_tests)) (grind (arith, nat_tests))
fits_offset (negsuc n) e f = and_from (n % 2 == 1) (nat_lt n (2 ^ 20)) (grind (arith, nat_tests)) (grind (arith, nat_tests))

is_false : (b : Bool) → (b ≡ true → ⊥) → false ≡ b
is_false true h = absurd (h refl)
is_false false h = refl

-- between addresses of 32 bits
pub reaches_is : (from to : ℕ) → from < 2 ^ 32 → to < 2 ^ 32 → reaches from to ≡ (is_even (distance from to) && is_field (distance from to))
reaches_is from to low small =
    let a : from % 2 ^ 32 ≡ from = omega (arith, low) in
    let b : to % 2 ^ 32 ≡ to = omega (arith, small) in
    ap (λ f. fits_jal (distance f (to % 2 ^ 32))) a ∙ ap (λ t. fits_jal (distance from t)) b

-- what the test says, as the definition says it
as_tested : (from to : ℕ) (r : Bool) → (IsTrue r ↔ Reaches from to) → r ≡ fits_jal (distance from to)
as_tested from to true h = let p = h.0 refl in sym (fits_offset (distance from to) p.0 p.1)
as_tested from to false h =
    is_false (fits_jal (distance from to)) (λ e. let never : false ≡ true = h.1 (offset_fits (distance from to) e) in cc)

pub reaches_as : (from to : ℕ) (r : Bool) → from < 2 ^ 32 → to < 2 ^ 32 → (IsTrue r ↔ Reaches from to) → r ≡ reaches from to
reaches_as from to r low small h = as_tested from to r h ∙ sym (reaches_is from to low small)

pub near_fits : (at rd to : ℕ) → rd ≤ 1 → at < 2 ^ 32 → to < 2 ^ 32 → reaches at to ≡ true → FieldsInRange (instr.Jal rd (distance at to))
near_fits at rd to one low small h = let p = offset_fits (distance at to) (sym (reaches_is at to low small) ∙ h) in (omega (arith, one), p.0, p.1)

pub fits_as : (z : ℤ) (a b : Bool) → (IsTrue a ↔ IsEven z) → (IsTrue b ↔ IsSignedField 21 z) → (a && b) ≡ (is_even z && is_field z)
fits_as z true true h g = sym (fits_offset z (h.0 refl) (g.0 refl))
fits_as z true false h g = is_false (fits_jal z) (λ e. let never : false ≡ true = g.1 (offset_fits z e).1 in cc)
fits_as z false b h g = is_false (fits_jal z) (λ e. let never : false ≡ true = h.1 (offset_fits z e).0 in cc)
