-- Which jumps fit.
use Rattle.std.proofs.Common.{◌≡◌, ℕ, ℤ, pos, negsuc, ◌%◌, ◌^◌, ◌<◌, Bool, true, false, arith, refl, sym, ap, ◌∙◌}
use Rattle.std.specs.Prelude.{nat_lt, ◌==◌, ◌&&◌, IsTrue, ◌↔◌}
use Rattle.std.proofs.lemmas.Bool.{and_parts, and_from}
use Rattle.std.proofs.lemmas.Bool.Decides.{nat_tests}
use Rattle.scale_base.specs.Word.{FieldsInRange, IsSignedField, IsEven}
use Rattle.rv_encode.specs.Jumps.{distance, Reaches}
use Rattle.stub_writer.specs.Stubs.{jump, is_even, is_field}
use Rattle.image_lower.specs.Trees.{fits}

-- the offset of a JAL
abbrev pub fits_jal : ℤ → Bool
fits_jal z = is_even z && is_field z

pub offset_fits : (z : ℤ) → (is_even z && is_field z) ≡ true → IsEven z × IsSignedField 21 z
offset_fits (pos n) h = let p = and_parts (n % 2 == 0) (nat_lt n (2 ^ 20)) h in (grind (arith, nat_tests), grind (arith, nat_tests))
offset_fits (negsuc n) h = let p = and_parts (n % 2 == 1) (nat_lt n (2 ^ 20)) h in (grind (arith, nat_tests), grind (arith, nat_tests))

pub fits_offset : (z : ℤ) → IsEven z → IsSignedField 21 z → fits_jal z ≡ true
fits_offset (pos n) e f = and_from (n % 2 == 0) (nat_lt n (2 ^ 20)) (grind (arith, nat_tests)) (grind (arith, nat_tests))
fits_offset (negsuc n) e f = and_from (n % 2 == 1) (nat_lt n (2 ^ 20)) (grind (arith, nat_tests)) (grind (arith, nat_tests))

is_false : (b : Bool) → (b ≡ true → ⊥) → false ≡ b
is_false true h = absurd (h refl)
is_false false h = refl

-- between addresses of 32 bits
pub reaches_is : (from to : ℕ) → from < 2 ^ 32 → to < 2 ^ 32 → fits (jump from to) ≡ fits_jal (distance from to)
reaches_is from to low small =
    let a : from % 2 ^ 32 ≡ from = omega (arith, low) in
    let b : to % 2 ^ 32 ≡ to = omega (arith, small) in
    ap (λ f. fits_jal (distance f (to % 2 ^ 32))) a ∙ ap (λ t. fits_jal (distance from t)) b

-- what the test says, as the definition says it
as_tested : (from to : ℕ) (r : Bool) → (IsTrue r ↔ Reaches from to) → r ≡ fits_jal (distance from to)
as_tested from to true h = let p = h.0 refl in sym (fits_offset (distance from to) p.0 p.1)
as_tested from to false h =
    is_false (fits_jal (distance from to)) (λ e. let never : false ≡ true = h.1 (offset_fits (distance from to) e) in cc)

pub jump_fits_as : (from to : ℕ) (r : Bool) → from < 2 ^ 32 → to < 2 ^ 32 → (IsTrue r ↔ Reaches from to) → r ≡ fits (jump from to)
jump_fits_as from to r low small h = as_tested from to r h ∙ sym (reaches_is from to low small)

pub fits_fields : (from to : ℕ) → fits (jump from to) ≡ true → FieldsInRange (jump from to)
fits_fields from to h = let p = offset_fits (distance (from % 2 ^ 32) (to % 2 ^ 32)) h in (omega arith, p.0, p.1)

pub jump_fields : (from to : ℕ) → from < 2 ^ 32 → to < 2 ^ 32 → fits (jump from to) ≡ true → FieldsInRange (jump from to)
jump_fields from to low small h = fits_fields from to h
