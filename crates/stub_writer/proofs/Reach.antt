-- Which jumps fit, and how many rows a fragment has.
use Rattle.std.proofs.Common.{◌≡◌, ℕ, ℤ, pos, negsuc, ◌%◌, ◌^◌, Bool, true, false, arith, refl, sym}
use Rattle.std.specs.Prelude.{nat_lt, ◌==◌, ◌&&◌, IsTrue, ◌↔◌}
use Rattle.std.proofs.lemmas.Bool.{and_parts, and_from}
use Rattle.std.proofs.lemmas.Bool.Decides.{nat_tests}
use Rattle.scale_base.specs.Word.{FieldsInRange, IsSignedField, IsEven}
use Rattle.stub_writer.specs.Stubs.{jump, reaches, is_even, is_field}
use Rattle.rv_encode.specs.Jumps.{distance, Reaches}

-- ---- jumps

reach_fits : (z : ℤ) → (is_even z && is_field z) ≡ true → IsEven z × IsSignedField 21 z
reach_fits (pos n) h = let p = and_parts (n % 2 == 0) (nat_lt n (2 ^ 20)) h in (grind (arith, nat_tests), grind (arith, nat_tests))
reach_fits (negsuc n) h = let p = and_parts (n % 2 == 1) (nat_lt n (2 ^ 20)) h in (grind (arith, nat_tests), grind (arith, nat_tests))

fits_reach : (z : ℤ) → IsEven z → IsSignedField 21 z → (is_even z && is_field z) ≡ true
fits_reach (pos n) e f = and_from (n % 2 == 0) (nat_lt n (2 ^ 20)) (grind (arith, nat_tests)) (grind (arith, nat_tests))
fits_reach (negsuc n) e f = and_from (n % 2 == 1) (nat_lt n (2 ^ 20)) (grind (arith, nat_tests)) (grind (arith, nat_tests))

pub jump_fits : (from to : ℕ) → reaches from to ≡ true → FieldsInRange (jump from to)
jump_fits from to h = let p = reach_fits (distance (from % 2 ^ 32) (to % 2 ^ 32)) h in (omega arith, p.0, p.1)

pub true_reaches : (from to : ℕ) → Reaches (from % 2 ^ 32) (to % 2 ^ 32) → reaches from to ≡ true
true_reaches from to h = fits_reach (distance (from % 2 ^ 32) (to % 2 ^ 32)) h.0 h.1

is_false : (b : Bool) → (b ≡ true → ⊥) → false ≡ b
is_false true h = absurd (h refl)
is_false false h = refl

-- what the test says, as the definition says it
pub reaches_as : (from to : ℕ) (r : Bool) → (IsTrue r ↔ Reaches (from % 2 ^ 32) (to % 2 ^ 32)) → r ≡ reaches from to
reaches_as from to true h = sym (true_reaches from to (h.0 refl))
reaches_as from to false h =
    is_false (reaches from to) (λ e. let no : false ≡ true = h.1 (reach_fits (distance (from % 2 ^ 32) (to % 2 ^ 32)) e) in cc)
