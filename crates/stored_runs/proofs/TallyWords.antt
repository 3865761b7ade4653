-- What a Tally makes of a count: of the sign of the shifted count less the number from which it stores, the word of the window that it stores to.
use Rattle.std.proofs.Common.{◌≡◌, ℕ, pos, negsuc, ◌+◌, ◌-◌, ◌/◌, ◌%◌, ◌^◌, ◌<◌, ◌≤◌, Bool, true, false, refl, arith, sym, ◌∙◌, ap}
use Rattle.std.proofs.Math.Nat.{div-le_self}
use Rattle.std.proofs.lemmas.Bool.{leb-true, leb-false}
use Rattle.std.proofs.lemmas.Int.{ints, to_z_pos, to_z-of_z}
use Rattle.std.specs.Int.{w32, cast_unsigned, int_shr}
use Rattle.scale_base.specs.declared.instruction.ImmOp.TheVariants.{Addi, Andi, Srli, Srai}
use Rattle.scale_base.specs.Arith.{moved_by, signed, unsigned, imm_result}
use Rattle.stored_runs.specs.Meaning.{is_due}
use Rattle.stored_runs.proofs.Points.{slot_index}
use Rattle.stored_runs.proofs.Moves.{aimed, place}

-- a shift by 31 that keeps the sign: 0 of a number that isn't negative,
pub sign_of_low : (v : ℕ) → v < 2 ^ 31 → imm_result Srai v (pos 31) ≡ 0
sign_of_low v h = ap (λ z. unsigned (int_shr z 31)) (to_z_pos w32 v h) ∙ omega arith

-- and all ones of one that is
pub sign_of_high : (v : ℕ) → 2 ^ 31 ≤ v → v < 2 ^ 32 → imm_result Srai v (pos 31) ≡ 2 ^ 32 - 1
sign_of_high v h lt =
    let k = 2 ^ 32 - 1 - v in
    let back : cast_unsigned w32 (negsuc k) ≡ v = omega (arith, ints) in
    let is : signed v ≡ negsuc k = ap signed (sym back) ∙ to_z-of_z w32 (negsuc k) (record { sfits = omega arith }) in
    ap (λ z. unsigned (int_shr z 31)) is ∙ omega (arith, ints)

-- -2040 and all ones, and -2040 and 0
pub masked_ones : imm_result Andi (2 ^ 32 - 1) (negsuc 2039) ≡ 2 ^ 32 - 2040
masked_ones = refl

pub masked_none : imm_result Andi 0 (negsuc 2039) ≡ 0
masked_none = refl

-- the count is one more, and is shifted
abbrev shifted_count : (shift count : ℕ) → ℕ
shifted_count shift count = imm_result Srli (imm_result Addi count (pos 1)) (pos shift)

shifted_is : (shift count : ℕ) → shift < 32 → count + 1 < 2 ^ 31 → shifted_count shift count ≡ (count + 1) / 2 ^ shift
shifted_is shift count short small =
    let by : unsigned (pos shift) % 32 ≡ shift = omega (arith, ints) in
    let one : imm_result Addi count (pos 1) ≡ count + 1 = omega arith in
    ap (λ k. imm_result Addi count (pos 1) / 2 ^ k) by ∙ ap (λ x. x / 2 ^ shift) one

-- what t0 holds as the code stores
abbrev pub steered : (shift from count : ℕ) → ℕ
steered shift from count =
    imm_result Andi (imm_result Srai (imm_result Addi (shifted_count shift count) (negsuc (from - 1))) (pos 31)) (negsuc 2039)

sign_by : (q from : ℕ) → q < 2 ^ 31 → 1 ≤ from → from < 2048 → (b : Bool) → (b ≡ true → from ≤ q) → (b ≡ false → q < from) → moved_by (imm_result Andi (imm_result Srai (imm_result Addi q (negsuc (from - 1))) (pos 31)) (negsuc 2039)) (negsuc 3) ≡ place (slot_index 2 (aimed b))
sign_by q from small least most true late early =
    let reached : from ≤ q = late refl in
    let less : imm_result Addi q (negsuc (from - 1)) ≡ q - from = omega (arith, ints) in
    let sign = ap (λ v. imm_result Srai v (pos 31)) less ∙ sign_of_low (q - from) (omega arith) in
    ap (λ v. moved_by (imm_result Andi v (negsuc 2039)) (negsuc 3)) sign
sign_by q from small least most false late early =
    let before : q < from = early refl in
    let less : imm_result Addi q (negsuc (from - 1)) ≡ 2 ^ 32 - (from - q) = omega (arith, ints) in
    let sign = ap (λ v. imm_result Srai v (pos 31)) less ∙ sign_of_high (2 ^ 32 - (from - q)) (omega arith) (omega arith) in
    ap (λ v. moved_by (imm_result Andi v (negsuc 2039)) (negsuc 3)) sign

-- the address that it stores to
pub steered_is : (shift from count : ℕ) → shift < 32 → 1 ≤ from → from < 2048 → count + 1 < 2 ^ 31 → (b : Bool) → is_due shift from count ≡ b → moved_by (steered shift from count) (negsuc 3) ≡ place (slot_index 2 (aimed b))
steered_is shift from count short least most small b e =
    let q = (count + 1) / 2 ^ shift in
    let low : q < 2 ^ 31 = omega (arith, div-le_self (count + 1) (2 ^ shift), small) in
    ap (λ v. moved_by (imm_result Andi (imm_result Srai (imm_result Addi v (negsuc (from - 1))) (pos 31)) (negsuc 2039)) (negsuc 3)) (shifted_is shift count short small)
    ∙ sign_by q from low least most b (λ t. leb-true from q (e ∙ t)) (λ t. leb-false from q (e ∙ t))
