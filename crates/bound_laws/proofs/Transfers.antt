-- The intervals behind an instruction hold what its step leaves in the registers.
use Rattle.std.proofs.Common.{◌≡◌, ◌≢◌, ℕ, zero, suc, ◌+◌, ◌-◌, ◌*◌, ◌<◌, ◌≤◌, ◌%◌, ◌^◌, ⊎_elim, Bool, true, false, length, cond, refl, sym, ap, ◌∙◌, subst, arith, Option, Some, None, get_or-set_same}
use Rattle.std.specs.Prelude.{ℤ, pos, negsuc, ◌*ℤ◌, min, ◌==◌, ◌&&◌, ◌||◌, not, nat_lt, nat_le, int_lt}
use Rattle.std.specs.Int.{w8, w16, cast_signed}
use Rattle.std.proofs.Math.ListN.{get_or-eq_default}
use Rattle.std.proofs.lemmas.Int.{to_z_pos}
use mir.Val.{sel}
use Rattle.std.proofs.Math.Pow.{pow_pos}
use Rattle.std.proofs.lemmas.Bool.{cond_both, cond-true, cond-false, eqb-true, eqb-false, not-true, not-false, and_parts, or_parts, ltb-true, ltb-false, lt-ltb, both_ways}
use Rattle.scale_base.specs.declared.instruction.BranchOp.{BranchOp}
use Rattle.scale_base.specs.declared.instruction.BranchOp.TheVariants.{Beq, Bne, Blt, Bge, Bltu, Bgeu}
use Rattle.scale_base.specs.declared.instruction.LoadOp.{LoadOp}
use Rattle.scale_base.specs.declared.instruction.LoadOp.TheVariants.{Lb, Lh, Lw, Lbu, Lhu}
use Rattle.scale_base.specs.declared.instruction.ImmOp.{ImmOp}
use Rattle.scale_base.specs.declared.instruction.ImmOp.TheVariants.{Addi, Slti, Sltiu, Xori, Ori, Andi, Slli, Srli, Srai}
use Rattle.scale_base.specs.declared.instruction.RegOp.{RegOp}
use Rattle.scale_base.specs.declared.instruction.RegOp.TheVariants.{Add, Sub, Sll, Slt, Sltu, Xor, Srl, Sra, Or, And, Mul, Mulh, Mulhsu, Mulhu, Div, Divu, Rem, Remu}
use Rattle.scale_base.specs.declared.instruction.Instr.{Instr}
use Rattle.scale_base.specs.declared.instruction.Instr.TheVariants.{Lui, Auipc, Jal, Jalr, Branch, Load, Store, Imm, Reg, Fence, Ecall, Ebreak}
use Rattle.scale_base.specs.declared.stepping.Stepped.{Stepped}
use Rattle.scale_base.specs.declared.stepping.StepEnd.TheVariants.{Went}
use Rattle.scale_base.specs.Reading.{instr_of}
use Rattle.scale_base.specs.Image.{WINDOW_START}
use Rattle.scale_base.specs.Layout.{can_read, uses_window, is_keyed, in_option, may_write, reads_byte}
use Rattle.scale_base.specs.Service.{served, serves, read_count, write_count, no_service, bad_descriptor, bad_address}
use Rattle.scale_base.specs.Arith.{plus, moved_by, unsigned, signed, upper_half, reg_result, imm_result, is_taken, load_width, loaded}
use Rattle.scale_base.specs.State.{Setting, State, reg, with_reg, word_at, half_at}
use Rattle.scale_base.specs.Step.{Outcome, stops, goes, stepped, jumps, branches, loads, performs, step}
use Rattle.scale_base.specs.declared.stepping.TrapKind.TheVariants as traps
use Rattle.bound_laws.specs.Registers.{keeps}
use Rattle.bound_laws.specs.Values.{Arc, IsIn, IsHeld, arc, strided, exactly, power_of, top_of, reg_arc, imm_arc, load_arc, answer_arc, held, written, Said, said, opposite, Interval, plain, biased, is_signed, view, of_view, first_range, second_range, first_by, second_by, kept_by, meet, HasNone, IsEmpty, IsImpossible, passed, differs, IsRegister, AreBytes}
use Rattle.bound_laws.proofs.Effects.{performs_leave, step_of}
use Rattle.bound_laws.proofs.Signed.{low_one, high_one, upper_word_by}
use Rattle.bound_laws.proofs.Quotients.{product_in, upper_product_in, quotient_in, divided_in, remainder_in, signed_upper_product_in, signed_quotient_in, signed_remainder_in, power_in, lowered_by_in, lowered_in, united_in, parted_in}
use Rattle.bound_laws.proofs.Arcs.{in_arc, only_one, times_in, in_word, in_low, in_exactly, sum_in, sum_with_in, difference_in, common_in, truth_in, below_top, meet_in, without_in, IsBetween, plain_in, of_plain, biased_in, of_biased, below_in, above_in, at_most_in, at_least_in, both_in, without_one_in}

-- ---- operations

reg_in : (op : RegOp) (i j : Option Arc) (a b : ℕ) → IsHeld i a → IsHeld j b → IsHeld (reg_arc op i j) (reg_result op a b)
reg_in Add i j a b x y = sum_in i j a b x y
reg_in Sub i j a b x y = difference_in i j a b x y
reg_in Sll i j a b x y = product_in i (power_of j) a (2 ^ (b % 32)) x (power_in j b y)
reg_in Slt i j a b x y = truth_in (int_lt (signed a) (signed b))
reg_in Sltu i j a b x y = truth_in (nat_lt a b)
reg_in Xor i j a b x y = parted_in i j a b x y
reg_in Srl i j a b x y = quotient_in i (power_of j) a (2 ^ (b % 32)) (pow_pos (b % 32)) x (power_in j b y)
reg_in Sra i j a b x y = lowered_in i j a b x y
reg_in Or i j a b x y = united_in i j a b x y
reg_in And i j a b x y = common_in i j a b x y
reg_in Mul i j a b x y = product_in i j a b x y
reg_in Mulh i j a b x y = signed_upper_product_in i j a b x y
reg_in Mulhsu i None a b x y = tt
reg_in Mulhsu i (Some j) a b x y = in_word (upper_half (signed a *ℤ pos b)) (upper_word_by a b y.word)
reg_in Mulhu i j a b x y = upper_product_in i j a b x y
reg_in Div i j a b x y = signed_quotient_in i j a b x y
reg_in Divu i j a b x y = divided_in i j a b x y
reg_in Rem i j a b x y = signed_remainder_in i j a b x y
reg_in Remu i j a b x y = remainder_in i j a b x y

few_bits : (n : ℕ) → n % 32 < 32
few_bits n = omega arith

imm_in : (op : ImmOp) (i : Option Arc) (a : ℕ) (z : ℤ) → IsHeld i a → IsHeld (imm_arc op i (unsigned z)) (imm_result op a z)
imm_in Addi i a z x = sum_with_in i (unsigned z) a x
imm_in Slti i a z x = truth_in (int_lt (signed a) (signed (unsigned z)))
imm_in Sltiu i a z x = truth_in (nat_lt a (unsigned z))
imm_in Xori i a z x = parted_in i (exactly (unsigned z)) a (unsigned z) x (in_exactly (unsigned z))
imm_in Ori i a z x = united_in i (exactly (unsigned z)) a (unsigned z) x (in_exactly (unsigned z))
imm_in Andi i a z x = common_in i (exactly (unsigned z)) a (unsigned z) x (in_exactly (unsigned z))
imm_in Slli i a z x = times_in i (2 ^ (unsigned z % 32)) a x
imm_in Srli i a z x = quotient_in i (exactly (2 ^ (unsigned z % 32))) a (2 ^ (unsigned z % 32)) (pow_pos (unsigned z % 32)) x (in_exactly (2 ^ (unsigned z % 32)))
imm_in Srai i a z x = lowered_by_in i a (unsigned z % 32) (few_bits (unsigned z)) x

-- ---- loads

half_small : (x y : ℕ) → x < 256 → y < 256 → x + y * 2 ^ 8 ≤ 65535
half_small x y a b = omega arith

word_small : (x y z u : ℕ) → x < 256 → y < 256 → z < 256 → u < 256 → x + y * 2 ^ 8 + z * 2 ^ 16 + u * 2 ^ 24 < 2 ^ 32
word_small x y z u a b c d = omega arith

-- signed ones, from the low half and the high one
byte_in : (n : ℕ) → n < 256 → IsIn (arc (2 ^ 32 - 128) 255) (unsigned (cast_signed w8 n))
byte_in n h = by (nat_lt n 128) refl
  where
    by : (p : Bool) → nat_lt n 128 ≡ p → IsIn (arc (2 ^ 32 - 128) 255) (unsigned (cast_signed w8 n))
    by true e =
        let l : n < 128 = ltb-true n 128 e in
        subst (λ z. IsIn (arc (2 ^ 32 - 128) 255) (unsigned z)) (sym (to_z_pos w8 n l)) (in_arc (2 ^ 32 - 128) 255 n (omega arith) (omega arith) (omega arith))
    by false e =
        let l : 128 ≤ n = ltb-false n 128 e in
        let o : cast_signed w8 n ≡ negsuc (256 - suc n) = ap (λ b. sel b (pos n) (negsuc (256 - suc n))) e in
        subst (λ z. IsIn (arc (2 ^ 32 - 128) 255) (unsigned z)) (sym o) (in_arc (2 ^ 32 - 128) 255 (2 ^ 32 - suc (256 - suc n)) (omega arith) (omega arith) (omega arith))

half_in : (n : ℕ) → n < 65536 → IsIn (arc (2 ^ 32 - 32768) 65535) (unsigned (cast_signed w16 n))
half_in n h = by (nat_lt n 32768) refl
  where
    by : (p : Bool) → nat_lt n 32768 ≡ p → IsIn (arc (2 ^ 32 - 32768) 65535) (unsigned (cast_signed w16 n))
    by true e =
        let l : n < 32768 = ltb-true n 32768 e in
        subst (λ z. IsIn (arc (2 ^ 32 - 32768) 65535) (unsigned z)) (sym (to_z_pos w16 n l)) (in_arc (2 ^ 32 - 32768) 65535 n (omega arith) (omega arith) (omega arith))
    by false e =
        let l : 32768 ≤ n = ltb-false n 32768 e in
        let o : cast_signed w16 n ≡ negsuc (65536 - suc n) = ap (λ b. sel b (pos n) (negsuc (65536 - suc n))) e in
        subst (λ z. IsIn (arc (2 ^ 32 - 32768) 65535) (unsigned z)) (sym o) (in_arc (2 ^ 32 - 32768) 65535 (2 ^ 32 - suc (65536 - suc n)) (omega arith) (omega arith) (omega arith))

load_in : (op : LoadOp) (bytes : ℕ → ℕ) (at : ℕ) → AreBytes bytes → IsHeld (load_arc op) (loaded op bytes at)
load_in Lb bytes at b = byte_in (bytes at) (b at)
load_in Lh bytes at b = let p = half_small (bytes at) (bytes (at + 1)) (b at) (b (at + 1)) in half_in (half_at bytes at) (omega arith)
load_in Lw bytes at b = in_word (word_at bytes at) (word_small (bytes at) (bytes (at + 1)) (bytes (at + 2)) (bytes (at + 3)) (b at) (b (at + 1)) (b (at + 2)) (b (at + 3)))
load_in Lbu bytes at b = let p = b at in in_low (bytes at) 255 (omega arith) (omega arith)
load_in Lhu bytes at b = let p = half_small (bytes at) (bytes (at + 1)) (b at) (b (at + 1)) in in_low (half_at bytes at) 65535 (omega arith) p

-- ---- signed numbers

pub signed_order : (a b : ℕ) → a < 2 ^ 32 → b < 2 ^ 32 → ((int_lt (signed a) (signed b) ≡ true) → biased a < biased b) × ((int_lt (signed a) (signed b) ≡ false) → biased b ≤ biased a)
signed_order a b x y = by (nat_lt a (2 ^ 31)) refl (nat_lt b (2 ^ 31)) refl
  where
    both_as : (u w : ℤ) → signed a ≡ u → signed b ≡ w → int_lt (signed a) (signed b) ≡ int_lt u w
    both_as u w e f = ap (λ z. int_lt z (signed b)) e ∙ ap (int_lt u) f

    by : (p : Bool) → nat_lt a (2 ^ 31) ≡ p → (q : Bool) → nat_lt b (2 ^ 31) ≡ q → ((int_lt (signed a) (signed b) ≡ true) → biased a < biased b) × ((int_lt (signed a) (signed b) ≡ false) → biased b ≤ biased a)
    by true e true f =
        let la : a < 2 ^ 31 = ltb-true a (2 ^ 31) e in let lb : b < 2 ^ 31 = ltb-true b (2 ^ 31) f in
        let s : int_lt (signed a) (signed b) ≡ nat_lt a b = both_as (pos a) (pos b) (low_one a la) (low_one b lb) in
        (λ h. (let lt : a < b = ltb-true a b (sym s ∙ h) in omega arith), λ h. (let le : b ≤ a = ltb-false a b (sym s ∙ h) in omega arith))
    by true e false f =
        let la : a < 2 ^ 31 = ltb-true a (2 ^ 31) e in let lb : 2 ^ 31 ≤ b = ltb-false b (2 ^ 31) f in
        let s : int_lt (signed a) (signed b) ≡ false = both_as (pos a) (negsuc (2 ^ 32 - suc b)) (low_one a la) (high_one b lb) in
        (λ h. absurd (both_ways (int_lt (signed a) (signed b)) s h), λ h. omega arith)
    by false e true f =
        let la : 2 ^ 31 ≤ a = ltb-false a (2 ^ 31) e in let lb : b < 2 ^ 31 = ltb-true b (2 ^ 31) f in
        let s : int_lt (signed a) (signed b) ≡ true = both_as (negsuc (2 ^ 32 - suc a)) (pos b) (high_one a la) (low_one b lb) in
        (λ h. omega arith, λ h. absurd (both_ways (int_lt (signed a) (signed b)) h s))
    by false e false f =
        let la : 2 ^ 31 ≤ a = ltb-false a (2 ^ 31) e in let lb : 2 ^ 31 ≤ b = ltb-false b (2 ^ 31) f in
        let s : int_lt (signed a) (signed b) ≡ nat_lt (2 ^ 32 - suc b) (2 ^ 32 - suc a) = both_as (negsuc (2 ^ 32 - suc a)) (negsuc (2 ^ 32 - suc b)) (high_one a la) (high_one b lb) in (
          λ h. (let lt : 2 ^ 32 - suc b < 2 ^ 32 - suc a = ltb-true (2 ^ 32 - suc b) (2 ^ 32 - suc a) (sym s ∙ h) in omega arith),
          λ h. (let le : 2 ^ 32 - suc a ≤ 2 ^ 32 - suc b = ltb-false (2 ^ 32 - suc b) (2 ^ 32 - suc a) (sym s ∙ h) in omega arith),
        )

-- ---- comparisons, in the view of their kind

abbrev pub seen : BranchOp → ℕ → ℕ
seen op a = cond (is_signed op) (biased a) a

pub seen_in : (op : BranchOp) (i : Arc) (a : ℕ) → IsIn i a → IsBetween (view op i) (seen op a)
seen_in op i a x = by (is_signed op) refl
  where
    by : (b : Bool) → is_signed op ≡ b → IsBetween (view op i) (seen op a)
    by true e = subst (λ v. IsBetween v (seen op a)) (sym (cond-true _ _ _ e)) (subst (λ n. IsBetween (plain (biased i.low) i.more) n) (sym (cond-true _ _ _ e)) (biased_in i.low i.more a x.start x.word x.near))
    by false e = subst (λ v. IsBetween v (seen op a)) (sym (cond-false _ _ _ e)) (subst (λ n. IsBetween (plain i.low i.more) n) (sym (cond-false _ _ _ e)) (plain_in i.low i.more a x.start x.word x.near))

seen_back : (op : BranchOp) (i : Interval) (a : ℕ) → a < 2 ^ 32 → IsBetween i (seen op a) → IsIn (of_view op i) a
seen_back op i a w h = by (is_signed op) refl
  where
    by : (b : Bool) → is_signed op ≡ b → IsIn (of_view op i) a
    by true e = subst (λ k. IsIn k a) (sym (cond-true _ _ _ e)) (of_biased i a w (subst (λ n. IsBetween i n) (cond-true _ _ _ e) h))
    by false e = subst (λ k. IsIn k a) (sym (cond-false _ _ _ e)) (of_plain i a w (subst (λ n. IsBetween i n) (cond-false _ _ _ e) h))

pub first_between : (op : BranchOp) (i j : Interval) (a b : ℕ) → a < 2 ^ 32 → b < 2 ^ 32 → IsBetween i (seen op a) → IsBetween j (seen op b) → is_taken op a b ≡ true → IsBetween (first_range op i j) (seen op a)
first_between Beq i j a b v w x y h = both_in i j a x (subst (λ n. IsBetween j n) (sym (eqb-true a b h)) y)
first_between Bne i j a b v w x y h = without_one_in i j a b x y (eqb-false a b (not-true (a == b) h))
first_between Blt i j a b v w x y h = below_in i j (biased a) (biased b) x y ((signed_order a b v w).0 h)
first_between Bge i j a b v w x y h = at_least_in i j (biased a) (biased b) x y ((signed_order a b v w).1 (not-true (int_lt (signed a) (signed b)) h))
first_between Bltu i j a b v w x y h = below_in i j a b x y (ltb-true a b h)
first_between Bgeu i j a b v w x y h = at_least_in i j a b x y (ltb-false a b (not-true (nat_lt a b) h))

pub second_between : (op : BranchOp) (i j : Interval) (a b : ℕ) → a < 2 ^ 32 → b < 2 ^ 32 → IsBetween i (seen op a) → IsBetween j (seen op b) → is_taken op a b ≡ true → IsBetween (second_range op i j) (seen op b)
second_between Beq i j a b v w x y h = both_in j i b y (subst (λ n. IsBetween i n) (eqb-true a b h) x)
second_between Bne i j a b v w x y h = without_one_in j i b a y x (λ e. eqb-false a b (not-true (a == b) h) (sym e))
second_between Blt i j a b v w x y h = above_in j i (biased b) (biased a) y x ((signed_order a b v w).0 h)
second_between Bge i j a b v w x y h = at_most_in j i (biased b) (biased a) y x ((signed_order a b v w).1 (not-true (int_lt (signed a) (signed b)) h))
second_between Bltu i j a b v w x y h = above_in j i b a y x (ltb-true a b h)
second_between Bgeu i j a b v w x y h = at_most_in j i b a y x (ltb-false a b (not-true (nat_lt a b) h))

first_seen : (op : BranchOp) (i j : Arc) (a b : ℕ) → IsIn i a → IsIn j b → is_taken op a b ≡ true → IsIn (meet i (of_view op (first_range op (view op i) (view op j)))) a
first_seen op i j a b x y h = meet_in i (of_view op (first_range op (view op i) (view op j))) a x (seen_back op (first_range op (view op i) (view op j)) a x.word (first_between op (view op i) (view op j) a b x.word y.word (seen_in op i a x) (seen_in op j b y) h))

second_seen : (op : BranchOp) (i j : Arc) (a b : ℕ) → IsIn i a → IsIn j b → is_taken op a b ≡ true → IsIn (meet j (of_view op (second_range op (view op i) (view op j)))) b
second_seen op i j a b x y h = meet_in j (of_view op (second_range op (view op i) (view op j))) b y (seen_back op (second_range op (view op i) (view op j)) b y.word (second_between op (view op i) (view op j) a b x.word y.word (seen_in op i a x) (seen_in op j b y) h))

pub first_in : (op : BranchOp) (i j : Option Arc) (a b : ℕ) → IsHeld i a → IsHeld j b → is_taken op a b ≡ true → IsHeld (first_by op i j) a
first_in op None j a b x y h = tt
first_in op (Some i) None a b x y h = x
first_in Beq (Some i) (Some j) a b x y h = first_seen Beq i j a b x y h
first_in Bne (Some i) (Some j) a b x y h = cond_both (j.more == 0) _ _ (λ k. IsHeld k a)
    (λ z. without_in (Some i) j.low a x (λ e. eqb-false a b (not-true (a == b) h) (e ∙ sym (only_one j b y (eqb-true j.more 0 z))))) (λ _. x)
first_in Blt (Some i) (Some j) a b x y h = first_seen Blt i j a b x y h
first_in Bge (Some i) (Some j) a b x y h = first_seen Bge i j a b x y h
first_in Bltu (Some i) (Some j) a b x y h = first_seen Bltu i j a b x y h
first_in Bgeu (Some i) (Some j) a b x y h = first_seen Bgeu i j a b x y h

pub second_in : (op : BranchOp) (i j : Option Arc) (a b : ℕ) → IsHeld i a → IsHeld j b → is_taken op a b ≡ true → IsHeld (second_by op i j) b
second_in op None None a b x y h = tt
second_in op (Some i) None a b x y h = tt
second_in op None (Some j) a b x y h = y
second_in Beq (Some i) (Some j) a b x y h = second_seen Beq i j a b x y h
second_in Bne (Some i) (Some j) a b x y h = cond_both (i.more == 0) _ _ (λ k. IsHeld k b)
    (λ z. without_in (Some j) i.low b y (λ e. eqb-false a b (not-true (a == b) h) (only_one i a x (eqb-true i.more 0 z) ∙ sym e))) (λ _. y)
second_in Blt (Some i) (Some j) a b x y h = second_seen Blt i j a b x y h
second_in Bge (Some i) (Some j) a b x y h = second_seen Bge i j a b x y h
second_in Bltu (Some i) (Some j) a b x y h = second_seen Bltu i j a b x y h
second_in Bgeu (Some i) (Some j) a b x y h = second_seen Bgeu i j a b x y h

not_empty : (i : Interval) (v : ℕ) → IsBetween i v → IsEmpty i → ⊥
not_empty i v h e = let a = h.0 in let b = h.1 in omega arith

has_some : (op : BranchOp) (i j : Option Arc) (a b : ℕ) → IsHeld i a → IsHeld j b → is_taken op a b ≡ true → HasNone op i j → ⊥
has_some op None j a b x y h none = none
has_some op (Some i) None a b x y h none = none
has_some op (Some i) (Some j) a b x y h none = ⊎_elim
    (λ (e : IsEmpty (first_range op (view op i) (view op j))). not_empty (first_range op (view op i) (view op j)) (seen op a) (first_between op (view op i) (view op j) a b x.word y.word (seen_in op i a x) (seen_in op j b y) h) e)
    (λ (e : IsEmpty (second_range op (view op i) (view op j))). not_empty (second_range op (view op i) (view op j)) (seen op b) (second_between op (view op i) (view op j) a b x.word y.word (seen_in op i a x) (seen_in op j b y) h) e) none

opposite_taken : (op : BranchOp) (a b : ℕ) → is_taken op a b ≡ false → is_taken (opposite op) a b ≡ true
opposite_taken Beq a b h = ap not h
opposite_taken Bne a b h = not-false (a == b) h
opposite_taken Blt a b h = ap not h
opposite_taken Bge a b h = not-false (int_lt (signed a) (signed b)) h
opposite_taken Bltu a b h = ap not h
opposite_taken Bgeu a b h = not-false (nat_lt a b) h

-- a comparison that says that two words differ
pub differ : (op : BranchOp) (a b : ℕ) → differs op ≡ true → is_taken op a b ≡ true → a ≢ b
differ Beq a b d h e = let bad : ⊥ = cc in bad
differ Bne a b d h e = eqb-false a b (not-true (a == b) h) e
differ Blt a b d h e = irreflexive (signed b) (subst (λ x. int_lt (signed x) (signed b) ≡ true) e h)
  where
    irreflexive : (z : ℤ) → int_lt z z ≡ true → ⊥
    irreflexive (pos n) h = let l : n < n = ltb-true n n h in omega arith
    irreflexive (negsuc n) h = let l : n < n = ltb-true n n h in omega arith
differ Bge a b d h e = let bad : ⊥ = cc in bad
differ Bltu a b d h e = let l : a < b = ltb-true a b h in omega arith
differ Bgeu a b d h e = let bad : ⊥ = cc in bad

-- ---- a step

answer_low : (n m : ℕ) → n < 2 ^ 32 - 5 → n < 2 ^ 32 → 2 ^ 32 - 38 ≤ n → (n + (2 ^ 32 - (2 ^ 32 - 38))) % 2 ^ 32 ≤ 38 + m
answer_low n m a b c = omega arith

answer_high : (n m : ℕ) → n ≤ m → n ≤ 256 → (n + (2 ^ 32 - (2 ^ 32 - 38))) % 2 ^ 32 ≤ 38 + m
answer_high n m a b = omega arith

module _ (env : Setting) (keyless : env.layout.keyed ≡ None) (s : State) (at : ℕ → Option Arc) (zero_is : reg s.regs 0 ≡ 0) (size : length s.regs ≡ 32) (are : (r : ℕ) → IsRegister r → IsHeld (at r) (reg s.regs r)) (bytes : AreBytes s.bytes) where
  pub held_in : (r : ℕ) → IsHeld (held at r) (reg s.regs r)
  held_in r = cond_both (nat_lt 0 r && nat_lt r 32) _ _ (λ k. IsHeld k (reg s.regs r))
      (λ h. let p = and_parts (nat_lt 0 r) (nat_lt r 32) h in are r (ltb-true 0 r p.0, ltb-true r 32 p.1))
      (λ h. subst (λ v. IsHeld (Some (strided 0 0 0)) v) (sym (none r h)) (in_exactly 0))
    where
      none : (r : ℕ) → (nat_lt 0 r && nat_lt r 32) ≡ false → reg s.regs r ≡ 0
      none zero h = zero_is
      none (suc n) h = get_or-eq_default s.regs 0 (let q : 32 ≤ suc n = past n h in omega arith)
        where
          past : (n : ℕ) → (nat_lt 0 (suc n) && nat_lt (suc n) 32) ≡ false → 32 ≤ suc n
          past n h = ltb-false (suc n) 32 (sym (ap (λ b. b && nat_lt (suc n) 32) (lt-ltb 0 (suc n) (omega arith))) ∙ h)

  -- where a way says something, it is so
  abbrev pub IsSo : Option Said → Type 0
  IsSo None = Unit {0}
  IsSo (Some x) = is_taken x.op (reg s.regs x.first) (reg s.regs x.second) ≡ true

  pub possible : (x : Option Said) → IsSo x → IsImpossible x at → ⊥
  possible None so none = none
  possible (Some x) so none = has_some x.op (held at x.first) (held at x.second) (reg s.regs x.first) (reg s.regs x.second) (held_in x.first) (held_in x.second) so none

  module _ (i : Instr) where
    branch_taken : (taken : Bool) (target : ℕ) (x : Stepped) → (branches env s i taken target).end ≡ Went x → not ((branches env s i taken target).state.pc == plus s.pc 4) ≡ true → taken ≡ true
    branch_taken true target x w h = refl
    branch_taken false target x w h = absurd (eqb-false (plus s.pc 4) (plus s.pc 4) (not-true (plus s.pc 4 == plus s.pc 4) h) refl)

    branch_not : (taken : Bool) (target : ℕ) (x : Stepped) → (branches env s i taken target).end ≡ Went x → not ((branches env s i taken target).state.pc == target) ≡ true → taken ≡ false
    branch_not false target x w h = refl
    branch_not true target x w h = absurd (aligned (target % 4 == 0) refl)
      where
        gone : Outcome
        gone = goes (stepped env s i true None target) (record s { pc = target })

        aligned : (b : Bool) → (target % 4 == 0) ≡ b → ⊥
        aligned true e =
            let o : branches env s i true target ≡ gone = cond-true _ _ _ e in
            eqb-false target target (not-true (target == target) (subst (λ q. not (q.state.pc == target) ≡ true) o h)) refl
        aligned false e =
            let o : branches env s i true target ≡ stops s traps.MisalignedTarget target = cond-false _ _ _ e in
            let z : (stops s traps.MisalignedTarget target).end ≡ Went x = sym (ap (λ q. q.end) o) ∙ w in
            let bad : ⊥ = cc in bad

    so_in : (j : Instr) (x : Stepped) → (performs env s i j).end ≡ Went x → IsSo (said j s.pc (performs env s i j).state.pc)
    so_in (Lui rd imm) x w = tt
    so_in (Auipc rd imm) x w = tt
    so_in (Jal rd offset) x w = tt
    so_in (Jalr rd rs1 offset) x w = tt
    so_in (Branch op rs1 rs2 offset) x w =
        let taken : Bool = is_taken op (reg s.regs rs1) (reg s.regs rs2) in
        let target : ℕ = moved_by s.pc offset in
        let o : Outcome = branches env s i taken target in
        cond_both (not (o.state.pc == plus s.pc 4)) _ _ IsSo
        (λ e. branch_taken taken target x w e)
        (λ _. cond_both (not (o.state.pc == target)) _ _ IsSo
        (λ e. opposite_taken op (reg s.regs rs1) (reg s.regs rs2) (branch_not taken target x w e))
        (λ _. tt))
    so_in (Load op rd rs1 offset) x w = tt
    so_in (Store op rs1 rs2 offset) x w = tt
    so_in (Imm op rd rs1 imm) x w = tt
    so_in (Reg op rd rs1 rs2) x w = tt
    so_in (Fence rd rs1 imm) x w = tt
    so_in Ecall x w = tt
    so_in Ebreak x w = tt

  kept_in : (x : Option Said) → IsSo x → (r : ℕ) → IsRegister r → IsHeld (kept_by x at r) (reg s.regs r)
  kept_in None so r is = are r is
  kept_in (Some x) so r is =
      let P : Option Arc → Type 0 = λ k. IsHeld k (reg s.regs r) in
      cond_both (r == x.first) _ _ P
      (λ e. subst (λ q. IsHeld (first_by x.op (held at x.first) (held at x.second)) (reg s.regs q)) (sym (eqb-true r x.first e)) (first_in x.op (held at x.first) (held at x.second) (reg s.regs x.first) (reg s.regs x.second) (held_in x.first) (held_in x.second) so))
      (λ _. cond_both (r == x.second) _ _ P
      (λ e. subst (λ q. IsHeld (second_by x.op (held at x.first) (held at x.second)) (reg s.regs q)) (sym (eqb-true r x.second e)) (second_in x.op (held at x.first) (held at x.second) (reg s.regs x.first) (reg s.regs x.second) (held_in x.first) (held_in x.second) so))
      (λ _. are r is))

  module _ (i : Instr) (r : ℕ) (is : IsRegister r) where
    put : (rd value : ℕ) → ((r == 0) || not (rd == r)) ≡ false → reg (with_reg s.regs rd value) r ≡ value
    put rd value h =
        let p = or_parts (r == 0) (not (rd == r)) h in
        let e : rd ≡ r = eqb-true rd r (not-false (rd == r) p.1) in
        let high : r < 32 = is.1 in
        ap (λ q. reg (with_reg s.regs q value) r) e ∙ (ap (λ xs. reg xs r) (cond-false _ _ _ p.0) ∙ get_or-set_same s.regs r value 0 (omega arith))

    abbrev Writes : Option Arc → Outcome → Type 0
    Writes k o = (x : Stepped) → o.end ≡ Went x → IsHeld k (reg o.state.regs r)

    puts : (rd value : ℕ) (k : Option Arc) → ((r == 0) || not (rd == r)) ≡ false → IsHeld k value → IsHeld k (reg (with_reg s.regs rd value) r)
    puts rd value k h v = subst (λ w. IsHeld k w) (sym (put rd value h)) v

    jumps_write : (rd target : ℕ) → ((r == 0) || not (rd == r)) ≡ false → Writes (exactly (plus s.pc 4)) (jumps env s i rd target)
    jumps_write rd target h = cond_both (target % 4 == 0) _ _ (Writes (exactly (plus s.pc 4))) (λ _ x w. puts rd (plus s.pc 4) (exactly (plus s.pc 4)) h (in_exactly (plus s.pc 4)))
        (λ _ x w. let bad : ⊥ = cc in absurd bad)

    no_window : (to width : ℕ) → uses_window env.layout s.pc to width ≡ true → ⊥
    no_window to width h =
        let e : is_keyed env.layout s.pc ≡ false = ap (in_option s.pc) keyless in
        let z : uses_window env.layout s.pc to width ≡ false = ap (λ b. b && (width == 4) && nat_le WINDOW_START to) e in
        both_ways (uses_window env.layout s.pc to width) z h

    loads_write : (op : LoadOp) (rd to : ℕ) → ((r == 0) || not (rd == r)) ≡ false → Writes (load_arc op) (loads env s i op rd to)
    loads_write op rd to h =
        cond_both (not (to % load_width op == 0)) _ _ (Writes (load_arc op)) (λ _ x w. let bad : ⊥ = cc in absurd bad)
        (λ _. cond_both (uses_window env.layout s.pc to (load_width op)) _ _ (Writes (load_arc op)) (λ u x w. absurd (no_window to (load_width op) u))
        (λ _. cond_both (can_read env.layout s.pc to (load_width op)) _ _ (Writes (load_arc op)) (λ _ x w. puts rd _ (load_arc op) h (load_in op s.bytes to bytes)) (λ _ x w. let bad : ⊥ = cc in absurd bad)))

    -- ---- services

    count_top : (c : Option Arc) (v : ℕ) → IsHeld c v → min v 256 ≤ min 256 (top_of c)
    count_top None v h = omega arith
    count_top (Some c) v h = let p = below_top c v h in omega arith

    few : (n : ℕ) → n ≤ reg s.regs 12 → n ≤ 256 → IsHeld (answer_arc (held at 12)) n
    few n a b =
        let p = count_top (held at 12) (reg s.regs 12) (held_in 12) in
        in_arc (2 ^ 32 - 38) (38 + min 256 (top_of (held at 12))) n (omega arith) (omega arith) (answer_high n (min 256 (top_of (held at 12))) (omega arith) b)

    refused : (n : ℕ) → n < 2 ^ 32 - 5 → 2 ^ 32 - 38 ≤ n → IsHeld (answer_arc (held at 12)) n
    refused n a b = in_arc (2 ^ 32 - 38) (38 + min 256 (top_of (held at 12))) n (omega arith) (omega arith) (answer_low n (min 256 (top_of (held at 12))) a (omega arith) b)

    served_writes : ((r == 0) || not (10 == r)) ≡ false → IsHeld (answer_arc (held at 12)) (reg (served env s).regs r)
    unfolding served
    served_writes h =
        let k : Option Arc = answer_arc (held at 12) in
        let P : State → Type 0 = λ t. IsHeld k (reg t.regs r) in
        cond_both (reg s.regs 17 == 63) _ _ P
        (λ _. cond_both (not (reg s.regs 10 == 0)) _ _ P (λ _. puts 10 bad_descriptor k h (refused bad_descriptor (omega arith) (omega arith)))
        (λ _. cond_both (not (serves (may_write env.layout) (reg s.regs 11) (read_count env s))) _ _ P (λ _. puts 10 bad_address k h (refused bad_address (omega arith) (omega arith)))
        (λ _. puts 10 (read_count env s) k h (few (read_count env s) (omega arith) (omega arith)))))
        (λ _. cond_both (reg s.regs 17 == 64) _ _ P
        (λ _. cond_both (not (reg s.regs 10 == 1)) _ _ P (λ _. puts 10 bad_descriptor k h (refused bad_descriptor (omega arith) (omega arith)))
        (λ _. cond_both (not (serves (reads_byte env.layout s.pc) (reg s.regs 11) (write_count s))) _ _ P (λ _. puts 10 bad_address k h (refused bad_address (omega arith) (omega arith)))
        (λ _. puts 10 (write_count s) k h (few (write_count s) (omega arith) (omega arith)))))
        (λ _. puts 10 no_service k h (refused no_service (omega arith) (omega arith))))

    performs_write : (j : Instr) → keeps r j ≡ false → Writes (written j s.pc at) (performs env s i j)
    performs_write (Lui rd imm) h x w = puts rd imm (exactly imm) h (in_exactly imm)
    performs_write (Auipc rd imm) h x w = puts rd (plus s.pc imm) (exactly (plus s.pc imm)) h (in_exactly (plus s.pc imm))
    performs_write (Jal rd offset) h x w = jumps_write rd _ h x w
    performs_write (Jalr rd rs1 offset) h x w = jumps_write rd _ h x w
    performs_write (Branch op rs1 rs2 offset) h x w = tt
    performs_write (Load op rd rs1 offset) h x w = loads_write op rd _ h x w
    performs_write (Store op rs1 rs2 offset) h x w = tt
    performs_write (Imm op rd rs1 imm) h x w = puts rd (imm_result op (reg s.regs rs1) imm) (imm_arc op (held at rs1) (unsigned imm)) h (imm_in op (held at rs1) (reg s.regs rs1) imm (held_in rs1))
    performs_write (Reg op rd rs1 rs2) h x w = puts rd (reg_result op (reg s.regs rs1) (reg s.regs rs2)) (reg_arc op (held at rs1) (held at rs2)) h (reg_in op (held at rs1) (held at rs2) (reg s.regs rs1) (reg s.regs rs2) (held_in rs1) (held_in rs2))
    performs_write (Fence rd rs1 imm) h x w = tt
    performs_write Ecall h x w = cond_both ((reg s.regs 17 == 93) || (reg s.regs 17 == 94)) _ _ (λ (o : Outcome). o.end ≡ Went x → IsHeld (answer_arc (held at 12)) (reg o.state.regs r)) (λ _ v. let bad : ⊥ = cc in absurd bad) (λ _ v. served_writes h) w
    performs_write Ebreak h x w = tt

    performed_in : (j : Instr) (x : Stepped) → (performs env s i j).end ≡ Went x → IsHeld (passed j s.pc (performs env s i j).state.pc at r) (reg (performs env s i j).state.regs r)
    performed_in j x w = cond_both (keeps r j) _ _ (λ k. IsHeld k (reg (performs env s i j).state.regs r))
        (λ h. subst (λ v. IsHeld (kept_by (said j s.pc (performs env s i j).state.pc) at r) v) (sym (performs_leave r env s i j h)) (kept_in (said j s.pc (performs env s i j).state.pc) (so_in i j x w) r is))
        (λ h. performs_write j h x w)

  -- behind a step
  pub passed_in : (i : Instr) (r : ℕ) (x : Stepped) → instr_of (word_at s.bytes s.pc) ≡ Some i → (step env s).end ≡ Went x → IsRegister r → IsHeld (passed i s.pc (step env s).state.pc at r) (reg (step env s).state.regs r)
  passed_in i r x here w is = step_of (λ o. o.end ≡ Went x → IsHeld (passed i s.pc o.state.pc at r) (reg o.state.regs r)) env s i here
      (λ v. performed_in i r is i x v) (λ v. let bad : ⊥ = cc in absurd bad) w

  pub so_behind : (i : Instr) (x : Stepped) → instr_of (word_at s.bytes s.pc) ≡ Some i → (step env s).end ≡ Went x → IsSo (said i s.pc (step env s).state.pc)
  so_behind i x here w = step_of (λ o. o.end ≡ Went x → IsSo (said i s.pc o.state.pc)) env s i here (λ v. so_in i i x v) (λ v. let bad : ⊥ = cc in absurd bad) w
