-- No two fragments stand at one address, and no two lists of them that a jump follows.
use Rattle.std.proofs.Common.{◌≡◌, ◌⊎◌, inl, inr, ℕ, ℤ, suc, pos, negsuc, ◌+◌, ◌-◌, ◌*◌, ◌%◌, ◌<◌, ◌≤◌, ◌^◌, true, false, List, [], ◌∷◌, ◌++◌, length, Some, refl, sym, ap, subst, ◌∙◌, arith}
use Rattle.std.specs.Prelude.{nat_lt, All}
use Rattle.std.specs.List.{flat_map}
use Rattle.std.proofs.lemmas.Bool.{cond_both}
use Rattle.std.proofs.lemmas.Bool.Decides.{nat_tests}
use Rattle.std.proofs.lemmas.Int.{ints}
use Rattle.std.proofs.lemmas.List.Sums.{sum_by-cons}
use Rattle.scale_base.specs.declared.instruction.Instr.{Instr}
use Rattle.scale_base.specs.declared.instruction.Instr.TheVariants.{Lui, Imm, Load, Jal}
use Rattle.scale_base.specs.declared.instruction.LoadOp.TheVariants.{Lw}
use Rattle.scale_base.specs.declared.instruction.ImmOp.TheVariants.{Addi, Srli}
use Rattle.scale_base.specs.Arith.{moved_by}
use Rattle.scale_base.specs.Image.{Image}
use Rattle.stub_writer.specs.Fragments.{t0, t1, hi, lo, lw, sw, slot}
use Rattle.foreign_scan.specs.declared.fragment.ForeignFragment.{ForeignFragment}
use Rattle.foreign_scan.specs.declared.fragment.ForeignFragment.TheVariants.{Switch, Exit, Reset, Count}
use Rattle.foreign_scan.specs.Form.{HoldsAt, Hold, IsForeign, foreign_code, foreign_len, behind_fragments, JumpsTo}
use Rattle.foreign_scan.specs.KeyWords.{FragmentStandsAt}
use Rattle.foreign_scan.proofs.HoldLaws.{moved, one_instr, hold_split}
use Rattle.foreign_scan.proofs.ReadLaws.{Reads, same_some, by_clears, by_load, by_port, by_rest, no_port}

-- ---- the two parts of a number, and a counter's place

low_part : (c : ℕ) → c < 2 ^ 32 → nat_lt (c % 2 ^ 12) (2 ^ (12 - 1)) ≡ true → moved_by (hi c) (pos (c % 2 ^ 12)) ≡ c
low_part c h e = let small : c % 2 ^ 12 < 2 ^ 11 = grind (arith, nat_tests) in omega (arith, ints)

high_part : (c : ℕ) → c < 2 ^ 32 → nat_lt (c % 2 ^ 12) (2 ^ (12 - 1)) ≡ false → moved_by (hi c) (negsuc (2 ^ 12 - 1 - c % 2 ^ 12)) ≡ c
high_part c h e = let large : 2 ^ 11 ≤ c % 2 ^ 12 = grind (arith, nat_tests) in omega (arith, ints)

high_low : (c : ℕ) → c < 2 ^ 32 → moved_by (hi c) (lo c) ≡ c
high_low c h = cond_both (nat_lt (c % 2 ^ 12) (2 ^ (12 - 1))) _ _ (λ z. moved_by (hi c) z ≡ c) (low_part c h) (high_part c h)

-- below 2 ^ 32 the two parts tell the number
pub parts_tell : (c d : ℕ) → c < 2 ^ 32 → d < 2 ^ 32 → hi c ≡ hi d → lo c ≡ lo d → c ≡ d
parts_tell c d a b h l = sym (high_low c a) ∙ (ap (λ x. moved_by x (lo c)) h ∙ (ap (moved_by (hi d)) l ∙ high_low d b))

same_neg : (m n : ℕ) → negsuc m ≡ negsuc n → m ≡ n
same_neg m n e = cc

same_pos : (m n : ℕ) → pos m ≡ pos n → m ≡ n
same_pos m n e = cc

slot_tells : (j k : ℕ) → j < 511 → k < 511 → slot j ≡ slot k → j ≡ k
slot_tells j k a b e = let q : 2047 - 4 * j ≡ 2047 - 4 * k = same_neg _ _ e in omega arith

load_tells : (j k : ℕ) → j < 511 → k < 511 → lw t0 j ≡ lw t0 k → j ≡ k
load_tells j k a b e = slot_tells j k a b cc

store_tells : (j k : ℕ) → j < 511 → k < 511 → sw 0 j ≡ sw 0 k → j ≡ k
store_tells j k a b e = slot_tells j k a b cc

lui_tells : (c d : ℕ) → Lui t1 (hi c) ≡ Lui t1 (hi d) → hi c ≡ hi d
lui_tells c d e = cc

added_tells : (c d : ℕ) → Imm Addi t1 t1 (lo c) ≡ Imm Addi t1 t1 (lo d) → lo c ≡ lo d
added_tells c d e = cc

loaded_tells : (c d : ℕ) → Load Lw t1 t0 (lo c) ≡ Load Lw t1 t0 (lo d) → lo c ≡ lo d
loaded_tells c d e = cc

shift_tells : (j k : ℕ) → Imm Srli t0 t0 (pos j) ≡ Imm Srli t0 t0 (pos k) → j ≡ k
shift_tells j k e = same_pos j k cc

-- ---- one fragment

held : (image : Image) (at : ℕ) (i : Instr) → HoldsAt image at i → Reads image at (Some i)
held image at i h = λ j there. ap Some (one_instr image at i j h there)

held_third : (image : Image) (at : ℕ) (i : Instr) → HoldsAt image (at + 4 + 4) i → Reads image (at + 8) (Some i)
held_third image at i h = held image (at + 8) i (moved image (at + 4 + 4) (at + 8) i (omega arith) h)

same_switch : (image : Image) (at word other : ℕ) → FragmentStandsAt image at (Switch word) → FragmentStandsAt image at (Switch other) → Some (Switch word) ≡ Some (Switch other)
same_switch image at word other s t =
    let high = lui_tells word other (one_instr image _ _ _ s.code.1.1.1.1.0 t.code.1.1.1.1.0) in
    let low = added_tells word other (one_instr image _ _ _ s.code.1.1.1.1.1.0 t.code.1.1.1.1.1.0) in
    ap (λ w. Some (Switch w)) (parts_tell word other s.foreign t.foreign high low)

same_exit : (image : Image) (at c d i j x y : ℕ) → FragmentStandsAt image at (Exit c i x) → FragmentStandsAt image at (Exit d j y) → Some (Exit c i x) ≡ Some (Exit d j y)
same_exit image at c d i j x y s t =
    let counter : c ≡ d = load_tells c d s.foreign.0.1 t.foreign.0.1 (one_instr image _ _ _ s.code.1.1.0 t.code.1.1.0) in
    let shift : i ≡ j = shift_tells i j (one_instr image _ _ _ s.code.1.1.1.0 t.code.1.1.1.0) in
    let high = lui_tells x y (one_instr image _ _ _ s.code.1.1.1.1.1.0 t.code.1.1.1.1.1.0) in
    let low = loaded_tells x y (one_instr image _ _ _ s.code.1.1.1.1.1.1.1.0 t.code.1.1.1.1.1.1.1.0) in
    let table : x ≡ y = parts_tell x y s.foreign.2 t.foreign.2 high low in
    ap (λ k. Some (Exit k i x)) counter ∙ (ap (λ k. Some (Exit d k x)) shift ∙ ap (λ k. Some (Exit d j k)) table)

same_count : (image : Image) (at c d : ℕ) → FragmentStandsAt image at (Count c) → FragmentStandsAt image at (Count d) → Some (Count c) ≡ Some (Count d)
same_count image at c d s t = ap (λ k. Some (Count k)) (load_tells c d s.foreign.1 t.foreign.1 (one_instr image _ _ _ s.code.1.0 t.code.1.0))

same_reset : (image : Image) (at c d : ℕ) → FragmentStandsAt image at (Reset c) → FragmentStandsAt image at (Reset d) → Some (Reset c) ≡ Some (Reset d)
same_reset image at c d s t = ap (λ k. Some (Reset k)) (store_tells c d s.foreign.1 t.foreign.1 (one_instr image _ _ _ s.code.0 t.code.0))

pub one_fragment : (image : Image) (at : ℕ) (f g : ForeignFragment) → FragmentStandsAt image at f → FragmentStandsAt image at g → f ≡ g
one_fragment image at (Switch word) g s t =
    same_some _ _ (by_port image at (Some (sw t0 0)) (Some (sw t1 1)) (Some (lw t0 511)) (Some (Switch word)) (held image at (sw t0 0) s.code.0) (held image (at + 4) (sw t1 1) s.code.1.0)
    (held_third image at (lw t0 511) s.code.1.1.0) refl refl refl (λ other u. same_switch image at word other s u) g t)
one_fragment image at (Exit c i x) g s t =
    same_some _ _ (by_rest image at (Some (sw t0 0)) (Some (sw t1 1)) (Some (lw t0 c)) (Some (Exit c i x)) (held image at (sw t0 0) s.code.0) (held image (at + 4) (sw t1 1) s.code.1.0)
    (held_third image at (lw t0 c) s.code.1.1.0) refl refl (no_port c s.foreign.0.1) (λ d j y u. same_exit image at c d i j x y s u) g t)
one_fragment image at (Reset c) g s t =
    same_some _ _ (by_clears image at (Some (sw 0 c)) (Some (Reset c)) (held image at (sw 0 c) s.code.0) refl (λ d u. same_reset image at c d s u) g t)
one_fragment image at (Count c) g s t =
    same_some _ _ (by_load image at (Some (sw t0 0)) (Some (lw t0 c)) (Some (Count c)) (held image at (sw t0 0) s.code.0) (held image (at + 4) (lw t0 c) s.code.1.0) refl refl (λ d u. same_count image at c d s u) g t)

-- ---- one list

-- no fragment's code begins with a jump
no_jump : (image : Image) (at : ℕ) (f : ForeignFragment) (offset : ℤ) → Hold image at (foreign_code f) → HoldsAt image at (Jal 0 offset) → ⊥
no_jump image at (Switch word) offset h j = absurd (let e = one_instr image at _ _ h.0 j in cc)
no_jump image at (Exit c i x) offset h j = absurd (let e = one_instr image at _ _ h.0 j in cc)
no_jump image at (Reset c) offset h j = absurd (let e = one_instr image at _ _ h.0 j in cc)
no_jump image at (Count c) offset h j = absurd (let e = one_instr image at _ _ h.0 j in cc)

rest_all : (f : ForeignFragment) (fs : List ForeignFragment) → All IsForeign (f ∷ fs) → All IsForeign fs
rest_all f fs h = λ k d lt. h (suc k) d (omega (arith, lt))

first_stands : (image : Image) (at : ℕ) (f : ForeignFragment) (fs : List ForeignFragment) → All IsForeign (f ∷ fs) → Hold image at (foreign_code f ++ flat_map foreign_code fs) → FragmentStandsAt image at f
first_stands image at f fs all h = record { foreign = all 0 f (omega arith); code = (hold_split image at (foreign_code f) (flat_map foreign_code fs) h).0 }

behind_first : (at : ℕ) (f : ForeignFragment) (fs : List ForeignFragment) → behind_fragments at (f ∷ fs) ≡ behind_fragments (at + 4 * foreign_len f) fs
behind_first at f fs = omega (arith, sum_by-cons foreign_len f fs)

abbrev pub Ends : Image → ℕ → (fs gs : List ForeignFragment) → Type 0
Ends image at fs gs = (length fs ≤ length gs) ⊎ ((f : ForeignFragment) → FragmentStandsAt image (behind_fragments at gs) f → ⊥)

rest_ends : (image : Image) (at : ℕ) (f g : ForeignFragment) (fs gs : List ForeignFragment) → Ends image at (f ∷ fs) (g ∷ gs) → Ends image (at + 4 * foreign_len g) fs gs
rest_ends image at f g fs gs (inl few) = inl (omega (arith, few))
rest_ends image at f g fs gs (inr none) = inr (λ x s. none x (subst (λ a. FragmentStandsAt image a x) (sym (behind_first at g gs)) s))

pub one_list : (image : Image) (at to : ℕ) (fs gs : List ForeignFragment) → All IsForeign fs → Hold image at (flat_map foreign_code fs) → JumpsTo image (behind_fragments at fs) to
    → All IsForeign gs → Hold image at (flat_map foreign_code gs) → Ends image at fs gs → fs ≡ gs
one_list image at to [] [] a h j b k ends = refl
one_list image at to [] (g ∷ gs) a h j b k ends =
    absurd (no_jump image at g j.offset (first_stands image at g gs b k).code (moved image (behind_fragments at []) at (Jal 0 j.offset) (omega arith) j.jump))
one_list image at to (f ∷ fs) [] a h j b k (inl few) = absurd (omega (arith, few))
one_list image at to (f ∷ fs) [] a h j b k (inr none) = absurd (none f (subst (λ n. FragmentStandsAt image n f) (omega arith) (first_stands image at f fs a h)))
one_list image at to (f ∷ fs) (g ∷ gs) a h j b k ends =
    let same : f ≡ g = one_fragment image at f g (first_stands image at f fs a h) (first_stands image at g gs b k) in
    let next = at + 4 * foreign_len g in
    let here : Hold image next (flat_map foreign_code fs) = subst (λ x. Hold image (at + 4 * foreign_len x) (flat_map foreign_code fs)) same (hold_split image at (foreign_code f) (flat_map foreign_code fs) h).1 in
    let there : JumpsTo image (behind_fragments next fs) to = subst (λ x. JumpsTo image (behind_fragments (at + 4 * foreign_len x) fs) to) same (subst (λ n. JumpsTo image n to) (behind_first at f fs) j) in
    let rest : fs ≡ gs =
    one_list image next to fs gs (rest_all f fs a) here there (rest_all g gs b) (hold_split image at (foreign_code g) (flat_map foreign_code gs) k).1 (rest_ends image at f g fs gs ends) in
    ap (λ x. x ∷ fs) same ∙ ap (λ xs. g ∷ xs) rest
