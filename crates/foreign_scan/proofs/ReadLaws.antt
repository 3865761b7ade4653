-- Which fragment may stand at an address, by its first instructions, and what its numbers are read from.
use Rattle.std.proofs.Common.{◌≡◌, ℕ, ◌+◌, ◌-◌, ◌*◌, ◌<◌, ◌^◌, Bool, true, false, Option, Some, refl, sym, ap, ◌∙◌, arith, negsuc, ℤ, pos, if◌then◌else◌, w32, to_z, of_z}
use Rattle.std.specs.Prelude.{nat_lt, ◌%◌}
use Rattle.std.specs.Ordering.{int_eq}
use Rattle.std.proofs.lemmas.Int.{to_z-of_z}
use Rattle.std.proofs.lemmas.Bool.Decides.{Decides-int_eq}
use Rattle.scale_base.specs.declared.instruction.Instr.{Instr}
use Rattle.scale_base.specs.declared.instruction.Instr.TheVariants.{Lui, Imm, Load}
use Rattle.scale_base.specs.declared.instruction.LoadOp.TheVariants.{Lw}
use Rattle.scale_base.specs.declared.instruction.ImmOp.TheVariants.{Addi}
use Rattle.scale_base.specs.Image.{Image}
use Rattle.stub_writer.specs.Fragments.{t0, t1, hi, lo, lw, sw, slot, switch_code, exit_code}
use Rattle.foreign_scan.specs.declared.fragment.ForeignFragment.{ForeignFragment}
use Rattle.foreign_scan.specs.declared.fragment.ForeignFragment.TheVariants.{Switch, Exit, Reset, Count}
use Rattle.foreign_scan.specs.Form.{HoldsAt, Hold}
use Rattle.foreign_scan.specs.KeyWords.{FragmentStandsAt}
use Rattle.foreign_scan.specs.Parts.{clears, loads_word, loads_port}
use Rattle.foreign_scan.proofs.HoldLaws.{moved}

pub same_some : {A : Type 0} (a b : A) → Some a ≡ Some b → a ≡ b
same_some a b e = cc

pub switch_upper : (image : Image) (at word : ℕ) → Hold image at (switch_code word) → HoldsAt image (at + 16) (Lui t1 (hi word))
switch_upper image at word h = moved image (at + 4 + 4 + 4 + 4) (at + 16) (Lui t1 (hi word)) (omega arith) h.1.1.1.1.0

pub switch_lower : (image : Image) (at word : ℕ) → Hold image at (switch_code word) → HoldsAt image (at + 20) (Imm Addi t1 t1 (lo word))
switch_lower image at word h = moved image (at + 4 + 4 + 4 + 4 + 4) (at + 20) (Imm Addi t1 t1 (lo word)) (omega arith) h.1.1.1.1.1.0

pub exit_upper : (image : Image) (at counter shift table : ℕ) → Hold image at (exit_code counter shift table) → HoldsAt image (at + 20) (Lui t1 (hi table))
exit_upper image at counter shift table h = moved image (at + 4 + 4 + 4 + 4 + 4) (at + 20) (Lui t1 (hi table)) (omega arith) h.1.1.1.1.1.0

pub exit_lower : (image : Image) (at counter shift table : ℕ) → Hold image at (exit_code counter shift table) → HoldsAt image (at + 28) (Load Lw t1 t0 (lo table))
exit_lower image at counter shift table h = moved image (at + 4 + 4 + 4 + 4 + 4 + 4 + 4) (at + 28) (Load Lw t1 t0 (lo table)) (omega arith) h.1.1.1.1.1.1.1.0

low_half : (b : Bool) (n : ℕ) → n < 2 ^ 12 → to_z w32 (of_z w32 (if b then pos n else negsuc (2 ^ 12 - 1 - n))) ≡ (if b then pos n else negsuc (2 ^ 12 - 1 - n))
low_half true n lt = to_z-of_z w32 (pos n) (omega (arith, lt))
low_half false n lt = to_z-of_z w32 (negsuc (2 ^ 12 - 1 - n)) (omega (arith, lt))

-- an added number is kept by its thirty-two bits
pub low_kept : (z : ℤ) (c : ℕ) → z ≡ lo c → to_z w32 (of_z w32 z) ≡ lo c
low_kept z c e = ap (λ x. to_z w32 (of_z w32 x)) e ∙ low_half (nat_lt (c % 2 ^ 12) (2 ^ (12 - 1))) (c % 2 ^ 12) (omega arith)

-- ---- the first three instructions tell which fragment may stand

abbrev pub Reads : Image → ℕ → Option Instr → Type 0
Reads image at o = (i : Instr) → HoldsAt image at i → o ≡ Some i

third : (image : Image) (at : ℕ) (o : Option Instr) (i : Instr) → Reads image (at + 8) o → HoldsAt image (at + 4 + 4) i → o ≡ Some i
third image at o i reads h = reads i (moved image (at + 4 + 4) (at + 8) i (omega arith) h)

differ : {X : Type 0} (b : Bool) → b ≡ true → b ≡ false → X
differ b y n = absurd (let e : true ≡ false = sym y ∙ n in cc)

pub no_port : (counter : ℕ) → counter < 511 → int_eq (slot counter) (negsuc 3) ≡ false
no_port counter lt = by_test (int_eq (slot counter) (negsuc 3)) (Decides-int_eq (slot counter) (negsuc 3)).0
  where
    by_test : (b : Bool) → (b ≡ true → slot counter ≡ negsuc 3) → b ≡ false
    by_test false h = refl
    by_test true h = absurd (let e : 2047 - 4 * counter ≡ 3 = (let q = h refl in cc) in omega arith)

pub by_clears : (image : Image) (at : ℕ) (first : Option Instr) (o : Option ForeignFragment) → Reads image at first → clears first ≡ true
    → ((counter : ℕ) → FragmentStandsAt image at (Reset counter) → o ≡ Some (Reset counter)) → (f : ForeignFragment) → FragmentStandsAt image at f → o ≡ Some f
by_clears image at first o reads y reset (Switch word) s = differ (clears first) y (ap clears (reads (sw t0 0) s.code.0))
by_clears image at first o reads y reset (Exit counter shift table) s = differ (clears first) y (ap clears (reads (sw t0 0) s.code.0))
by_clears image at first o reads y reset (Reset counter) s = reset counter s
by_clears image at first o reads y reset (Count counter) s = differ (clears first) y (ap clears (reads (sw t0 0) s.code.0))

pub by_load : (image : Image) (at : ℕ) (first second : Option Instr) (o : Option ForeignFragment) → Reads image at first → Reads image (at + 4) second → clears first ≡ false → loads_word second ≡ true
    → ((counter : ℕ) → FragmentStandsAt image at (Count counter) → o ≡ Some (Count counter)) → (f : ForeignFragment) → FragmentStandsAt image at f → o ≡ Some f
by_load image at first second o one two n y count (Switch word) s = differ (loads_word second) y (ap loads_word (two (sw t1 1) s.code.1.0))
by_load image at first second o one two n y count (Exit counter shift table) s = differ (loads_word second) y (ap loads_word (two (sw t1 1) s.code.1.0))
by_load image at first second o one two n y count (Reset counter) s = differ (clears first) (ap clears (one (sw 0 counter) s.code.0)) n
by_load image at first second o one two n y count (Count counter) s = count counter s

pub by_port : (image : Image) (at : ℕ) (first second last : Option Instr) (o : Option ForeignFragment) → Reads image at first → Reads image (at + 4) second → Reads image (at + 8) last
    → clears first ≡ false → loads_word second ≡ false → loads_port last ≡ true
    → ((word : ℕ) → FragmentStandsAt image at (Switch word) → o ≡ Some (Switch word)) → (f : ForeignFragment) → FragmentStandsAt image at f → o ≡ Some f
by_port image at first second last o one two three n none y switch (Switch word) s = switch word s
by_port image at first second last o one two three n none y switch (Exit counter shift table) s =
    differ (loads_port last) y (ap loads_port (third image at last (lw t0 counter) three s.code.1.1.0) ∙ no_port counter s.foreign.0.1)
by_port image at first second last o one two three n none y switch (Reset counter) s = differ (clears first) (ap clears (one (sw 0 counter) s.code.0)) n
by_port image at first second last o one two three n none y switch (Count counter) s = differ (loads_word second) (ap loads_word (two (lw t0 counter) s.code.1.0)) none

pub by_rest : (image : Image) (at : ℕ) (first second last : Option Instr) (o : Option ForeignFragment) → Reads image at first → Reads image (at + 4) second → Reads image (at + 8) last
    → clears first ≡ false → loads_word second ≡ false → loads_port last ≡ false
    → ((counter shift table : ℕ) → FragmentStandsAt image at (Exit counter shift table) → o ≡ Some (Exit counter shift table)) → (f : ForeignFragment) → FragmentStandsAt image at f → o ≡ Some f
by_rest image at first second last o one two three n none other exit (Switch word) s = differ (loads_port last) (ap loads_port (third image at last (lw t0 511) three s.code.1.1.0)) other
by_rest image at first second last o one two three n none other exit (Exit counter shift table) s = exit counter shift table s
by_rest image at first second last o one two three n none other exit (Reset counter) s = differ (clears first) (ap clears (one (sw 0 counter) s.code.0)) n
by_rest image at first second last o one two three n none other exit (Count counter) s = differ (loads_word second) (ap loads_word (two (lw t0 counter) s.code.1.0)) none
