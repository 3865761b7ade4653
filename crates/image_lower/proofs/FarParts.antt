-- The parts of a far jump, and the registers that the words of jumps name.
use Rattle.std.proofs.Common.{◌≡◌, ℕ, ℤ, ◌-◌, ◌%◌, ◌<◌, ◌≤◌, Bool, true, false, not, List, Option, Some, None, refl, arith, ap, subst, ◌∙◌}
use Rattle.std.specs.Prelude.{◌==◌, ◌&&◌, ◌||◌, nat_le, if◌then◌else◌, option_and_then, is_some}
use Rattle.std.proofs.lemmas.Bool.{and_parts, cond_both, eqb-true, leb-true, not-true}
use Rattle.std.proofs.lemmas.Bool.Decides.{nat_tests}
use Rattle.scale_base.specs.declared.instruction.BranchOp.{BranchOp}
use Rattle.scale_base.specs.declared.instruction.LoadOp.{LoadOp}
use Rattle.scale_base.specs.declared.instruction.StoreOp.{StoreOp}
use Rattle.scale_base.specs.declared.instruction.ImmOp.{ImmOp}
use Rattle.scale_base.specs.declared.instruction.RegOp.{RegOp}
use Rattle.scale_base.specs.declared.instruction.Instr.{Instr}
use Rattle.scale_base.specs.declared.instruction.Instr.TheVariants as instr
use Rattle.scale_base.specs.Image.{Image}
use Rattle.scale_base.specs.Reading.{instr_of, opcode_of, funct3_of, funct7_of, branch_of, branch_op_of, load_of, load_op_of, store_of, store_op_of, immediate_of, imm_op_of, register_of, reg_op_of}
use Rattle.code_text.specs.Text.{Text, text_of, is_text_address, instr_at, is_target, follows}
use Rattle.graph_runs.proofs.Laws.{entry_is}
use Rattle.rv_encode.specs.Jumps.{distance}
use Rattle.jump_lists.specs.declared.notes.JumpNote.{JumpNote}
use Rattle.stub_writer.specs.Stubs.{reaches}
use Rattle.image_lower.specs.FarJumps.{far_target, is_noted, near_jump, pair_jump, is_in_table, far_jump}

-- ---- the registers

-- the registers of an AUIPC and a JALR are below 32
abbrev IsLow : Option Instr → Type 0
IsLow (Some (instr.Auipc rd imm)) = rd < 32
IsLow (Some (instr.Jalr rd rs offset)) = rs < 32
IsLow o = Unit {0}

branch_low : (w : ℕ) (o : Option BranchOp) → IsLow (option_and_then (branch_of w) o)
branch_low w None = tt
branch_low w (Some op) = tt

load_low : (w : ℕ) (o : Option LoadOp) → IsLow (option_and_then (load_of w) o)
load_low w None = tt
load_low w (Some op) = tt

store_low : (w : ℕ) (o : Option StoreOp) → IsLow (option_and_then (store_of w) o)
store_low w None = tt
store_low w (Some op) = tt

immediate_low : (w : ℕ) (o : Option ImmOp) → IsLow (option_and_then (immediate_of w) o)
immediate_low w None = tt
immediate_low w (Some op) = tt

register_low : (w : ℕ) (o : Option RegOp) → IsLow (option_and_then (register_of w) o)
register_low w None = tt
register_low w (Some op) = tt

low_registers : (w : ℕ) → IsLow (instr_of w)
unfolding instr_of
low_registers w =
    let op = opcode_of w in
    cond_both (op == 0x37) _ _ IsLow (λ _. tt) (λ _.
    cond_both (op == 0x17) _ _ IsLow (λ _. omega arith) (λ _.
    cond_both (op == 0x6F) _ _ IsLow (λ _. tt) (λ _.
    cond_both (op == 0x67) _ _ IsLow (λ _. cond_both (funct3_of w == 0) _ _ IsLow (λ _. omega arith) (λ _. tt)) (λ _.
    cond_both (op == 0x63) _ _ IsLow (λ _. branch_low w (branch_op_of (funct3_of w))) (λ _.
    cond_both (op == 0x03) _ _ IsLow (λ _. load_low w (load_op_of (funct3_of w))) (λ _.
    cond_both (op == 0x23) _ _ IsLow (λ _. store_low w (store_op_of (funct3_of w))) (λ _.
    cond_both (op == 0x13) _ _ IsLow (λ _. immediate_low w (imm_op_of (funct7_of w) (funct3_of w))) (λ _.
    cond_both (op == 0x33) _ _ IsLow (λ _. register_low w (reg_op_of (funct7_of w) (funct3_of w))) (λ _.
    cond_both (op == 0x0F) _ _ IsLow (λ _. cond_both (funct3_of w == 0) _ _ IsLow (λ _. tt) (λ _. tt)) (λ _.
    cond_both (op == 0x73) _ _ IsLow (λ _. cond_both (w == 0x00000073) _ _ IsLow (λ _. tt) (λ _. cond_both (w == 0x00100073) _ _ IsLow (λ _. tt) (λ _. tt))) (λ _. tt)))))))))))

pub auipc_low : (w rd imm : ℕ) → instr_of w ≡ Some (instr.Auipc rd imm) → rd < 32
auipc_low w rd imm e = subst IsLow e (low_registers w)

pub jalr_low : (w rd rs : ℕ) (offset : ℤ) → instr_of w ≡ Some (instr.Jalr rd rs offset) → rs < 32
jalr_low w rd rs offset e = subst IsLow e (low_registers w)

-- ---- the two words of a far jump

pub record IsFar (t : Text) (pc : ℕ) (i : Instr) : Type 0 where
  pub rd : ℕ
  pub rx : ℕ
  pub imm : ℕ
  pub offset : ℤ
  pub before : instr_at t (pc - 4) ≡ Some (instr.Auipc rx imm)
  pub here : instr_at t pc ≡ Some (instr.Jalr rd rx offset)
  pub some : 0 < rx
  pub low : rd ≤ 1
  pub even : far_target (pc - 4) imm offset % 4 ≡ 0
  pub inside : is_text_address t (far_target (pc - 4) imm offset) ≡ true
  pub near : reaches pc (far_target (pc - 4) imm offset) ≡ true
  pub is : instr.Jal rd (distance pc (far_target (pc - 4) imm offset)) ≡ i

abbrev IsFarBy : Text → ℕ → Instr → Option Instr → Option Instr → Type 0
IsFarBy t pc i o p = pair_jump t pc o p ≡ Some i → instr_at t (pc - 4) ≡ o → instr_at t pc ≡ p → IsFar t pc i

not_zero : (r : ℕ) → not (r == 0) ≡ true → 0 < r
not_zero r e = grind (arith, nat_tests)

-- the jump that a test lets pass
passed : (b : Bool) (o : Option Instr) (i : Instr) → (if b then o else None) ≡ Some i → (b ≡ true) × (o ≡ Some i)
passed true o i e = (refl, e)
passed false o i e = let never : ⊥ = cc in absurd never

some_is : (i j : Instr) → Some i ≡ Some j → i ≡ j
some_is i j e = cc

both_words : (t : Text) (pc rx imm rd rs : ℕ) (offset : ℤ) (i : Instr) → IsFarBy t pc i (Some (instr.Auipc rx imm)) (Some (instr.Jalr rd rs offset))
both_words t pc rx imm rd rs offset i e before here =
    let to = far_target (pc - 4) imm offset in
    let a = passed (not (rx == 0) && (rs == rx) && nat_le rd 1) (near_jump t pc rd to) i e in
    let b = and_parts (not (rx == 0) && (rs == rx)) (nat_le rd 1) a.0 in
    let c = and_parts (not (rx == 0)) (rs == rx) b.0 in
    let d = passed ((to % 4 == 0) && is_text_address t to && reaches pc to) (Some (instr.Jal rd (distance pc to))) i a.1 in
    let f = and_parts ((to % 4 == 0) && is_text_address t to) (reaches pc to) d.0 in
    let g = and_parts (to % 4 == 0) (is_text_address t to) f.0 in
    record {
      rd = rd;
      rx = rx;
      imm = imm;
      offset = offset;
      before = before;
      here = here ∙ ap (λ r. Some (instr.Jalr rd r offset)) (eqb-true rs rx c.1);
      some = not_zero rx c.0;
      low = leb-true rd 1 b.1;
      even = eqb-true (to % 4) 0 g.0;
      inside = g.1;
      near = f.1;
      is = some_is _ i d.1;
    }

none_is : (t : Text) (pc : ℕ) (i : Instr) → None ≡ Some i → IsFar t pc i
none_is t pc i e = let never : ⊥ = cc in absurd never

by_words : (t : Text) (pc : ℕ) (i : Instr) (o p : Option Instr) → IsFarBy t pc i o p
by_words t pc i (Some (instr.Auipc rx imm)) (Some (instr.Jalr rd rs offset)) e before here = both_words t pc rx imm rd rs offset i e before here
by_words t pc i o p e before here = none_is t pc i e

-- what a far jump's second word is
pub record IsSecond (image : Image) (notes : List JumpNote) (pc : ℕ) (i : Instr) : Type 0 where
  pub aligned : pc % 4 ≡ 0
  pub behind : follows (text_of image) pc ≡ true
  pub no_way : (is_target (text_of image) pc || is_noted notes pc) ≡ false
  pub off_table : is_in_table image.file pc ≡ false
  pub far : IsFar (text_of image) pc i

pub far_parts : (image : Image) (notes : List JumpNote) (pc : ℕ) (i : Instr) → far_jump image notes pc ≡ Some i → IsSecond image notes pc i
unfolding far_jump
far_parts image notes pc i e =
    let t = text_of image in
    let a = passed ((pc % 4 == 0) && follows t pc && not (is_target t pc || is_noted notes pc) && not (is_in_table image.file pc)) (pair_jump t pc (instr_at t (pc - 4)) (instr_at t pc)) i e in
    let d = and_parts ((pc % 4 == 0) && follows t pc && not (is_target t pc || is_noted notes pc)) (not (is_in_table image.file pc)) a.0 in
    let b = and_parts ((pc % 4 == 0) && follows t pc) (not (is_target t pc || is_noted notes pc)) d.0 in
    let c = and_parts (pc % 4 == 0) (follows t pc) b.0 in
    record {
      aligned = eqb-true (pc % 4) 0 c.0;
      behind = c.1;
      no_way = not-true (is_target t pc || is_noted notes pc) b.1;
      off_table = not-true (is_in_table image.file pc) d.1;
      far = by_words t pc i (instr_at t (pc - 4)) (instr_at t pc) a.1 refl refl;
    }

-- the entry is none
pub entry_near : (image : Image) (notes : List JumpNote) → is_some (far_jump image notes image.entry) ≡ false
unfolding far_jump
entry_near image notes =
    let t = text_of image in
    by (image.entry % 4 == 0) (follows t image.entry) (is_target t image.entry) (is_noted notes image.entry) (is_in_table image.file image.entry) (pair_jump t image.entry (instr_at t (image.entry - 4)) (instr_at t image.entry)) (entry_is t)
  where
    by : (a b c d e : Bool) (o : Option Instr) → c ≡ true → is_some (if a && b && not (c || d) && not e then o else None) ≡ false
    by true true true d e o same = refl
    by true false c d e o same = refl
    by false b c d e o same = refl
    by true true false d e o same = let never : ⊥ = cc in absurd never
