-- An instruction that is neither a call nor a return is no call of the graph.
use Rattle.std.proofs.Common.{◌≡◌, ◌≢◌, ℕ, Bool, true, false, Option, Some, None, pos}
use Rattle.std.specs.Prelude.{◌==◌, ◌&&◌, ◌||◌, if◌then◌else◌}
use Rattle.std.specs.Ordering.{int_eq}
use Rattle.scale_base.specs.declared.instruction.Instr.{Instr}
use Rattle.scale_base.specs.declared.instruction.Instr.TheVariants as instr
use Rattle.scale_base.specs.declared.stepping.Move.TheVariants.{Local, Call}
use Rattle.scale_base.specs.Arith.{moved_by}
use Rattle.scale_base.specs.Step.{move_of}
use Rattle.cost_theory.specs.declared.flow.Flow.TheVariants as flow
use Rattle.code_text.specs.Text.{Text, instr_kind, ecall_kind, known}

jal_no : (zero one : Bool) (to f : ℕ) → (if one then Call else Local) ≡ Local → (if zero then flow.Jump to else if one then flow.Call to else flow.Refused) ≢ flow.Call f
jal_no true one to f moved e = let never : ⊥ = cc in never
jal_no false true to f moved e = let never : ⊥ = cc in never
jal_no false false to f moved e = let never : ⊥ = cc in never

jalr_no : (back : Bool) (f : ℕ) → (if back then flow.Return else flow.Refused) ≢ flow.Call f
jalr_no true f e = let never : ⊥ = cc in never
jalr_no false f e = let never : ⊥ = cc in never

exit_no : (exits : Bool) (f : ℕ) → (if exits then flow.Exit else flow.Next) ≢ flow.Call f
exit_no true f e = let never : ⊥ = cc in never
exit_no false f e = let never : ⊥ = cc in never

ecall_no : (o : Option ℕ) (f : ℕ) → ecall_kind o ≢ flow.Call f
ecall_no None f e = let never : ⊥ = cc in never
ecall_no (Some k) f e = exit_no ((k == 93) || (k == 94)) f e

pub no_call : (t : Text) (v f : ℕ) (i : Instr) → move_of i ≡ Local → instr_kind t v i ≢ flow.Call f
no_call t v f (instr.Lui rd imm) moved e = let never : ⊥ = cc in never
no_call t v f (instr.Auipc rd imm) moved e = let never : ⊥ = cc in never
no_call t v f (instr.Jal rd offset) moved e = jal_no (rd == 0) (rd == 1) (moved_by v offset) f moved e
no_call t v f (instr.Jalr rd rs1 offset) moved e = jalr_no ((rd == 0) && (rs1 == 1) && int_eq offset (pos 0)) f e
no_call t v f (instr.Branch op rs1 rs2 offset) moved e = let never : ⊥ = cc in never
no_call t v f (instr.Load op rd rs1 offset) moved e = let never : ⊥ = cc in never
no_call t v f (instr.Store op rs1 rs2 offset) moved e = let never : ⊥ = cc in never
no_call t v f (instr.Imm op rd rs1 imm) moved e = let never : ⊥ = cc in never
no_call t v f (instr.Reg op rd rs1 rs2) moved e = let never : ⊥ = cc in never
no_call t v f (instr.Fence rd rs1 imm) moved e = let never : ⊥ = cc in never
no_call t v f instr.Ecall moved e = ecall_no (known t v) f e
no_call t v f instr.Ebreak moved e = let never : ⊥ = cc in never
