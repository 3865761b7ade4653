-- What a step of the definition stores at the port is a level.
use Rattle.std.proofs.Common.{◌≡◌, ℕ, ◌<◌, ◌%◌, Bool, true, Option, Some, None, refl}
use Rattle.std.specs.Prelude.{◌==◌, ◌||◌, not, nat_lt}
use Rattle.std.proofs.lemmas.Bool.{cond_both, ltb-true}
use Rattle.scale_base.specs.declared.instruction.LoadOp.{LoadOp}
use Rattle.scale_base.specs.declared.instruction.StoreOp.{StoreOp}
use Rattle.scale_base.specs.declared.instruction.Instr.{Instr}
use Rattle.scale_base.specs.declared.instruction.Instr.TheVariants.{Lui, Auipc, Jal, Jalr, Branch, Load, Store, Imm, Reg, Fence, Ecall, Ebreak}
use Rattle.scale_base.specs.Reading.{instr_of}
use Rattle.scale_base.specs.Layout.{can_fetch, can_read, can_write, uses_window}
use Rattle.scale_base.specs.Arith.{load_width, store_width, is_taken, moved_by}
use Rattle.scale_base.specs.State.{Setting, State, reg, word_at}
use Rattle.scale_base.specs.Step.{Outcome, PortBelow, jumps, branches, loads, stores_word, stores, performs, executes, window_index, port_index, step}

abbrev IsBelow : Setting → Outcome → Type 0
IsBelow env o = PortBelow o.end env.levels

jumps_below : (env : Setting) (s : State) (i : Instr) (rd target : ℕ) → IsBelow env (jumps env s i rd target)
jumps_below env s i rd target = cond_both (target % 4 == 0) _ _ (IsBelow env) (λ _. tt) (λ _. tt)

branches_below : (env : Setting) (s : State) (i : Instr) (taken : Bool) (target : ℕ) → IsBelow env (branches env s i taken target)
branches_below env s i taken target = cond_both taken _ _ (IsBelow env) (λ _. cond_both (target % 4 == 0) _ _ (IsBelow env) (λ _. tt) (λ _. tt)) (λ _. tt)

loads_below : (env : Setting) (s : State) (i : Instr) (op : LoadOp) (rd at : ℕ) → IsBelow env (loads env s i op rd at)
loads_below env s i op rd at =
    cond_both (not (at % load_width op == 0)) _ _ (IsBelow env) (λ _. tt)
    (λ _. cond_both (uses_window env.layout s.pc at (load_width op)) _ _ (IsBelow env) (λ _. tt)
    (λ _. cond_both (can_read env.layout s.pc at (load_width op)) _ _ (IsBelow env) (λ _. tt) (λ _. tt)))

stores_word_below : (env : Setting) (s : State) (i : Instr) (at value : ℕ) → IsBelow env (stores_word env s i at value)
stores_word_below env s i at value =
    cond_both (not (window_index at == port_index)) _ _ (IsBelow env) (λ _. tt)
    (λ _. cond_both (nat_lt value env.levels) _ _ (IsBelow env) (λ below. ltb-true value env.levels below) (λ _. tt))

stores_below : (env : Setting) (s : State) (i : Instr) (op : StoreOp) (at value : ℕ) → IsBelow env (stores env s i op at value)
stores_below env s i op at value =
    cond_both (not (at % store_width op == 0)) _ _ (IsBelow env) (λ _. tt)
    (λ _. cond_both (uses_window env.layout s.pc at (store_width op)) _ _ (IsBelow env) (λ _. stores_word_below env s i at value)
    (λ _. cond_both (can_write env.layout at (store_width op)) _ _ (IsBelow env) (λ _. tt) (λ _. tt)))

performs_below : (env : Setting) (s : State) (i j : Instr) → IsBelow env (performs env s i j)
performs_below env s i (Lui rd imm) = tt
performs_below env s i (Auipc rd imm) = tt
performs_below env s i (Jal rd offset) = jumps_below env s i rd _
performs_below env s i (Jalr rd rs1 offset) = jumps_below env s i rd _
performs_below env s i (Branch op rs1 rs2 offset) = branches_below env s i (is_taken op (reg s.regs rs1) (reg s.regs rs2)) (moved_by s.pc offset)
performs_below env s i (Load op rd rs1 offset) = loads_below env s i op rd _
performs_below env s i (Store op rs1 rs2 offset) = stores_below env s i op _ _
performs_below env s i (Imm op rd rs1 imm) = tt
performs_below env s i (Reg op rd rs1 rs2) = tt
performs_below env s i (Fence rd rs1 imm) = tt
performs_below env s i Ecall = cond_both ((reg s.regs 17 == 93) || (reg s.regs 17 == 94)) _ _ (IsBelow env) (λ _. refl) (λ _. tt)
performs_below env s i Ebreak = tt

executes_below : (env : Setting) (s : State) (i : Option Instr) → IsBelow env (executes env s i)
executes_below env s None = tt
executes_below env s (Some i) = performs_below env s i i

pub step_below : (env : Setting) (s : State) → IsBelow env (step env s)
unfolding step
step_below env s = cond_both (can_fetch env.layout s.pc) _ _ (IsBelow env) (λ _. executes_below env s (instr_of (word_at s.bytes s.pc))) (λ _. tt)
