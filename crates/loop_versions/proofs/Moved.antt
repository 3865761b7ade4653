-- Plain instructions at another address.
use Rattle.std.proofs.Common.{◌≡◌, ℕ, ◌+◌, ◌%◌, ◌^◌, Bool, true, false, not, cond, Some, None, refl, ap, sym, ◌∙◌}
use Rattle.std.specs.Prelude.{◌==◌, ◌&&◌, ◌||◌, nat_le, slice_index}
use Rattle.std.proofs.lemmas.Bool.{cond-false}
use Rattle.scale_base.specs.declared.instruction.LoadOp.{LoadOp}
use Rattle.scale_base.specs.declared.instruction.StoreOp.{StoreOp}
use Rattle.scale_base.specs.declared.instruction.Instr.{Instr}
use Rattle.scale_base.specs.declared.instruction.Instr.TheVariants.{Lui, Auipc, Jal, Jalr, Branch, Load, Store, Imm, Reg, Fence, Ecall, Ebreak}
use Rattle.scale_base.specs.declared.stepping.Stepped.{Stepped}
use Rattle.scale_base.specs.declared.stepping.StepEnd.TheVariants.{Exited}
use Rattle.scale_base.specs.Class.{class_of}
use Rattle.scale_base.specs.Layout.{each_byte, may_read, may_write, reads_byte, is_keyed, can_read, can_write, uses_window, in_window}
use Rattle.scale_base.specs.Arith.{plus, load_width, store_width, loaded, stored}
use Rattle.scale_base.specs.State.{Setting, State, reg, with_reg}
use Rattle.scale_base.specs.Service.{served, serves, read_count, read_service, write_count, write_service}
use Rattle.scale_base.specs.Step.{Outcome, stepped, move_of, goes, stops, pc_after, sets, passes, loads, stores, calls_service, performs}
use Rattle.scale_base.specs.Step as steps
use Rattle.loop_versions.specs.Fitting.{is_plain}
use Rattle.loop_versions.specs.MovedSteps.{moved_to, PlainInstructionsMove}

-- a choice by one test, of what a map leads to
chosen : {A : Type 0} (g : A → A) (b : Bool) (u v x y : A) → u ≡ g x → v ≡ g y → cond b u v ≡ g (cond b x y)
chosen g true u v x y p q = p
chosen g false u v x y p q = q

-- by two tests that are the same
chosen_too : {A : Type 0} (g : A → A) (c b : Bool) (u v x y : A) → c ≡ b → u ≡ g x → v ≡ g y → cond c u v ≡ g (cond b x y)
chosen_too g c b u v x y e p q = ap (λ t. cond t u v) e ∙ chosen g b u v x y p q

module _ (env : Setting) (s : State) (pc : ℕ) (here : is_keyed env.layout s.pc ≡ false) (there : is_keyed env.layout pc ≡ false) where
  abbrev t : State
  t = record s { pc = pc }

  keyed_same : is_keyed env.layout pc ≡ is_keyed env.layout s.pc
  keyed_same = there ∙ sym here

  abbrev step_by : Bool → Instr → Stepped
  step_by keyed i = record { pc = pc; next = plus pc 4; class = class_of i false; moved = move_of i; keyed = keyed; port = None }

  goes_moved : (i : Instr) (u : State) → goes (stepped env t i false None (plus pc 4)) (record u { pc = plus pc 4 }) ≡ moved_to pc (goes (stepped env s i false None (plus s.pc 4)) (record u { pc = plus s.pc 4 }))
  goes_moved i u = ap (λ keyed. goes (step_by keyed i) (record u { pc = plus pc 4 })) keyed_same

  sets_moved : (i : Instr) (rd value : ℕ) → sets env t i rd value ≡ moved_to pc (sets env s i rd value)
  sets_moved i rd value = goes_moved i (record s { regs = with_reg s.regs rd value })

  window_same : (at width : ℕ) → uses_window env.layout pc at width ≡ uses_window env.layout s.pc at width
  window_same at width = ap (λ keyed. keyed && (width == 4) && in_window at) keyed_same

  read_alike : (at width : ℕ) → can_read env.layout pc at width ≡ can_read env.layout s.pc at width
  read_alike at width = ap (λ keyed. each_byte (λ a. may_read env.layout a || (keyed && is_keyed env.layout a)) at width) keyed_same

  loads_moved : (i : Instr) (op : LoadOp) (rd at : ℕ) → loads env t i op rd at ≡ moved_to pc (loads env s i op rd at)
  loads_moved i op rd at =
      chosen (moved_to pc) (not (at % load_width op == 0)) _ _ _ _ refl
      (chosen_too (moved_to pc) (uses_window env.layout pc at (load_width op)) (uses_window env.layout s.pc at (load_width op)) _ _ _ _ (window_same at (load_width op))
      (sets_moved i rd (slice_index s.window (steps.window_index at)))
      (chosen_too (moved_to pc) (can_read env.layout pc at (load_width op)) (can_read env.layout s.pc at (load_width op)) _ _ _ _ (read_alike at (load_width op))
      (sets_moved i rd (loaded op s.bytes at)) refl))

  stores_moved : (i : Instr) (op : StoreOp) (at value : ℕ) → stores env t i op at value ≡ moved_to pc (stores env s i op at value)
  stores_moved i op at value =
      let off : uses_window env.layout pc at (store_width op) ≡ false = ap (λ keyed. keyed && (store_width op == 4) && in_window at) there in
      let off_here : uses_window env.layout s.pc at (store_width op) ≡ false = ap (λ keyed. keyed && (store_width op == 4) && in_window at) here in
      chosen (moved_to pc) (not (at % store_width op == 0)) _ _ _ _ refl
      (cond-false (uses_window env.layout pc at (store_width op)) _ _ off
      ∙ (chosen (moved_to pc) (can_write env.layout at (store_width op)) _ _ _ _ (goes_moved i (record s { bytes = stored op s.bytes at value })) refl
      ∙ ap (moved_to pc) (sym (cond-false (uses_window env.layout s.pc at (store_width op)) _ _ off_here))))

  -- ---- services

  abbrev g : State → State
  g u = record u { pc = pc }

  read_moved : read_service env t ≡ g (read_service env s)
  read_moved =
      chosen g (not (reg s.regs 10 == 0)) _ _ _ _ refl
      (chosen g (not (serves (may_write env.layout) (reg s.regs 11) (read_count env s))) _ _ _ _ refl refl)

  serves_alike : (at m : ℕ) → not (serves (reads_byte env.layout pc) at m) ≡ not (serves (reads_byte env.layout s.pc) at m)
  serves_alike at m = ap (λ keyed. not (nat_le (at + m) (2 ^ 32) && each_byte (λ a. may_read env.layout a || (keyed && is_keyed env.layout a)) at m)) keyed_same

  write_moved : write_service env t ≡ g (write_service env s)
  write_moved =
      chosen g (not (reg s.regs 10 == 1)) _ _ _ _ refl
      (chosen_too g (not (serves (reads_byte env.layout pc) (reg s.regs 11) (write_count s))) (not (serves (reads_byte env.layout s.pc) (reg s.regs 11) (write_count s))) _ _ _ _
      (serves_alike (reg s.regs 11) (write_count s)) refl refl)

  served_moved : served env t ≡ g (served env s)
  unfolding served
  served_moved =
      chosen g (reg s.regs 17 == 63) _ _ _ _ read_moved
      (chosen g (reg s.regs 17 == 64) _ _ _ _ write_moved refl)

  abbrev exit_by : Bool → Instr → Outcome
  exit_by keyed i = record {
    end = Exited (record { pc = pc; next = pc; class = class_of i false; moved = move_of i; keyed = keyed; port = None }) (reg s.regs 10 % 256);
    state = t;
  }

  calls_moved : (i : Instr) → calls_service env t i ≡ moved_to pc (calls_service env s i)
  calls_moved i =
      chosen (moved_to pc) ((reg s.regs 17 == 93) || (reg s.regs 17 == 94)) _ _ _ _
      (ap (λ keyed. exit_by keyed i) keyed_same)
      (ap (λ (u : State). goes (stepped env t i false None (plus pc 4)) (record u { pc = plus pc 4 })) served_moved ∙ goes_moved i (served env s))

pub plain_moves : PlainInstructionsMove
plain_moves = λ env s pc i plain here there. by_case env s pc i plain here there
  where
    by_case : (env : Setting) (s : State) (pc : ℕ) (i : Instr) → is_plain (Some i) ≡ true → is_keyed env.layout s.pc ≡ false → is_keyed env.layout pc ≡ false → performs env (record s { pc = pc }) i i ≡ moved_to pc (performs env s i i)
    by_case env s pc (Lui rd imm) plain here there = sets_moved env s pc here there (Lui rd imm) rd _
    by_case env s pc (Auipc rd imm) plain here there = absurd cc
    by_case env s pc (Jal rd offset) plain here there = absurd cc
    by_case env s pc (Jalr rd rs1 offset) plain here there = absurd cc
    by_case env s pc (Branch op rs1 rs2 offset) plain here there = absurd cc
    by_case env s pc (Load op rd rs1 offset) plain here there = loads_moved env s pc here there (Load op rd rs1 offset) op rd _
    by_case env s pc (Store op rs1 rs2 offset) plain here there = stores_moved env s pc here there (Store op rs1 rs2 offset) op _ _
    by_case env s pc (Imm op rd rs1 imm) plain here there = sets_moved env s pc here there (Imm op rd rs1 imm) rd _
    by_case env s pc (Reg op rd rs1 rs2) plain here there = sets_moved env s pc here there (Reg op rd rs1 rs2) rd _
    by_case env s pc (Fence rd rs1 imm) plain here there = goes_moved env s pc here there (Fence rd rs1 imm) s
    by_case env s pc Ecall plain here there = calls_moved env s pc here there Ecall
    by_case env s pc Ebreak plain here there = absurd cc
