-- A keyed segment of no bytes changes no run: class by class, then step by step.
use Rattle.std.proofs.Common.{◌≡◌, ℕ, zero, suc, ◌%◌, Bool, true, false, cond, List, Option, Some, None, refl, ap, sym, ◌∙◌}
use Rattle.std.specs.Prelude.{◌==◌, ◌&&◌, ◌||◌, not}
use Rattle.std.proofs.lemmas.Bool.{cond-false}
use Rattle.scale_base.specs.declared.instruction.LoadOp.{LoadOp}
use Rattle.scale_base.specs.declared.instruction.StoreOp.{StoreOp}
use Rattle.scale_base.specs.declared.instruction.Instr.{Instr}
use Rattle.scale_base.specs.declared.instruction.Instr.TheVariants.{Lui, Auipc, Jal, Jalr, Branch, Load, Store, Imm, Reg, Fence, Ecall, Ebreak}
use Rattle.scale_base.specs.declared.stepping.Stepped.{Stepped}
use Rattle.scale_base.specs.declared.stepping.StepEnd.{StepEnd}
use Rattle.scale_base.specs.declared.stepping.StepEnd.TheVariants.{Went, Exited, Trapped}
use Rattle.scale_base.specs.Class.{class_of}
use Rattle.scale_base.specs.Reading.{instr_of}
use Rattle.scale_base.specs.Layout.{Layout, each_byte, reads_byte, may_write, can_fetch, can_read, can_write, uses_window}
use Rattle.scale_base.specs.Arith.{load_width, store_width, loaded, stored, is_taken, moved_by}
use Rattle.scale_base.specs.State.{State, reg, with_reg, word_at}
use Rattle.scale_base.specs.Service.{served, serves, read_count, read_service, write_count, write_service}
use Rattle.scale_base.specs.Step.{Outcome, stepped, move_of, goes, pc_after, sets, passes, jumps, branches, loads, stores, calls_service, performs, executes, step}
use Rattle.scale_base.specs.Run.{Run, Standing, GoesOn, HasExited, HasTrapped, ended, one_more_by, one_more, run}
use Rattle.machine_laws.specs.Keys.{setting, with_empty_key, with_window, run_with_window}
use Rattle.machine_laws.proofs.Keyless.{Alike, alike, no_window}

-- the outcome, with these words in the window
abbrev pub seen : List ℕ → Outcome → Outcome
seen w o = record { end = o.end; state = with_window o.state w }

abbrev step_by : Bool → State → Instr → Bool → Option ℕ → ℕ → Stepped
step_by keyed s i taken port next = record {
  pc = s.pc;
  next = next;
  class = class_of i taken;
  moved = move_of i;
  keyed = keyed;
  port = port;
}

-- a choice by one test, of what a map leads to
chosen : {A : Type 0} (g : A → A) (b : Bool) (u v x y : A) → u ≡ g x → v ≡ g y → cond b u v ≡ g (cond b x y)
chosen g true u v x y p q = p
chosen g false u v x y p q = q

-- and by two tests that agree
chosen_by : {A : Type 0} (g : A → A) (c b : Bool) (u v x y : A) → c ≡ b → u ≡ g x → v ≡ g y → cond c u v ≡ g (cond b x y)
chosen_by g c b u v x y e p q = ap (λ t. cond t u v) e ∙ chosen g b u v x y p q

-- and by two tests that fail
passed_by : {A : Type 0} (g : A → A) (c b : Bool) (u v x y : A) → c ≡ false → b ≡ false → v ≡ g y → cond c u v ≡ g (cond b x y)
passed_by g c b u v x y d e q = cond-false c u v d ∙ (q ∙ ap g (sym (cond-false b x y e)))

module _ (k l : Layout) (levels : ℕ) (input w : List ℕ) (same : Alike k l) where
  stepped_same : (s : State) (i : Instr) (taken : Bool) (port : Option ℕ) (next : ℕ) → stepped (setting l levels input) (with_window s w) i taken port next ≡ stepped (setting k levels input) s i taken port next
  stepped_same s i taken port next = ap (λ keyed. step_by keyed s i taken port next) (same.right s.pc ∙ sym (same.left s.pc))

  goes_same : (s : State) (i : Instr) (taken : Bool) (port : Option ℕ) (next : ℕ) (t : State) → goes (stepped (setting l levels input) (with_window s w) i taken port next) (with_window t w) ≡ seen w (goes (stepped (setting k levels input) s i taken port next) t)
  goes_same s i taken port next t = ap (λ x. goes x (with_window t w)) (stepped_same s i taken port next)

  sets_same : (s : State) (i : Instr) (rd value : ℕ) → sets (setting l levels input) (with_window s w) i rd value ≡ seen w (sets (setting k levels input) s i rd value)
  sets_same s i rd value = goes_same s i false None (pc_after s) (record s { pc = pc_after s; regs = with_reg s.regs rd value })

  passes_same : (s : State) (i : Instr) → passes (setting l levels input) (with_window s w) i ≡ seen w (passes (setting k levels input) s i)
  passes_same s i = goes_same s i false None (pc_after s) (record s { pc = pc_after s })

  jumps_same : (s : State) (i : Instr) (rd target : ℕ) → jumps (setting l levels input) (with_window s w) i rd target ≡ seen w (jumps (setting k levels input) s i rd target)
  jumps_same s i rd target =
      chosen (seen w) (target % 4 == 0) _ _ _ _ (goes_same s i false None target (record s { pc = target; regs = with_reg s.regs rd (pc_after s) })) refl

  branches_same : (s : State) (i : Instr) (taken : Bool) (target : ℕ) → branches (setting l levels input) (with_window s w) i taken target ≡ seen w (branches (setting k levels input) s i taken target)
  branches_same s i taken target =
      chosen (seen w) taken _ _ _ _
      (chosen (seen w) (target % 4 == 0) _ _ _ _ (goes_same s i true None target (record s { pc = target })) refl)
      (passes_same s i)

  loads_same : (s : State) (i : Instr) (op : LoadOp) (rd at : ℕ) → loads (setting l levels input) (with_window s w) i op rd at ≡ seen w (loads (setting k levels input) s i op rd at)
  loads_same s i op rd at =
      chosen (seen w) (not (at % load_width op == 0)) _ _ _ _ refl
      (passed_by (seen w) (uses_window l s.pc at (load_width op)) (uses_window k s.pc at (load_width op)) _ _ _ _
      (no_window l s.pc at (load_width op) (same.right s.pc)) (no_window k s.pc at (load_width op) (same.left s.pc))
      (chosen_by (seen w) (can_read l s.pc at (load_width op)) (can_read k s.pc at (load_width op)) _ _ _ _
      (ap (λ test. each_byte test at (load_width op)) (same.reads s.pc)) (sets_same s i rd (loaded op s.bytes at)) refl))

  stores_same : (s : State) (i : Instr) (op : StoreOp) (at value : ℕ) → stores (setting l levels input) (with_window s w) i op at value ≡ seen w (stores (setting k levels input) s i op at value)
  stores_same s i op at value =
      chosen (seen w) (not (at % store_width op == 0)) _ _ _ _ refl
      (passed_by (seen w) (uses_window l s.pc at (store_width op)) (uses_window k s.pc at (store_width op)) _ _ _ _
      (no_window l s.pc at (store_width op) (same.right s.pc)) (no_window k s.pc at (store_width op) (same.left s.pc))
      (chosen_by (seen w) (can_write l at (store_width op)) (can_write k at (store_width op)) _ _ _ _
      (ap (λ test. each_byte test at (store_width op)) same.writes)
      (goes_same s i false None (pc_after s) (record s { pc = pc_after s; bytes = stored op s.bytes at value })) refl))

  read_same : (s : State) → read_service (setting l levels input) (with_window s w) ≡ with_window (read_service (setting k levels input) s) w
  read_same s =
      let m = read_count (setting k levels input) s in
      chosen (λ t. with_window t w) (not (reg s.regs 10 == 0)) _ _ _ _ refl
      (chosen_by (λ t. with_window t w) (not (serves (may_write l) (reg s.regs 11) m)) (not (serves (may_write k) (reg s.regs 11) m)) _ _ _ _
      (ap (λ test. not (serves test (reg s.regs 11) m)) same.writes) refl refl)

  write_same : (s : State) → write_service (setting l levels input) (with_window s w) ≡ with_window (write_service (setting k levels input) s) w
  write_same s =
      let m = write_count s in
      chosen (λ t. with_window t w) (not (reg s.regs 10 == 1)) _ _ _ _ refl
      (chosen_by (λ t. with_window t w) (not (serves (reads_byte l s.pc) (reg s.regs 11) m)) (not (serves (reads_byte k s.pc) (reg s.regs 11) m)) _ _ _ _
      (ap (λ test. not (serves test (reg s.regs 11) m)) (same.reads s.pc)) refl refl)

  served_same : (s : State) → served (setting l levels input) (with_window s w) ≡ with_window (served (setting k levels input) s) w
  unfolding served
  served_same s =
      chosen (λ t. with_window t w) (reg s.regs 17 == 63) _ _ _ _ (read_same s)
      (chosen (λ t. with_window t w) (reg s.regs 17 == 64) _ _ _ _ (write_same s) refl)

  calls_same : (s : State) (i : Instr) → calls_service (setting l levels input) (with_window s w) i ≡ seen w (calls_service (setting k levels input) s i)
  calls_same s i =
      chosen (seen w) ((reg s.regs 17 == 93) || (reg s.regs 17 == 94)) _ _ _ _
      (ap (λ (x : Stepped). let o : Outcome = record { end = Exited x (reg s.regs 10 % 256); state = with_window s w } in o) (stepped_same s i false None s.pc))
      (ap (λ (t : State). goes (stepped (setting l levels input) (with_window s w) i false None (pc_after s)) (record t { pc = pc_after s })) (served_same s)
      ∙ goes_same s i false None (pc_after s) (record (served (setting k levels input) s) { pc = pc_after s }))

  performs_same : (s : State) (i j : Instr) → performs (setting l levels input) (with_window s w) i j ≡ seen w (performs (setting k levels input) s i j)
  performs_same s i (Lui rd imm) = sets_same s i rd _
  performs_same s i (Auipc rd imm) = sets_same s i rd _
  performs_same s i (Jal rd offset) = jumps_same s i rd _
  performs_same s i (Jalr rd rs1 offset) = jumps_same s i rd _
  performs_same s i (Branch op rs1 rs2 offset) = branches_same s i (is_taken op (reg s.regs rs1) (reg s.regs rs2)) (moved_by s.pc offset)
  performs_same s i (Load op rd rs1 offset) = loads_same s i op rd (moved_by (reg s.regs rs1) offset)
  performs_same s i (Store op rs1 rs2 offset) = stores_same s i op (moved_by (reg s.regs rs1) offset) (reg s.regs rs2)
  performs_same s i (Imm op rd rs1 imm) = sets_same s i rd _
  performs_same s i (Reg op rd rs1 rs2) = sets_same s i rd _
  performs_same s i (Fence rd rs1 imm) = passes_same s i
  performs_same s i Ecall = calls_same s i
  performs_same s i Ebreak = refl

  executes_same : (s : State) (o : Option Instr) → executes (setting l levels input) (with_window s w) o ≡ seen w (executes (setting k levels input) s o)
  executes_same s None = refl
  executes_same s (Some i) = performs_same s i i

  step_alike : (s : State) → step (setting l levels input) (with_window s w) ≡ seen w (step (setting k levels input) s)
  unfolding step
  step_alike s =
      chosen_by (seen w) (can_fetch l s.pc) (can_fetch k s.pc) _ _ _ _
      (ap (λ test. (s.pc % 4 == 0) && each_byte test s.pc 4) same.fetches) (executes_same s (instr_of (word_at s.bytes s.pc))) refl

  ended_same : (xs : List Stepped) (end : StepEnd) (t : State) → ended xs end (with_window t w) ≡ run_with_window (ended xs end t) w
  ended_same xs (Went x) t = refl
  ended_same xs (Exited x status) t = refl
  ended_same xs (Trapped trap) t = refl

  more_same : (r : Run) (standing : Standing) → one_more_by (setting l levels input) (run_with_window r w) standing ≡ run_with_window (one_more_by (setting k levels input) r standing) w
  more_same r GoesOn =
      ap (λ (o : Outcome). ended r.steps o.end o.state) (step_alike r.state)
      ∙ ended_same r.steps (step (setting k levels input) r.state).end (step (setting k levels input) r.state).state
  more_same r (HasExited status) = refl
  more_same r (HasTrapped trap) = refl

  run_alike : (s : State) (n : ℕ) → run (setting l levels input) (with_window s w) n ≡ run_with_window (run (setting k levels input) s n) w
  unfolding run
  run_alike s zero = refl
  run_alike s (suc n) =
      ap (one_more (setting l levels input)) (run_alike s n)
      ∙ more_same (run (setting k levels input) s n) (run (setting k levels input) s n).standing

pub run_same : (l : Layout) (base levels : ℕ) (input : List ℕ) (s : State) (w : List ℕ) (n : ℕ) → l.keyed ≡ None → run (setting (with_empty_key l base) levels input) (with_window s w) n ≡ run_with_window (run (setting l levels input) s n) w
run_same l base levels input s w n none = run_alike l (with_empty_key l base) levels input w (alike l base none) s n
