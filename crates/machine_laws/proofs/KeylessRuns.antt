-- A run without a keyed segment stores nothing at the port, and no step of it is keyed.
use Rattle.std.proofs.Common.{◌≡◌, ℕ, zero, suc, ◌%◌, Bool, false, List, All, Option, Some, None, refl}
use Rattle.std.specs.Prelude.{◌==◌, ◌||◌, not}
use Rattle.std.proofs.lemmas.Bool.{cond_both, both_ways}
use Rattle.std.proofs.lemmas.List.Elements.{All-nil, All-push, All-weaker}
use Rattle.scale_base.specs.declared.instruction.LoadOp.{LoadOp}
use Rattle.scale_base.specs.declared.instruction.StoreOp.{StoreOp}
use Rattle.scale_base.specs.declared.instruction.Instr.{Instr}
use Rattle.scale_base.specs.declared.instruction.Instr.TheVariants.{Lui, Auipc, Jal, Jalr, Branch, Load, Store, Imm, Reg, Fence, Ecall, Ebreak}
use Rattle.scale_base.specs.declared.stepping.Stepped.{Stepped}
use Rattle.scale_base.specs.declared.stepping.StepEnd.{StepEnd}
use Rattle.scale_base.specs.declared.stepping.StepEnd.TheVariants.{Went, Exited, Trapped}
use Rattle.scale_base.specs.Reading.{instr_of}
use Rattle.scale_base.specs.Layout.{can_fetch, can_read, can_write, uses_window}
use Rattle.scale_base.specs.Arith.{load_width, store_width, is_taken, moved_by}
use Rattle.scale_base.specs.State.{Setting, State, reg, word_at}
use Rattle.scale_base.specs.Step.{Outcome, jumps, branches, loads, stores, performs, executes, step}
use Rattle.scale_base.specs.Run.{Run, Standing, GoesOn, HasExited, HasTrapped, ended, one_more_by, run}
use Rattle.machine_laws.proofs.Keyless.{no_key, no_window}

-- a step that stores nothing at the port, and wasn't fetched from the keyed segment
abbrev pub IsKeyless : Stepped → Type 0
IsKeyless x = (x.port ≡ None) × (x.keyed ≡ false)

abbrev pub EndsKeyless : StepEnd → Type 0
EndsKeyless (Went x) = IsKeyless x
EndsKeyless (Exited x status) = IsKeyless x
EndsKeyless (Trapped trap) = Unit {0}

abbrev Keyless : Outcome → Type 0
Keyless o = EndsKeyless o.end

module _ (env : Setting) (none : env.layout.keyed ≡ None) where
  jumps_keyless : (s : State) (i : Instr) (rd target : ℕ) → Keyless (jumps env s i rd target)
  jumps_keyless s i rd target = cond_both (target % 4 == 0) _ _ Keyless (λ _. (refl, no_key env.layout s.pc none)) (λ _. tt)

  branches_keyless : (s : State) (i : Instr) (taken : Bool) (target : ℕ) → Keyless (branches env s i taken target)
  branches_keyless s i taken target =
      cond_both taken _ _ Keyless
      (λ _. cond_both (target % 4 == 0) _ _ Keyless (λ _. (refl, no_key env.layout s.pc none)) (λ _. tt))
      (λ _. (refl, no_key env.layout s.pc none))

  loads_keyless : (s : State) (i : Instr) (op : LoadOp) (rd at : ℕ) → Keyless (loads env s i op rd at)
  loads_keyless s i op rd at =
      let keyless = no_key env.layout s.pc none in
      cond_both (not (at % load_width op == 0)) _ _ Keyless (λ _. tt)
      (λ _. cond_both (uses_window env.layout s.pc at (load_width op)) _ _ Keyless (λ _. (refl, keyless))
      (λ _. cond_both (can_read env.layout s.pc at (load_width op)) _ _ Keyless (λ _. (refl, keyless)) (λ _. tt)))

  stores_keyless : (s : State) (i : Instr) (op : StoreOp) (at value : ℕ) → Keyless (stores env s i op at value)
  stores_keyless s i op at value =
      let keyless = no_key env.layout s.pc none in
      cond_both (not (at % store_width op == 0)) _ _ Keyless (λ _. tt)
      (λ _. cond_both (uses_window env.layout s.pc at (store_width op)) _ _ Keyless
      (λ e. absurd (both_ways (uses_window env.layout s.pc at (store_width op)) (no_window env.layout s.pc at (store_width op) keyless) e))
      (λ _. cond_both (can_write env.layout at (store_width op)) _ _ Keyless (λ _. (refl, keyless)) (λ _. tt)))

  performs_keyless : (s : State) (i j : Instr) → Keyless (performs env s i j)
  performs_keyless s i (Lui rd imm) = (refl, no_key env.layout s.pc none)
  performs_keyless s i (Auipc rd imm) = (refl, no_key env.layout s.pc none)
  performs_keyless s i (Jal rd offset) = jumps_keyless s i rd _
  performs_keyless s i (Jalr rd rs1 offset) = jumps_keyless s i rd _
  performs_keyless s i (Branch op rs1 rs2 offset) = branches_keyless s i (is_taken op (reg s.regs rs1) (reg s.regs rs2)) (moved_by s.pc offset)
  performs_keyless s i (Load op rd rs1 offset) = loads_keyless s i op rd _
  performs_keyless s i (Store op rs1 rs2 offset) = stores_keyless s i op _ _
  performs_keyless s i (Imm op rd rs1 imm) = (refl, no_key env.layout s.pc none)
  performs_keyless s i (Reg op rd rs1 rs2) = (refl, no_key env.layout s.pc none)
  performs_keyless s i (Fence rd rs1 imm) = (refl, no_key env.layout s.pc none)
  performs_keyless s i Ecall =
      cond_both ((reg s.regs 17 == 93) || (reg s.regs 17 == 94)) _ _ Keyless (λ _. (refl, no_key env.layout s.pc none)) (λ _. (refl, no_key env.layout s.pc none))
  performs_keyless s i Ebreak = tt

  executes_keyless : (s : State) (o : Option Instr) → Keyless (executes env s o)
  executes_keyless s None = tt
  executes_keyless s (Some i) = performs_keyless s i i

  pub step_keyless : (s : State) → EndsKeyless (step env s).end
  unfolding step
  step_keyless s = cond_both (can_fetch env.layout s.pc) _ _ Keyless (λ _. executes_keyless s (instr_of (word_at s.bytes s.pc))) (λ _. tt)

  ended_keyless : (xs : List Stepped) (end : StepEnd) (t : State) → All IsKeyless xs → EndsKeyless end → All IsKeyless (ended xs end t).steps
  ended_keyless xs (Went x) t all here = All-push IsKeyless xs x all here
  ended_keyless xs (Exited x status) t all here = All-push IsKeyless xs x all here
  ended_keyless xs (Trapped trap) t all here = all

  more_keyless : (r : Run) (standing : Standing) → All IsKeyless r.steps → All IsKeyless (one_more_by env r standing).steps
  more_keyless r GoesOn all = ended_keyless r.steps (step env r.state).end (step env r.state).state all (step_keyless r.state)
  more_keyless r (HasExited status) all = all
  more_keyless r (HasTrapped trap) all = all

  pub run_keyless : (s : State) (n : ℕ) → All IsKeyless (run env s n).steps
  unfolding run
  run_keyless s zero = All-nil IsKeyless
  run_keyless s (suc n) = more_keyless (run env s n) (run env s n).standing (run_keyless s n)

pub run_without_port : (env : Setting) (s : State) (n : ℕ) → env.layout.keyed ≡ None → All (λ x. x.port ≡ None) (run env s n).steps
run_without_port env s n none =
    All-weaker IsKeyless (λ x. x.port ≡ None) (λ x h. h.0) (run env s n).steps (run_keyless env none s n)

pub run_without_key : (env : Setting) (s : State) (n : ℕ) → env.layout.keyed ≡ None → All (λ x. x.keyed ≡ false) (run env s n).steps
run_without_key env s n none =
    All-weaker IsKeyless (λ x. x.keyed ≡ false) (λ x h. h.1) (run env s n).steps (run_keyless env none s n)
