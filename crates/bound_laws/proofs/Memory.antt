-- Memory holds bytes along a run.
use Rattle.std.proofs.Common.{ℕ, ◌+◌, ◌<◌, ◌%◌, Bool, List, [], ◌∷◌, arith, Option, Some, None}
use Rattle.std.specs.Prelude.{◌==◌, ◌||◌, not, nat_lt, take, drop, All}
use Rattle.std.proofs.lemmas.Bool.{cond_both}
use Rattle.std.proofs.lemmas.List.Elements.{All-head, All-tail, All-take, All-drop}
use Rattle.scale_base.specs.declared.instruction.LoadOp.{LoadOp}
use Rattle.scale_base.specs.declared.instruction.StoreOp.{StoreOp}
use Rattle.scale_base.specs.declared.instruction.StoreOp.TheVariants.{Sb, Sh, Sw}
use Rattle.scale_base.specs.declared.instruction.Instr.{Instr}
use Rattle.scale_base.specs.declared.instruction.Instr.TheVariants.{Lui, Auipc, Jal, Jalr, Branch, Load, Store, Imm, Reg, Fence, Ecall, Ebreak}
use Rattle.scale_base.specs.Reading.{instr_of}
use Rattle.scale_base.specs.Layout.{can_fetch, can_read, can_write, uses_window, may_write, reads_byte}
use Rattle.scale_base.specs.Arith.{load_width, store_width, is_taken, moved_by, stored}
use Rattle.scale_base.specs.State.{Setting, State, reg, with_byte, with_list, word_at}
use Rattle.scale_base.specs.Service.{served, serves, read_count, write_count}
use Rattle.scale_base.specs.Step.{Outcome, jumps, branches, loads, stores, performs, executes, window_index, port_index, step}
use Rattle.bound_laws.specs.Values.{AreBytes}

byte_kept : (bytes : ℕ → ℕ) (at value : ℕ) → AreBytes bytes → value < 256 → AreBytes (with_byte bytes at value)
unfolding with_byte
byte_kept bytes at value b v a = cond_both (a == at) value (bytes a) (λ x. x < 256) (λ _. v) (λ _. b a)

stored_kept : (op : StoreOp) (bytes : ℕ → ℕ) (at value : ℕ) → AreBytes bytes → AreBytes (stored op bytes at value)
stored_kept Sb bytes at value b = byte_kept bytes at _ b (omega arith)
stored_kept Sh bytes at value b = byte_kept _ (at + 1) _ (byte_kept bytes at _ b (omega arith)) (omega arith)
stored_kept Sw bytes at value b =
    byte_kept _ (at + 3) _ (byte_kept _ (at + 2) _ (byte_kept _ (at + 1) _ (byte_kept bytes at _ b (omega arith)) (omega arith)) (omega arith)) (omega arith)

list_kept : (bytes : ℕ → ℕ) (at : ℕ) (xs : List ℕ) → AreBytes bytes → All (λ x. x < 256) xs → AreBytes (with_list bytes at xs)
unfolding with_list
list_kept bytes at [] b all = b
list_kept bytes at (x ∷ xs) b all = list_kept (with_byte bytes at x) (at + 1) xs (byte_kept bytes at x b (All-head (λ x. x < 256) x xs all)) (All-tail (λ x. x < 256) x xs all)

module _ (env : Setting) (input : All (λ x. x < 256) env.input) where
  abbrev Keeps : Outcome → Type 0
  Keeps o = AreBytes o.state.bytes

  stores_kept : (s : State) (i : Instr) (op : StoreOp) (at value : ℕ) → AreBytes s.bytes → Keeps (stores env s i op at value)
  stores_kept s i op at value b =
      cond_both (not (at % store_width op == 0)) _ _ Keeps (λ _. b)
      (λ _. cond_both (uses_window env.layout s.pc at (store_width op)) _ _ Keeps
      (λ _. cond_both (not (window_index at == port_index)) _ _ Keeps (λ _. b)
      (λ _. cond_both (nat_lt value env.levels) _ _ Keeps (λ _. b) (λ _. b)))
      (λ _. cond_both (can_write env.layout at (store_width op)) _ _ Keeps (λ _. stored_kept op s.bytes at value b) (λ _. b)))

  served_kept : (s : State) → AreBytes s.bytes → AreBytes (served env s).bytes
  unfolding served
  served_kept s b =
      let P : State → Type 0 = λ t. AreBytes t.bytes in
      cond_both (reg s.regs 17 == 63) _ _ P
      (λ _. cond_both (not (reg s.regs 10 == 0)) _ _ P (λ _. b)
      (λ _. cond_both (not (serves (may_write env.layout) (reg s.regs 11) (read_count env s))) _ _ P (λ _. b)
      (λ _. list_kept s.bytes (reg s.regs 11) (take (read_count env s) (drop s.used env.input)) b
      (All-take (λ x. x < 256) (read_count env s) (drop s.used env.input) (All-drop (λ x. x < 256) s.used env.input input)))))
      (λ _. cond_both (reg s.regs 17 == 64) _ _ P
      (λ _. cond_both (not (reg s.regs 10 == 1)) _ _ P (λ _. b)
      (λ _. cond_both (not (serves (reads_byte env.layout s.pc) (reg s.regs 11) (write_count s))) _ _ P (λ _. b) (λ _. b)))
      (λ _. b))

  loads_kept : (s : State) (i : Instr) (op : LoadOp) (rd at : ℕ) → AreBytes s.bytes → Keeps (loads env s i op rd at)
  loads_kept s i op rd at b =
      cond_both (not (at % load_width op == 0)) _ _ Keeps (λ _. b)
      (λ _. cond_both (uses_window env.layout s.pc at (load_width op)) _ _ Keeps (λ _. b)
      (λ _. cond_both (can_read env.layout s.pc at (load_width op)) _ _ Keeps (λ _. b) (λ _. b)))

  jumps_kept : (s : State) (i : Instr) (rd target : ℕ) → AreBytes s.bytes → Keeps (jumps env s i rd target)
  jumps_kept s i rd target b = cond_both (target % 4 == 0) _ _ Keeps (λ _. b) (λ _. b)

  branches_kept : (s : State) (i : Instr) (taken : Bool) (target : ℕ) → AreBytes s.bytes → Keeps (branches env s i taken target)
  branches_kept s i taken target b = cond_both taken _ _ Keeps (λ _. cond_both (target % 4 == 0) _ _ Keeps (λ _. b) (λ _. b)) (λ _. b)

  performs_kept : (s : State) (i j : Instr) → AreBytes s.bytes → Keeps (performs env s i j)
  performs_kept s i (Lui rd imm) b = b
  performs_kept s i (Auipc rd imm) b = b
  performs_kept s i (Jal rd offset) b = jumps_kept s i rd _ b
  performs_kept s i (Jalr rd rs1 offset) b = jumps_kept s i rd _ b
  performs_kept s i (Branch op rs1 rs2 offset) b = branches_kept s i (is_taken op (reg s.regs rs1) (reg s.regs rs2)) (moved_by s.pc offset) b
  performs_kept s i (Load op rd rs1 offset) b = loads_kept s i op rd _ b
  performs_kept s i (Store op rs1 rs2 offset) b = stores_kept s i op _ _ b
  performs_kept s i (Imm op rd rs1 imm) b = b
  performs_kept s i (Reg op rd rs1 rs2) b = b
  performs_kept s i (Fence rd rs1 imm) b = b
  performs_kept s i Ecall b = cond_both ((reg s.regs 17 == 93) || (reg s.regs 17 == 94)) _ _ Keeps (λ _. b) (λ _. served_kept s b)
  performs_kept s i Ebreak b = b

  executes_kept : (s : State) (o : Option Instr) → AreBytes s.bytes → Keeps (executes env s o)
  executes_kept s None b = b
  executes_kept s (Some i) b = performs_kept s i i b

  pub step_bytes : (s : State) → AreBytes s.bytes → AreBytes (step env s).state.bytes
  unfolding step
  step_bytes s b = cond_both (can_fetch env.layout s.pc) _ _ Keeps (λ _. executes_kept s (instr_of (word_at s.bytes s.pc)) b) (λ _. b)
