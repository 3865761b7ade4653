-- An instruction of the text that is no stub's does the same in both layouts, with the text and the keyed segment laid over the bytes.
use Rattle.std.proofs.Common.{◌≡◌, ℕ, ◌+◌, ◌%◌, ◌^◌, ◌++◌, Bool, true, false, not, cond, List, take, drop, Option, Some, None, refl, ap, sym, ◌∙◌, arith, length-take}
use Rattle.std.specs.Prelude.{◌==◌, ◌&&◌, ◌||◌, nat_le}
use Rattle.std.proofs.lemmas.Bool.{cond-true, cond-false, and_parts}
use Rattle.scale_base.specs.declared.instruction.LoadOp.{LoadOp}
use Rattle.scale_base.specs.declared.instruction.StoreOp.{StoreOp}
use Rattle.scale_base.specs.declared.instruction.Instr.{Instr}
use Rattle.scale_base.specs.declared.instruction.Instr.TheVariants.{Lui, Auipc, Jal, Jalr, Branch, Load, Store, Imm, Reg, Fence, Ecall, Ebreak}
use Rattle.scale_base.specs.declared.stepping.Stepped.{Stepped}
use Rattle.scale_base.specs.declared.stepping.StepEnd.TheVariants.{Exited}
use Rattle.scale_base.specs.Class.{class_of}
use Rattle.scale_base.specs.Reading.{instr_of}
use Rattle.scale_base.specs.Layout.{Layout, each_byte, reads_byte, may_write, is_keyed, can_fetch, can_read, can_write, uses_window, in_window}
use Rattle.scale_base.specs.Arith.{load_width, store_width, stored, is_taken, moved_by}
use Rattle.scale_base.specs.State.{State, reg, with_reg, word_at}
use Rattle.scale_base.specs.Service.{served, serves, read_count, read_service, write_count, write_service}
use Rattle.scale_base.specs.Step.{Outcome, stepped, move_of, goes, pc_after, sets, passes, jumps, branches, loads, stores, calls_service, performs, executes, step}
use Rattle.scale_base.proofs.Laws.{each_byte_at}
use Rattle.machine_laws.specs.Keys.{setting}
use Rattle.stored_runs.proofs.LaidBytes.{laid, AreSeen, loaded_seen, stored_seen, list_put_seen, list_taken_seen}

-- two layouts that permit the same to an instruction outside the keyed segment, which sees no hidden byte
pub record SeeAlike (k l : Layout) (hidden : ℕ → Bool) (pc : ℕ) : Type 0 where
  pub reads : reads_byte l pc ≡ reads_byte k pc
  pub writes : may_write l ≡ may_write k
  pub left : is_keyed k pc ≡ false
  pub right : is_keyed l pc ≡ false
  pub read_seen : (a : ℕ) → reads_byte k pc a ≡ true → hidden a ≡ false
  pub write_seen : (a : ℕ) → may_write k a ≡ true → hidden a ≡ false

no_window : (l : Layout) (pc at width : ℕ) → is_keyed l pc ≡ false → uses_window l pc at width ≡ false
no_window l pc at width e = ap (λ keyed. keyed && (width == 4) && in_window at) e

-- the state with the hidden bytes laid over its own, and these words in the window
abbrev pub over : (ℕ → Bool) → (ℕ → ℕ) → List ℕ → State → State
over hidden b w s = record s { bytes = laid hidden b s.bytes; window = w }

abbrev pub seen : (ℕ → Bool) → (ℕ → ℕ) → List ℕ → Outcome → Outcome
seen hidden b w o = record { end = o.end; state = over hidden b w o.state }

abbrev step_by : Bool → State → Instr → Bool → Option ℕ → ℕ → Stepped
step_by keyed s i taken port next = record {
  pc = s.pc;
  next = next;
  class = class_of i taken;
  moved = move_of i;
  keyed = keyed;
  port = port;
}

-- a choice by one test, of what a map leads to
chosen : {A : Type 0} (g : A → A) (b : Bool) (u v x y : A) → u ≡ g x → v ≡ g y → cond b u v ≡ g (cond b x y)
chosen g true u v x y p q = p
chosen g false u v x y p q = q

-- where the test is so
chosen_if : {A : Type 0} (g : A → A) (c b : Bool) (u v x y : A) → c ≡ b → (b ≡ true → u ≡ g x) → (b ≡ false → v ≡ g y) → cond c u v ≡ g (cond b x y)
chosen_if g c true u v x y e p q = ap (λ t. cond t u v) e ∙ p refl
chosen_if g c false u v x y e p q = ap (λ t. cond t u v) e ∙ q refl

-- and by two tests that fail
passed_by : {A : Type 0} (g : A → A) (c b : Bool) (u v x y : A) → c ≡ false → b ≡ false → v ≡ g y → cond c u v ≡ g (cond b x y)
passed_by g c b u v x y d e q = cond-false c u v d ∙ (q ∙ ap g (sym (cond-false b x y e)))

module _ (k l : Layout) (levels : ℕ) (input w : List ℕ) (hidden : ℕ → Bool) (b : ℕ → ℕ) where
  abbrev up : State → State
  up s = over hidden b w s

  abbrev upped : Outcome → Outcome
  upped o = seen hidden b w o

  seen_by : (test : ℕ → Bool) (at n : ℕ) → ((a : ℕ) → test a ≡ true → hidden a ≡ false) → each_byte test at n ≡ true → AreSeen hidden at n
  seen_by test at n sees all = λ j lt. sees (at + j) (each_byte_at test at j n lt all)

  goes_same : (s : State) (i : Instr) (taken : Bool) (port : Option ℕ) (next : ℕ) (t u : State) → SeeAlike k l hidden s.pc → u ≡ up t → goes (stepped (setting l levels input) (up s) i taken port next) u ≡ upped (goes (stepped (setting k levels input) s i taken port next) t)
  goes_same s i taken port next t u same e =
      ap (λ keyed. goes (step_by keyed s i taken port next) u) (same.right ∙ sym same.left)
      ∙ ap (goes (stepped (setting k levels input) s i taken port next)) e

  sets_same : (s : State) (i : Instr) (rd v value : ℕ) → SeeAlike k l hidden s.pc → v ≡ value → sets (setting l levels input) (up s) i rd v ≡ upped (sets (setting k levels input) s i rd value)
  sets_same s i rd v value same e =
      goes_same s i false None (pc_after s) (record s { pc = pc_after s; regs = with_reg s.regs rd value }) _ same (ap (λ x. up (record s { pc = pc_after s; regs = with_reg s.regs rd x })) e)

  passes_same : (s : State) (i : Instr) → SeeAlike k l hidden s.pc → passes (setting l levels input) (up s) i ≡ upped (passes (setting k levels input) s i)
  passes_same s i same = goes_same s i false None (pc_after s) (record s { pc = pc_after s }) _ same refl

  jumps_same : (s : State) (i : Instr) (rd target : ℕ) → SeeAlike k l hidden s.pc → jumps (setting l levels input) (up s) i rd target ≡ upped (jumps (setting k levels input) s i rd target)
  jumps_same s i rd target same =
      chosen upped (target % 4 == 0) _ _ _ _ (goes_same s i false None target (record s { pc = target; regs = with_reg s.regs rd (pc_after s) }) _ same refl) refl

  branches_same : (s : State) (i : Instr) (taken : Bool) (target : ℕ) → SeeAlike k l hidden s.pc → branches (setting l levels input) (up s) i taken target ≡ upped (branches (setting k levels input) s i taken target)
  branches_same s i taken target same =
      chosen upped taken _ _ _ _
      (chosen upped (target % 4 == 0) _ _ _ _ (goes_same s i true None target (record s { pc = target }) _ same refl) refl)
      (passes_same s i same)

  loads_same : (s : State) (i : Instr) (op : LoadOp) (rd at : ℕ) → SeeAlike k l hidden s.pc → loads (setting l levels input) (up s) i op rd at ≡ upped (loads (setting k levels input) s i op rd at)
  loads_same s i op rd at same =
      chosen upped (not (at % load_width op == 0)) _ _ _ _ refl
      (passed_by upped (uses_window l s.pc at (load_width op)) (uses_window k s.pc at (load_width op)) _ _ _ _
      (no_window l s.pc at (load_width op) same.right) (no_window k s.pc at (load_width op) same.left)
      (chosen_if upped (can_read l s.pc at (load_width op)) (can_read k s.pc at (load_width op)) _ _ _ _
      (ap (λ test. each_byte test at (load_width op)) same.reads)
      (λ may. sets_same s i rd _ _ same (loaded_seen hidden b op s.bytes at (seen_by (reads_byte k s.pc) at (load_width op) same.read_seen may)))
      (λ _. refl)))

  stores_same : (s : State) (i : Instr) (op : StoreOp) (at value : ℕ) → SeeAlike k l hidden s.pc → stores (setting l levels input) (up s) i op at value ≡ upped (stores (setting k levels input) s i op at value)
  stores_same s i op at value same =
      chosen upped (not (at % store_width op == 0)) _ _ _ _ refl
      (passed_by upped (uses_window l s.pc at (store_width op)) (uses_window k s.pc at (store_width op)) _ _ _ _
      (no_window l s.pc at (store_width op) same.right) (no_window k s.pc at (store_width op) same.left)
      (chosen_if upped (can_write l at (store_width op)) (can_write k at (store_width op)) _ _ _ _
      (ap (λ test. each_byte test at (store_width op)) same.writes)
      (λ may. goes_same s i false None (pc_after s) (record s { pc = pc_after s; bytes = stored op s.bytes at value }) _ same
      (ap (λ f. record (up s) { pc = pc_after s; bytes = f }) (stored_seen hidden b op s.bytes at value (seen_by (may_write k) at (store_width op) same.write_seen may))))
      (λ _. refl)))

  served_bytes : (test : ℕ → Bool) (at m : ℕ) → ((a : ℕ) → test a ≡ true → hidden a ≡ false) → not (serves test at m) ≡ false → AreSeen hidden at m
  served_bytes test at m sees e = seen_by test at m sees (and_parts (nat_le (at + m) (2 ^ 32)) (each_byte test at m) (on (serves test at m) e)).1
    where
      on : (t : Bool) → not t ≡ false → t ≡ true
      on true h = refl
      on false h = let never : ⊥ = cc in absurd never

  read_same : (s : State) → SeeAlike k l hidden s.pc → read_service (setting l levels input) (up s) ≡ up (read_service (setting k levels input) s)
  read_same s same =
      let m = read_count (setting k levels input) s in
      let at = reg s.regs 11 in
      let xs = take m (drop s.used input) in
      chosen up (not (reg s.regs 10 == 0)) _ _ _ _ refl
      (chosen_if up (not (serves (may_write l) at m)) (not (serves (may_write k) at m)) _ _ _ _
      (ap (λ test. not (serves test at m)) same.writes) (λ _. refl)
      (λ may. let all = served_bytes (may_write k) at m same.write_seen may in
      ap (λ f. record (up s) { regs = with_reg s.regs 10 m; bytes = f; used = s.used + m }) (list_put_seen hidden b s.bytes at xs (λ j lt. all j (omega (arith, lt, length-take m (drop s.used input)))))))

  write_same : (s : State) → SeeAlike k l hidden s.pc → write_service (setting l levels input) (up s) ≡ up (write_service (setting k levels input) s)
  write_same s same =
      let m = write_count s in
      let at = reg s.regs 11 in
      chosen up (not (reg s.regs 10 == 1)) _ _ _ _ refl
      (chosen_if up (not (serves (reads_byte l s.pc) at m)) (not (serves (reads_byte k s.pc) at m)) _ _ _ _
      (ap (λ test. not (serves test at m)) same.reads) (λ _. refl)
      (λ may. ap (λ xs. record (up s) { regs = with_reg s.regs 10 m; output = s.output ++ xs }) (list_taken_seen hidden b s.bytes at m (served_bytes (reads_byte k s.pc) at m same.read_seen may))))

  served_same : (s : State) → SeeAlike k l hidden s.pc → served (setting l levels input) (up s) ≡ up (served (setting k levels input) s)
  unfolding served
  served_same s same =
      chosen up (reg s.regs 17 == 63) _ _ _ _ (read_same s same)
      (chosen up (reg s.regs 17 == 64) _ _ _ _ (write_same s same) refl)

  calls_same : (s : State) (i : Instr) → SeeAlike k l hidden s.pc → calls_service (setting l levels input) (up s) i ≡ upped (calls_service (setting k levels input) s i)
  calls_same s i same =
      chosen upped ((reg s.regs 17 == 93) || (reg s.regs 17 == 94)) _ _ _ _
      (ap (λ (keyed : Bool). let o : Outcome = record { end = Exited (step_by keyed s i false None s.pc) (reg s.regs 10 % 256); state = up s } in o) (same.right ∙ sym same.left))
      (goes_same s i false None (pc_after s) (record (served (setting k levels input) s) { pc = pc_after s }) _ same (ap (λ (t : State). record t { pc = pc_after s }) (served_same s same)))

  performs_same : (s : State) (i j : Instr) → SeeAlike k l hidden s.pc → performs (setting l levels input) (up s) i j ≡ upped (performs (setting k levels input) s i j)
  performs_same s i (Lui rd imm) same = sets_same s i rd _ _ same refl
  performs_same s i (Auipc rd imm) same = sets_same s i rd _ _ same refl
  performs_same s i (Jal rd offset) same = jumps_same s i rd _ same
  performs_same s i (Jalr rd rs1 offset) same = jumps_same s i rd _ same
  performs_same s i (Branch op rs1 rs2 offset) same = branches_same s i (is_taken op (reg s.regs rs1) (reg s.regs rs2)) (moved_by s.pc offset) same
  performs_same s i (Load op rd rs1 offset) same = loads_same s i op rd (moved_by (reg s.regs rs1) offset) same
  performs_same s i (Store op rs1 rs2 offset) same = stores_same s i op (moved_by (reg s.regs rs1) offset) (reg s.regs rs2) same
  performs_same s i (Imm op rd rs1 imm) same = sets_same s i rd _ _ same refl
  performs_same s i (Reg op rd rs1 rs2) same = sets_same s i rd _ _ same refl
  performs_same s i (Fence rd rs1 imm) same = passes_same s i same
  performs_same s i Ecall same = calls_same s i same
  performs_same s i Ebreak same = refl

  executes_same : (s : State) (o : Option Instr) → SeeAlike k l hidden s.pc → executes (setting l levels input) (up s) o ≡ upped (executes (setting k levels input) s o)
  executes_same s None same = refl
  executes_same s (Some i) same = performs_same s i i same

  -- the step of an instruction that may be fetched in both, and is the same
  pub step_alike : (s : State) → SeeAlike k l hidden s.pc → can_fetch k s.pc ≡ true → can_fetch l s.pc ≡ true → word_at (laid hidden b s.bytes) s.pc ≡ word_at s.bytes s.pc → step (setting l levels input) (up s) ≡ upped (step (setting k levels input) s)
  unfolding step
  step_alike s same one other word =
      cond-true (can_fetch l s.pc) _ _ other
      ∙ (ap (λ x. executes (setting l levels input) (up s) (instr_of x)) word
      ∙ (executes_same s (instr_of (word_at s.bytes s.pc)) same
      ∙ ap upped (sym (cond-true (can_fetch k s.pc) _ _ one))))
