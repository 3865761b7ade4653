-- What one completed step is: which instruction, where it goes on, and what it leaves as it was.
use Rattle.std.proofs.Common.{◌≡◌, ◌≢◌, ℕ, suc, ◌+◌, ◌<◌, ◌%◌, Bool, true, false, List, [], ◌∷◌, length, take, drop, refl, sym, ap, ◌∙◌, subst, arith, Option, Some, None, get_or-set_other, ◌⊎◌, inl, inr}
use Rattle.std.specs.Prelude.{◌==◌, ◌||◌, not, nat_lt, nat_le, min, ◌-◌, ◌^◌, slice_set}
use Rattle.std.proofs.lemmas.Bool.{cond_both, cond-true, cond-false, eqb-false, eqb-true, and_parts, not-true, not-false, both_ways}
use Rattle.std.proofs.lemmas.List.{length-take}
use Rattle.scale_base.specs.declared.instruction.LoadOp.{LoadOp}
use Rattle.scale_base.specs.declared.instruction.StoreOp.{StoreOp}
use Rattle.scale_base.specs.declared.instruction.StoreOp.TheVariants.{Sb, Sh, Sw}
use Rattle.scale_base.specs.declared.instruction.Instr.{Instr}
use Rattle.scale_base.specs.declared.instruction.Instr.TheVariants.{Lui, Auipc, Jal, Jalr, Branch, Load, Store, Imm, Reg, Fence, Ecall, Ebreak}
use Rattle.scale_base.specs.declared.stepping.Stepped.{Stepped}
use Rattle.scale_base.specs.declared.stepping.StepEnd.{StepEnd}
use Rattle.scale_base.specs.declared.stepping.StepEnd.TheVariants.{Went, Exited, Trapped}
use Rattle.scale_base.specs.declared.stepping.TrapKind.TheVariants as traps
use Rattle.scale_base.specs.Class.{class_of}
use Rattle.scale_base.specs.Reading.{instr_of}
use Rattle.scale_base.specs.Layout.{can_fetch, can_read, can_write, uses_window, may_write, reads_byte, each_byte}
use Rattle.scale_base.specs.Arith.{load_width, store_width, is_taken, moved_by, plus, stored}
use Rattle.scale_base.specs.State.{Setting, State, reg, with_reg, word_at, with_byte, with_list}
use Rattle.scale_base.specs.Service.{served, serves, read_count, write_count}
use Rattle.scale_base.specs.Step.{Outcome, move_of, stops, sets, passes, jumps, branches, loads, stores_word, stores, performs, executes, window_index, port_index, step}
use Rattle.scale_base.proofs.Laws.{each_byte_at}
use Rattle.code_text.specs.Text.{leaves17}

-- where the instruction goes on
abbrev pub WayOf : Instr → Bool → State → ℕ → Type 0
WayOf (Branch op rs1 rs2 offset) true s next = next ≡ moved_by s.pc offset
WayOf (Branch op rs1 rs2 offset) false s next = next ≡ plus s.pc 4
WayOf (Jal rd offset) taken s next = next ≡ moved_by s.pc offset
WayOf (Jalr rd rs1 offset) taken s next = Unit {0}
WayOf Ecall taken s next = (next ≡ plus s.pc 4) × (((reg s.regs 17 == 93) || (reg s.regs 17 == 94)) ≡ false)
WayOf Ebreak taken s next = ⊥
WayOf i taken s next = next ≡ plus s.pc 4

pub record IsStep (i : Instr) (s : State) (x : Stepped) (u : State) : Type 0 where
  pub at : x.pc ≡ s.pc
  pub next : u.pc ≡ x.next
  pub moved : x.moved ≡ move_of i
  pub taken : Bool
  pub class : x.class ≡ class_of i taken
  pub way : WayOf i taken s x.next

pub record IsExit (i : Instr) (s : State) (x : Stepped) : Type 0 where
  pub at : x.pc ≡ s.pc
  pub exits : i ≡ Ecall
  pub class : x.class ≡ class_of i false
  pub number : ((reg s.regs 17 == 93) || (reg s.regs 17 == 94)) ≡ true

-- what an end says of the instruction
abbrev pub EndsBy : Instr → State → StepEnd → State → Type 0
EndsBy i s (Went x) u = IsStep i s x u
EndsBy i s (Exited x status) u = IsExit i s x
EndsBy i s (Trapped trap) u = Unit {0}

abbrev EndsAs : Instr → State → Outcome → Type 0
EndsAs i s o = EndsBy i s o.end o.state

sets_so : (env : Setting) (s : State) (i : Instr) (rd value : ℕ) → WayOf i false s (plus s.pc 4) → EndsAs i s (sets env s i rd value)
sets_so env s i rd value way = record { at = refl; next = refl; moved = refl; taken = false; class = refl; way = way }

passes_so : (env : Setting) (s : State) (i : Instr) → WayOf i false s (plus s.pc 4) → EndsAs i s (passes env s i)
passes_so env s i way = record { at = refl; next = refl; moved = refl; taken = false; class = refl; way = way }

jumps_so : (env : Setting) (s : State) (i : Instr) (rd target : ℕ) → WayOf i false s target → EndsAs i s (jumps env s i rd target)
jumps_so env s i rd target way = cond_both (target % 4 == 0) _ _ (EndsAs i s)
    (λ _. record { at = refl; next = refl; moved = refl; taken = false; class = refl; way = way }) (λ _. tt)

branches_so : (env : Setting) (s : State) (i : Instr) (taken : Bool) (target : ℕ) → WayOf i true s target → WayOf i false s (plus s.pc 4) → EndsAs i s (branches env s i taken target)
branches_so env s i taken target yes_way no_way = cond_both taken _ _ (EndsAs i s)
    (λ _. cond_both (target % 4 == 0) _ _ (EndsAs i s)
    (λ _. record { at = refl; next = refl; moved = refl; taken = true; class = refl; way = yes_way }) (λ _. tt))
    (λ _. record { at = refl; next = refl; moved = refl; taken = false; class = refl; way = no_way })

loads_so : (env : Setting) (s : State) (i : Instr) (op : LoadOp) (rd at : ℕ) → WayOf i false s (plus s.pc 4) → EndsAs i s (loads env s i op rd at)
loads_so env s i op rd at way =
    cond_both (not (at % load_width op == 0)) _ _ (EndsAs i s) (λ _. tt)
    (λ _. cond_both (uses_window env.layout s.pc at (load_width op)) _ _ (EndsAs i s) (λ _. sets_so env s i rd _ way)
    (λ _. cond_both (can_read env.layout s.pc at (load_width op)) _ _ (EndsAs i s) (λ _. sets_so env s i rd _ way) (λ _. tt)))

stores_word_so : (env : Setting) (s : State) (i : Instr) (at value : ℕ) → WayOf i false s (plus s.pc 4) → EndsAs i s (stores_word env s i at value)
stores_word_so env s i at value way =
    cond_both (not (window_index at == port_index)) _ _ (EndsAs i s) (λ _. record { at = refl; next = refl; moved = refl; taken = false; class = refl; way = way })
    (λ _. cond_both (nat_lt value env.levels) _ _ (EndsAs i s) (λ _. record { at = refl; next = refl; moved = refl; taken = false; class = refl; way = way }) (λ _. tt))

stores_so : (env : Setting) (s : State) (i : Instr) (op : StoreOp) (at value : ℕ) → WayOf i false s (plus s.pc 4) → EndsAs i s (stores env s i op at value)
stores_so env s i op at value way =
    cond_both (not (at % store_width op == 0)) _ _ (EndsAs i s) (λ _. tt)
    (λ _. cond_both (uses_window env.layout s.pc at (store_width op)) _ _ (EndsAs i s) (λ _. stores_word_so env s i at value way)
    (λ _. cond_both (can_write env.layout at (store_width op)) _ _ (EndsAs i s) (λ _. record { at = refl; next = refl; moved = refl; taken = false; class = refl; way = way }) (λ _. tt)))

performs_so : (env : Setting) (s : State) (i : Instr) → EndsAs i s (performs env s i i)
performs_so env s (Lui rd imm) = sets_so env s (Lui rd imm) rd _ refl
performs_so env s (Auipc rd imm) = sets_so env s (Auipc rd imm) rd _ refl
performs_so env s (Jal rd offset) = jumps_so env s (Jal rd offset) rd _ refl
performs_so env s (Jalr rd rs1 offset) = jumps_so env s (Jalr rd rs1 offset) rd _ tt
performs_so env s (Branch op rs1 rs2 offset) = branches_so env s (Branch op rs1 rs2 offset) (is_taken op (reg s.regs rs1) (reg s.regs rs2)) (moved_by s.pc offset) refl refl
performs_so env s (Load op rd rs1 offset) = loads_so env s (Load op rd rs1 offset) op rd _ refl
performs_so env s (Store op rs1 rs2 offset) = stores_so env s (Store op rs1 rs2 offset) op _ _ refl
performs_so env s (Imm op rd rs1 imm) = sets_so env s (Imm op rd rs1 imm) rd _ refl
performs_so env s (Reg op rd rs1 rs2) = sets_so env s (Reg op rd rs1 rs2) rd _ refl
performs_so env s (Fence rd rs1 imm) = passes_so env s (Fence rd rs1 imm) refl
performs_so env s Ecall = cond_both ((reg s.regs 17 == 93) || (reg s.regs 17 == 94)) _ _ (EndsAs Ecall s)
    (λ h. record { at = refl; exits = refl; class = refl; number = h })
    (λ h. record { at = refl; next = refl; moved = refl; taken = false; class = refl; way = (refl, h) })
performs_so env s Ebreak = tt

-- ---- what a step leaves as it was

-- the bytes that may not be written
abbrev KeepsBytes : Setting → State → Outcome → Type 0
KeepsBytes env s o = (a : ℕ) → may_write env.layout a ≡ false → o.state.bytes a ≡ s.bytes a

byte_other : (bytes : ℕ → ℕ) (at value a : ℕ) → a ≢ at → with_byte bytes at value a ≡ bytes a
unfolding with_byte
byte_other bytes at value a ne = cond_both (a == at) value (bytes a) (λ x. x ≡ bytes a) (λ e. absurd (ne (eqb-true a at e))) (λ _. refl)

apart : (test : ℕ → Bool) (at n a k : ℕ) → each_byte test at n ≡ true → test a ≡ false → k < n → a ≢ at + k
apart test at n a k all none lt e = both_ways (test a) none (ap test e ∙ each_byte_at test at k n lt all)

stored_other : (test : ℕ → Bool) (op : StoreOp) (bytes : ℕ → ℕ) (at value a : ℕ) → each_byte test at (store_width op) ≡ true → test a ≡ false → stored op bytes at value a ≡ bytes a
stored_other test Sb bytes at value a all none =
    let n0 : a ≢ at + 0 = apart test at 1 a 0 all none (omega arith) in
    let m0 : a ≢ at = omega arith in byte_other bytes at _ a m0
stored_other test Sh bytes at value a all none =
    let n0 : a ≢ at + 0 = apart test at 2 a 0 all none (omega arith) in
    let m0 : a ≢ at = omega arith in
    let m1 : a ≢ at + 1 = apart test at 2 a 1 all none (omega arith) in
    byte_other _ (at + 1) _ a m1 ∙ byte_other bytes at _ a m0
stored_other test Sw bytes at value a all none =
    let n0 : a ≢ at + 0 = apart test at 4 a 0 all none (omega arith) in
    let m0 : a ≢ at = omega arith in
    let m1 : a ≢ at + 1 = apart test at 4 a 1 all none (omega arith) in
    let m2 : a ≢ at + 2 = apart test at 4 a 2 all none (omega arith) in
    let m3 : a ≢ at + 3 = apart test at 4 a 3 all none (omega arith) in
    byte_other _ (at + 3) _ a m3 ∙ (byte_other _ (at + 2) _ a m2 ∙ (byte_other _ (at + 1) _ a m1 ∙ byte_other bytes at _ a m0))

list_other : (bytes : ℕ → ℕ) (at : ℕ) (xs : List ℕ) (a : ℕ) → ((k : ℕ) → k < length xs → a ≢ at + k) → with_list bytes at xs a ≡ bytes a
unfolding with_list
list_other bytes at [] a apart = refl
list_other bytes at (x ∷ xs) a apart =
    let n0 : a ≢ at + 0 = apart 0 (omega arith) in
    let m0 : a ≢ at = omega arith in
    list_other (with_byte bytes at x) (at + 1) xs a (λ k lt. let ne : a ≢ at + suc k = apart (suc k) (omega arith) in let r : a ≢ (at + 1) + k = omega arith in r)
    ∙ byte_other bytes at x a m0

stores_keeps : (env : Setting) (s : State) (i : Instr) (op : StoreOp) (at value : ℕ) → KeepsBytes env s (stores env s i op at value)
stores_keeps env s i op at value =
    cond_both (not (at % store_width op == 0)) _ _ (KeepsBytes env s) (λ _ a h. refl)
    (λ _. cond_both (uses_window env.layout s.pc at (store_width op)) _ _ (KeepsBytes env s)
    (λ _. cond_both (not (window_index at == port_index)) _ _ (KeepsBytes env s) (λ _ a h. refl)
    (λ _. cond_both (nat_lt value env.levels) _ _ (KeepsBytes env s) (λ _ a h. refl) (λ _ a h. refl)))
    (λ _. cond_both (can_write env.layout at (store_width op)) _ _ (KeepsBytes env s)
    (λ w a h. stored_other (may_write env.layout) op s.bytes at value a w h) (λ _ a h. refl)))

served_keeps : (env : Setting) (s : State) (a : ℕ) → may_write env.layout a ≡ false → (served env s).bytes a ≡ s.bytes a
unfolding served
served_keeps env s a none =
    let P : State → Type 0 = λ t. t.bytes a ≡ s.bytes a in
    cond_both (reg s.regs 17 == 63) _ _ P
    (λ _. cond_both (not (reg s.regs 10 == 0)) _ _ P (λ _. refl)
    (λ _. cond_both (not (serves (may_write env.layout) (reg s.regs 11) (read_count env s))) _ _ P (λ _. refl)
    (λ bad. let ok : (nat_le (reg s.regs 11 + read_count env s) (2 ^ 32) ≡ true) × (each_byte (may_write env.layout) (reg s.regs 11) (read_count env s) ≡ true) = and_parts _ _ (not-false (serves (may_write env.layout) (reg s.regs 11) (read_count env s)) bad) in
    list_other s.bytes (reg s.regs 11) (take (read_count env s) (drop s.used env.input)) a
    (λ k lt. let size : length (take (read_count env s) (drop s.used env.input)) ≡ min (read_count env s) (length (drop s.used env.input)) = length-take (read_count env s) (drop s.used env.input) in
    let low : k < read_count env s = omega arith in
    apart (may_write env.layout) (reg s.regs 11) (read_count env s) a k ok.1 none low))))
    (λ _. cond_both (reg s.regs 17 == 64) _ _ P
    (λ _. cond_both (not (reg s.regs 10 == 1)) _ _ P (λ _. refl)
    (λ _. cond_both (not (serves (reads_byte env.layout s.pc) (reg s.regs 11) (write_count s))) _ _ P (λ _. refl) (λ _. refl)))
    (λ _. refl))

loads_keeps : (env : Setting) (s : State) (i : Instr) (op : LoadOp) (rd at : ℕ) → KeepsBytes env s (loads env s i op rd at)
loads_keeps env s i op rd at =
    cond_both (not (at % load_width op == 0)) _ _ (KeepsBytes env s) (λ _ a h. refl)
    (λ _. cond_both (uses_window env.layout s.pc at (load_width op)) _ _ (KeepsBytes env s) (λ _ a h. refl)
    (λ _. cond_both (can_read env.layout s.pc at (load_width op)) _ _ (KeepsBytes env s) (λ _ a h. refl) (λ _ a h. refl)))

performs_keeps : (env : Setting) (s : State) (i j : Instr) → KeepsBytes env s (performs env s i j)
performs_keeps env s i (Lui rd imm) = λ a h. refl
performs_keeps env s i (Auipc rd imm) = λ a h. refl
performs_keeps env s i (Jal rd offset) = cond_both (moved_by s.pc offset % 4 == 0) _ _ (KeepsBytes env s) (λ _ a h. refl) (λ _ a h. refl)
performs_keeps env s i (Jalr rd rs1 offset) = cond_both ((moved_by (reg s.regs rs1) offset - moved_by (reg s.regs rs1) offset % 2) % 4 == 0) _ _ (KeepsBytes env s) (λ _ a h. refl) (λ _ a h. refl)
performs_keeps env s i (Branch op rs1 rs2 offset) = cond_both (is_taken op (reg s.regs rs1) (reg s.regs rs2)) _ _ (KeepsBytes env s) (λ _. cond_both (moved_by s.pc offset % 4 == 0) _ _ (KeepsBytes env s) (λ _ a h. refl) (λ _ a h. refl)) (λ _ a h. refl)
performs_keeps env s i (Load op rd rs1 offset) = loads_keeps env s i op rd _
performs_keeps env s i (Store op rs1 rs2 offset) = stores_keeps env s i op _ _
performs_keeps env s i (Imm op rd rs1 imm) = λ a h. refl
performs_keeps env s i (Reg op rd rs1 rs2) = λ a h. refl
performs_keeps env s i (Fence rd rs1 imm) = λ a h. refl
performs_keeps env s i Ecall = cond_both ((reg s.regs 17 == 93) || (reg s.regs 17 == 94)) _ _ (KeepsBytes env s) (λ _ a h. refl) (λ _ a h. served_keeps env s a h)
performs_keeps env s i Ebreak = λ a h. refl

-- x17, by an instruction that leaves it as it is
abbrev Keeps17 : State → Outcome → Type 0
Keeps17 s o = reg o.state.regs 17 ≡ reg s.regs 17

reg_other : (regs : List ℕ) (r value : ℕ) → not (r == 17) ≡ true → reg (with_reg regs r value) 17 ≡ reg regs 17
reg_other regs r value h =
    cond_both (r == 0) regs (slice_set regs r value) (λ xs. reg xs 17 ≡ reg regs 17) (λ _. refl)
    (λ _. let ne = eqb-false r 17 (not-true (r == 17) h) in get_or-set_other regs r 17 value 0 (λ z. ne (sym z)))

loads_17 : (env : Setting) (s : State) (i : Instr) (op : LoadOp) (rd at : ℕ) → not (rd == 17) ≡ true → Keeps17 s (loads env s i op rd at)
loads_17 env s i op rd at h =
    cond_both (not (at % load_width op == 0)) _ _ (Keeps17 s) (λ _. refl)
    (λ _. cond_both (uses_window env.layout s.pc at (load_width op)) _ _ (Keeps17 s) (λ _. reg_other s.regs rd _ h)
    (λ _. cond_both (can_read env.layout s.pc at (load_width op)) _ _ (Keeps17 s) (λ _. reg_other s.regs rd _ h) (λ _. refl)))

stores_17 : (env : Setting) (s : State) (i : Instr) (op : StoreOp) (at value : ℕ) → Keeps17 s (stores env s i op at value)
stores_17 env s i op at value =
    cond_both (not (at % store_width op == 0)) _ _ (Keeps17 s) (λ _. refl)
    (λ _. cond_both (uses_window env.layout s.pc at (store_width op)) _ _ (Keeps17 s)
    (λ _. cond_both (not (window_index at == port_index)) _ _ (Keeps17 s) (λ _. refl)
    (λ _. cond_both (nat_lt value env.levels) _ _ (Keeps17 s) (λ _. refl) (λ _. refl)))
    (λ _. cond_both (can_write env.layout at (store_width op)) _ _ (Keeps17 s) (λ _. refl) (λ _. refl)))

performs_17 : (env : Setting) (s : State) (i j : Instr) → leaves17 j ≡ true → Keeps17 s (performs env s i j)
performs_17 env s i (Lui rd imm) h = reg_other s.regs rd _ h
performs_17 env s i (Auipc rd imm) h = reg_other s.regs rd _ h
performs_17 env s i (Jal rd offset) h = let bad : ⊥ = cc in absurd bad
performs_17 env s i (Jalr rd rs1 offset) h = let bad : ⊥ = cc in absurd bad
performs_17 env s i (Branch op rs1 rs2 offset) h = let bad : ⊥ = cc in absurd bad
performs_17 env s i (Load op rd rs1 offset) h = loads_17 env s i op rd _ h
performs_17 env s i (Store op rs1 rs2 offset) h = stores_17 env s i op _ _
performs_17 env s i (Imm op rd rs1 imm) h = reg_other s.regs rd _ h
performs_17 env s i (Reg op rd rs1 rs2) h = reg_other s.regs rd _ h
performs_17 env s i (Fence rd rs1 imm) h = refl
performs_17 env s i Ecall h = let bad : ⊥ = cc in absurd bad
performs_17 env s i Ebreak h = let bad : ⊥ = cc in absurd bad

-- ---- one step

-- a step that does not trap is that of the instruction at its pc
pub record IsDone (env : Setting) (s : State) (i : Instr) (end : StepEnd) (u : State) : Type 0 where
  pub instr : instr_of (word_at s.bytes s.pc) ≡ Some i
  pub is : step env s ≡ performs env s i i
  pub ends : EndsBy i s end u
  pub bytes : (a : ℕ) → may_write env.layout a ≡ false → u.bytes a ≡ s.bytes a
  pub leaves : leaves17 i ≡ true → reg u.regs 17 ≡ reg s.regs 17

abbrev pub IsTrap : StepEnd → Type 0
IsTrap (Went x) = ⊥
IsTrap (Exited x status) = ⊥
IsTrap (Trapped trap) = Unit {0}

step_not : (env : Setting) (s : State) → can_fetch env.layout s.pc ≡ false → step env s ≡ stops s traps.FetchFault s.pc
unfolding step
step_not env s h = cond-false (can_fetch env.layout s.pc) _ _ h

step_is : (env : Setting) (s : State) → can_fetch env.layout s.pc ≡ true → step env s ≡ executes env s (instr_of (word_at s.bytes s.pc))
unfolding step
step_is env s h = cond-true (can_fetch env.layout s.pc) _ _ h

pub step_done : (env : Setting) (s : State) → IsTrap (step env s).end ⊎ ((i : Instr) × IsDone env s i (step env s).end (step env s).state)
step_done env s = by_fetch (can_fetch env.layout s.pc) refl
  where
    performed : (i : Instr) → instr_of (word_at s.bytes s.pc) ≡ Some i → step env s ≡ performs env s i i → IsDone env s i (step env s).end (step env s).state
    performed i at is = record {
      instr = at;
      is = is;
      ends = subst (λ o. EndsAs i s o) (sym is) (performs_so env s i);
      bytes = subst (λ o. KeepsBytes env s o) (sym is) (performs_keeps env s i i);
      leaves = λ h. subst (λ o. Keeps17 s o) (sym is) (performs_17 env s i i h);
    }

    by_word : (o : Option Instr) → instr_of (word_at s.bytes s.pc) ≡ o → step env s ≡ executes env s o → IsTrap (step env s).end ⊎ ((i : Instr) × IsDone env s i (step env s).end (step env s).state)
    by_word None at is = inl (subst (λ o. IsTrap o.end) (sym is) tt)
    by_word (Some i) at is = inr (i, performed i at is)

    by_fetch : (b : Bool) → can_fetch env.layout s.pc ≡ b → IsTrap (step env s).end ⊎ ((i : Instr) × IsDone env s i (step env s).end (step env s).state)
    by_fetch false f = inl (subst (λ o. IsTrap o.end) (sym (step_not env s f)) tt)
    by_fetch true f = by_word (instr_of (word_at s.bytes s.pc)) refl (step_is env s f)
