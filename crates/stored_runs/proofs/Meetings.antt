-- Steps of the text along a run.
use Rattle.std.proofs.Common.{◌≡◌, ℕ, zero, suc, ◌+◌, ◌-◌, ◌%◌, ◌<◌, ◌≤◌, Bool, false, cond, not, List, [], ◌∷◌, length, length-append, refl, sym, ap, ◌∙◌, subst, arith, Option, Some, None, inl, inr}
use Rattle.std.specs.Prelude.{◌==◌, ◌||◌, nat_lt}
use Rattle.std.proofs.lemmas.Bool.{cond_both, cases_lt}
use Rattle.scale_base.specs.declared.instruction.LoadOp.{LoadOp}
use Rattle.scale_base.specs.declared.instruction.StoreOp.{StoreOp}
use Rattle.scale_base.specs.declared.instruction.Instr.{Instr}
use Rattle.scale_base.specs.declared.instruction.Instr.TheVariants.{Lui, Auipc, Jal, Jalr, Branch, Load, Store, Imm, Reg, Fence, Ecall, Ebreak}
use Rattle.scale_base.specs.declared.stepping.Stepped.{Stepped}
use Rattle.scale_base.specs.declared.stepping.StepEnd.{StepEnd}
use Rattle.scale_base.specs.declared.stepping.StepEnd.TheVariants.{Went, Exited, Trapped}
use Rattle.scale_base.specs.Reading.{instr_of}
use Rattle.scale_base.specs.Layout.{is_keyed, can_fetch, can_read, can_write, uses_window}
use Rattle.scale_base.specs.Arith.{load_width, store_width, is_taken, moved_by}
use Rattle.scale_base.specs.State.{Setting, State, reg, word_at}
use Rattle.scale_base.specs.Step.{Outcome, jumps, branches, loads, stores_word, stores, performs, executes, window_index, port_index, step}
use Rattle.scale_base.specs.Run.{Run, Standing, GoesOn, HasExited, HasTrapped, ended, one_more_by, one_more, run}
use Rattle.stored_runs.specs.Laws.{text_steps, MeetingsAreOnce}
use Rattle.stored_runs.proofs.LegLaws.{filter_append}

-- ---- where a step was fetched

abbrev TellsKey : Bool → StepEnd → Type 0
TellsKey keyed (Went x) = x.keyed ≡ keyed
TellsKey keyed (Exited x status) = x.keyed ≡ keyed
TellsKey keyed (Trapped trap) = Unit {0}

module _ (env : Setting) where
  abbrev Tells : State → Outcome → Type 0
  Tells s o = TellsKey (is_keyed env.layout s.pc) o.end

  jumps_tell : (s : State) (i : Instr) (rd target : ℕ) → Tells s (jumps env s i rd target)
  jumps_tell s i rd target = cond_both (target % 4 == 0) _ _ (Tells s) (λ _. refl) (λ _. tt)

  branches_tell : (s : State) (i : Instr) (taken : Bool) (target : ℕ) → Tells s (branches env s i taken target)
  branches_tell s i taken target = cond_both taken _ _ (Tells s) (λ _. cond_both (target % 4 == 0) _ _ (Tells s) (λ _. refl) (λ _. tt)) (λ _. refl)

  loads_tell : (s : State) (i : Instr) (op : LoadOp) (rd at : ℕ) → Tells s (loads env s i op rd at)
  loads_tell s i op rd at =
      cond_both (not (at % load_width op == 0)) _ _ (Tells s) (λ _. tt)
      (λ _. cond_both (uses_window env.layout s.pc at (load_width op)) _ _ (Tells s) (λ _. refl)
      (λ _. cond_both (can_read env.layout s.pc at (load_width op)) _ _ (Tells s) (λ _. refl) (λ _. tt)))

  stores_word_tell : (s : State) (i : Instr) (at value : ℕ) → Tells s (stores_word env s i at value)
  stores_word_tell s i at value =
      cond_both (not (window_index at == port_index)) _ _ (Tells s) (λ _. refl) (λ _. cond_both (nat_lt value env.levels) _ _ (Tells s) (λ _. refl) (λ _. tt))

  stores_tell : (s : State) (i : Instr) (op : StoreOp) (at value : ℕ) → Tells s (stores env s i op at value)
  stores_tell s i op at value =
      cond_both (not (at % store_width op == 0)) _ _ (Tells s) (λ _. tt)
      (λ _. cond_both (uses_window env.layout s.pc at (store_width op)) _ _ (Tells s) (λ _. stores_word_tell s i at value)
      (λ _. cond_both (can_write env.layout at (store_width op)) _ _ (Tells s) (λ _. refl) (λ _. tt)))

  performs_tell : (s : State) (i j : Instr) → Tells s (performs env s i j)
  performs_tell s i (Lui rd imm) = refl
  performs_tell s i (Auipc rd imm) = refl
  performs_tell s i (Jal rd offset) = jumps_tell s i rd _
  performs_tell s i (Jalr rd rs1 offset) = jumps_tell s i rd _
  performs_tell s i (Branch op rs1 rs2 offset) = branches_tell s i (is_taken op (reg s.regs rs1) (reg s.regs rs2)) (moved_by s.pc offset)
  performs_tell s i (Load op rd rs1 offset) = loads_tell s i op rd _
  performs_tell s i (Store op rs1 rs2 offset) = stores_tell s i op _ _
  performs_tell s i (Imm op rd rs1 imm) = refl
  performs_tell s i (Reg op rd rs1 rs2) = refl
  performs_tell s i (Fence rd rs1 imm) = refl
  performs_tell s i Ecall = cond_both ((reg s.regs 17 == 93) || (reg s.regs 17 == 94)) _ _ (Tells s) (λ _. refl) (λ _. refl)
  performs_tell s i Ebreak = tt

  executes_tell : (s : State) (o : Option Instr) → Tells s (executes env s o)
  executes_tell s None = tt
  executes_tell s (Some i) = performs_tell s i i

  step_tells : (s : State) → TellsKey (is_keyed env.layout s.pc) (step env s).end
  unfolding step
  step_tells s = cond_both (can_fetch env.layout s.pc) _ _ (Tells s) (λ _. executes_tell s (instr_of (word_at s.bytes s.pc))) (λ _. tt)

  -- ---- along a run

  abbrev count : Run → ℕ
  count r = length (text_steps r.steps)

  -- a step more, from an address outside the key
  one_counts : (xs : List Stepped) (e : StepEnd) (t : State) (keyed : Bool) → TellsKey keyed e → keyed ≡ false → (ended xs e t).standing ≡ GoesOn → count (ended xs e t) ≡ length (text_steps xs) + 1
  one_counts xs (Went x) t keyed tells off goes =
      let text : x.keyed ≡ false = tells ∙ off in
      let last : length (text_steps (x ∷ [])) ≡ 1 = ap (λ b. length (cond (not b) (x ∷ []) [])) text in
      ap (λ (l : List Stepped). length l) (filter_append (λ y. not y.keyed) xs (x ∷ [])) ∙ (length-append (text_steps xs) (text_steps (x ∷ [])) ∙ ap (λ n. length (text_steps xs) + n) last)
  one_counts xs (Exited x status) t keyed tells off goes = let never : ⊥ = cc in absurd never
  one_counts xs (Trapped trap) t keyed tells off goes = let never : ⊥ = cc in absurd never

  ended_counts : (xs : List Stepped) (e : StepEnd) (t : State) → length (text_steps xs) ≤ count (ended xs e t)
  ended_counts xs (Went x) t = let sum = ap (λ (l : List Stepped). length l) (filter_append (λ y. not y.keyed) xs (x ∷ [])) ∙ length-append (text_steps xs) (text_steps (x ∷ [])) in omega (arith, sum)
  ended_counts xs (Exited x status) t = let sum = ap (λ (l : List Stepped). length l) (filter_append (λ y. not y.keyed) xs (x ∷ [])) ∙ length-append (text_steps xs) (text_steps (x ∷ [])) in omega (arith, sum)
  ended_counts xs (Trapped trap) t = omega arith

  more_counts : (r : Run) (st : Standing) → count r ≤ count (one_more_by env r st)
  more_counts r GoesOn = ended_counts r.steps (step env r.state).end (step env r.state).state
  more_counts r (HasExited status) = omega arith
  more_counts r (HasTrapped trap) = omega arith

  later_counts : (s : State) (i k : ℕ) → count (run env s i) ≤ count (run env s (k + i))
  unfolding run
  later_counts s i zero = let e : zero + i ≡ i = omega arith in subst (λ n. count (run env s i) ≤ count (run env s n)) (sym e) (omega arith)
  later_counts s i (suc k) =
      let e : suc k + i ≡ suc (k + i) = omega arith in
      let before = later_counts s i k in
      let step_more = more_counts (run env s (k + i)) (run env s (k + i)).standing in
      subst (λ n. count (run env s i) ≤ count (run env s n)) (sym e) (at_most (count (run env s i)) (count (run env s (k + i))) (count (one_more env (run env s (k + i)))) before step_more)
    where
      at_most : (a b c : ℕ) → a ≤ b → b ≤ c → a ≤ c
      at_most a b c h g = omega arith

  -- a run that goes on has gone on before
  went_before : (r : Run) (st : Standing) → r.standing ≡ st → (one_more_by env r st).standing ≡ GoesOn → r.standing ≡ GoesOn
  went_before r GoesOn e goes = e
  went_before r (HasExited status) e goes = goes
  went_before r (HasTrapped trap) e goes = goes

  goes_before : (s : State) (i k : ℕ) → (run env s (k + i)).standing ≡ GoesOn → (run env s i).standing ≡ GoesOn
  unfolding run
  goes_before s i zero goes = let e : zero + i ≡ i = omega arith in ap (λ n. (run env s n).standing) (sym e) ∙ goes
  goes_before s i (suc k) goes =
      let e : suc k + i ≡ suc (k + i) = omega arith in
      goes_before s i k (went_before (run env s (k + i)) (run env s (k + i)).standing refl (ap (λ n. (run env s n).standing) (sym e) ∙ goes))

  next_counts : (s : State) (i : ℕ) → (run env s i).standing ≡ GoesOn → (run env s (suc i)).standing ≡ GoesOn → is_keyed env.layout (run env s i).state.pc ≡ false → count (run env s (suc i)) ≡ count (run env s i) + 1
  unfolding run
  next_counts s i goes next off =
      let r = run env s i in
      let same : one_more env r ≡ ended r.steps (step env r.state).end (step env r.state).state = ap (one_more_by env r) goes in
      ap count same ∙ one_counts r.steps (step env r.state).end (step env r.state).state (is_keyed env.layout r.state.pc) (step_tells r.state) off (ap (λ (q : Run). q.standing) (sym same) ∙ next)

  below : (s : State) (i j : ℕ) → i < j → (run env s i).standing ≡ GoesOn → (run env s j).standing ≡ GoesOn → is_keyed env.layout (run env s i).state.pc ≡ false → count (run env s i) + 1 ≤ count (run env s j)
  below s i j lt goes later off =
      let e : (j - suc i) + suc i ≡ j = omega arith in
      let mid = goes_before s (suc i) (j - suc i) (ap (λ n. (run env s n).standing) e ∙ later) in
      let one = next_counts s i goes mid off in
      let more = subst (λ n. count (run env s (suc i)) ≤ count (run env s n)) e (later_counts s (suc i) (j - suc i)) in
      omega (arith, one, more)

pub meetings_once : MeetingsAreOnce
meetings_once = λ env s i j goes later off off_too same.
    elim (cases_lt i j) [
      | inl lt ↦ absurd (let more = below env s i j lt goes later off in omega (arith, more, same))
      | inr ge ↦ elim (cases_lt j i) [
        | inl lt ↦ absurd (let more = below env s j i lt later goes off_too in omega (arith, more, same))
        | inr le ↦ omega arith
      ]
    ]
