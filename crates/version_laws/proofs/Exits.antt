-- A run that exits has fetched each word that its steps lead to, and the exit follows itself: so it stays outside the block.
use Rattle.std.proofs.Common.{◌≡◌, ℕ, zero, suc, ◌%◌, Bool, true, false, not, List, [], ◌∷◌, ◌++◌, Option, Some, None, refl, sym, ap, subst, ◌∙◌}
use Rattle.std.specs.Prelude.{All, ◌==◌, ◌||◌, nat_lt}
use Rattle.std.proofs.lemmas.Bool.{cond_both, cond-false}
use Rattle.std.proofs.lemmas.List.Elements.{All-nil, All-cons, All-append}
use Rattle.scale_base.specs.declared.instruction.LoadOp.{LoadOp}
use Rattle.scale_base.specs.declared.instruction.StoreOp.{StoreOp}
use Rattle.scale_base.specs.declared.instruction.Instr.{Instr}
use Rattle.scale_base.specs.declared.instruction.Instr.TheVariants.{Lui, Auipc, Jal, Jalr, Branch, Load, Store, Imm, Reg, Fence, Ecall, Ebreak}
use Rattle.scale_base.specs.declared.stepping.Stepped.{Stepped}
use Rattle.scale_base.specs.declared.stepping.Trap.{Trap}
use Rattle.scale_base.specs.declared.stepping.StepEnd.{StepEnd}
use Rattle.scale_base.specs.declared.stepping.StepEnd.TheVariants.{Went, Exited, Trapped}
use Rattle.scale_base.specs.declared.stepping.TrapKind.TheVariants as traps
use Rattle.scale_base.specs.Image.{Image}
use Rattle.scale_base.specs.Reading.{instr_of}
use Rattle.scale_base.specs.Layout.{layout_of, can_fetch, can_read, can_write, uses_window}
use Rattle.scale_base.specs.Arith.{load_width, store_width, is_taken, moved_by}
use Rattle.scale_base.specs.State.{Setting, State, reg, word_at}
use Rattle.scale_base.specs.Step.{Outcome, stepped, jumps, branches, loads, stores, calls_service, performs, executes, window_index, port_index, step}
use Rattle.scale_base.specs.Run.{Run, Standing, GoesOn, HasExited, HasTrapped, ended, one_more_by, run, run_of, setting_of, start_of}
use Rattle.graph_runs.proofs.Laws.{went_at}
use Rattle.loop_versions.specs.declared.pieces.Piece.{Piece}
use Rattle.loop_versions.specs.declared.pieces.Site.{Site}
use Rattle.loop_versions.specs.Follows.{in_block, StaysOutside, IsSoFar, FollowsVersioned}
use Rattle.version_laws.specs.Exits.{ExitedRunsStayOutside, ExitsAlike, VersionedRunsExit}
use Rattle.version_laws.proofs.Frame.{IsFrame}
use Rattle.version_laws.proofs.Legs as legs
use Rattle.version_laws.proofs.Law.{frame_of, runs_follow}

-- ---- the address behind an exit

module _ (env : Setting) (s : State) where
  abbrev NextIs : Outcome → Type 0
  NextIs o = (x : Stepped) (status : ℕ) → o.end ≡ Exited x status → x.next ≡ s.pc

  went : (y x : Stepped) (status : ℕ) → Went y ≡ Exited x status → x.next ≡ s.pc
  went y x status e = let never : ⊥ = cc in absurd never

  fell : (trap : Trap) (x : Stepped) (status : ℕ) → Trapped trap ≡ Exited x status → x.next ≡ s.pc
  fell trap x status e = let never : ⊥ = cc in absurd never

  left : (y x : Stepped) (one other : ℕ) → y.next ≡ s.pc → Exited y one ≡ Exited x other → x.next ≡ s.pc
  left y x one other is e = let same : y ≡ x = cc in sym (ap (λ (z : Stepped). z.next) same) ∙ is

  loads_next : (i : Instr) (op : LoadOp) (rd at : ℕ) → NextIs (loads env s i op rd at)
  loads_next i op rd at =
      cond_both (not (at % load_width op == 0)) _ _ NextIs (λ _. fell _)
      (λ _. cond_both (uses_window env.layout s.pc at (load_width op)) _ _ NextIs (λ _. went _)
      (λ _. cond_both (can_read env.layout s.pc at (load_width op)) _ _ NextIs (λ _. went _) (λ _. fell _)))

  stores_next : (i : Instr) (op : StoreOp) (at value : ℕ) → NextIs (stores env s i op at value)
  stores_next i op at value =
      cond_both (not (at % store_width op == 0)) _ _ NextIs (λ _. fell _)
      (λ _. cond_both (uses_window env.layout s.pc at (store_width op)) _ _ NextIs
      (λ _. cond_both (not (window_index at == port_index)) _ _ NextIs (λ _. went _)
      (λ _. cond_both (nat_lt value env.levels) _ _ NextIs (λ _. went _) (λ _. fell _)))
      (λ _. cond_both (can_write env.layout at (store_width op)) _ _ NextIs (λ _. went _) (λ _. fell _)))

  jumps_next : (i : Instr) (rd target : ℕ) → NextIs (jumps env s i rd target)
  jumps_next i rd target = cond_both (target % 4 == 0) _ _ NextIs (λ _. went _) (λ _. fell _)

  branches_next : (i : Instr) (taken : Bool) (target : ℕ) → NextIs (branches env s i taken target)
  branches_next i taken target = cond_both taken _ _ NextIs (λ _. cond_both (target % 4 == 0) _ _ NextIs (λ _. went _) (λ _. fell _)) (λ _. went _)

  calls_next : (i : Instr) → NextIs (calls_service env s i)
  calls_next i = cond_both ((reg s.regs 17 == 93) || (reg s.regs 17 == 94)) _ _ NextIs
      (λ _ x status e. left (stepped env s i false None s.pc) x (reg s.regs 10 % 256) status refl e) (λ _. went _)

  performs_next : (i j : Instr) → NextIs (performs env s i j)
  performs_next i (Lui rd imm) = went _
  performs_next i (Auipc rd imm) = went _
  performs_next i (Jal rd offset) = jumps_next i rd _
  performs_next i (Jalr rd rs1 offset) = jumps_next i rd _
  performs_next i (Branch op rs1 rs2 offset) = branches_next i (is_taken op (reg s.regs rs1) (reg s.regs rs2)) (moved_by s.pc offset)
  performs_next i (Load op rd rs1 offset) = loads_next i op rd _
  performs_next i (Store op rs1 rs2 offset) = stores_next i op _ _
  performs_next i (Imm op rd rs1 imm) = went _
  performs_next i (Reg op rd rs1 rs2) = went _
  performs_next i (Fence rd rs1 imm) = went _
  performs_next i Ecall = calls_next i
  performs_next i Ebreak = fell _

  executes_next : (o : Option Instr) → NextIs (executes env s o)
  executes_next None = fell _
  executes_next (Some i) = performs_next i i

  exit_next : NextIs (step env s)
  unfolding step
  exit_next = cond_both (can_fetch env.layout s.pc) _ _ NextIs (λ _. executes_next (instr_of (word_at s.bytes s.pc))) (λ _. fell _)

  -- a step that completes has been fetched
  not_fetched : can_fetch env.layout s.pc ≡ false → (step env s).end ≡ Trapped (record { kind = traps.FetchFault; at = s.pc })
  unfolding step
  not_fetched e = ap (λ (o : Outcome). o.end) (cond-false (can_fetch env.layout s.pc) _ _ e)

  went_fetched : (x : Stepped) → (step env s).end ≡ Went x → can_fetch env.layout s.pc ≡ true
  went_fetched x is = by (can_fetch env.layout s.pc) refl
    where
      by : (b : Bool) → can_fetch env.layout s.pc ≡ b → b ≡ true
      by true e = refl
      by false e = let off = not_fetched e in let never : ⊥ = cc in absurd never

  exit_fetched : (x : Stepped) (status : ℕ) → (step env s).end ≡ Exited x status → can_fetch env.layout s.pc ≡ true
  exit_fetched x status is = by (can_fetch env.layout s.pc) refl
    where
      by : (b : Bool) → can_fetch env.layout s.pc ≡ b → b ≡ true
      by true e = refl
      by false e = let off = not_fetched e in let never : ⊥ = cc in absurd never

-- ---- runs

module _ (image versioned : Image) (pieces : List Piece) (sites : List Site) (base levels : ℕ) (input : List ℕ) (f : IsFrame image versioned pieces sites base levels input) where
  abbrev one : Setting
  one = setting_of image levels input

  abbrev in_code : ℕ → Bool
  in_code v = in_block image versioned pieces sites base v

  abbrev IsOutside : Stepped → Type 0
  IsOutside x = in_code x.next ≡ false

  outside_here : (s : State) → can_fetch (layout_of image) s.pc ≡ true → in_code s.pc ≡ false
  outside_here s fetched = f.off_text s.pc (legs.fetched_word image versioned pieces sites base levels input f s.pc fetched)

  -- what is known of a run: its last step leads to where it stands
  record IsKnown (r : Run) : Type 0 where
    going : r.standing ≡ GoesOn → in_code r.state.pc ≡ false → All IsOutside r.steps
    exited : (status : ℕ) → r.standing ≡ HasExited status → All IsOutside r.steps

  with_last : (xs : List Stepped) (x : Stepped) → All IsOutside xs → IsOutside x → All IsOutside (xs ++ x ∷ [])
  with_last xs x all is = All-append IsOutside xs (x ∷ []) all (All-cons IsOutside x [] is (All-nil IsOutside))

  after : (xs : List Stepped) (e : StepEnd) (u : State) → ((x : Stepped) → e ≡ Went x → (u.pc ≡ x.next) × All IsOutside xs) → ((x : Stepped) (status : ℕ) → e ≡ Exited x status → IsOutside x × All IsOutside xs) → IsKnown (ended xs e u)
  after xs (Went x) u go exit = record {
    going = λ is off. let h = go x refl in with_last xs x h.1 (ap in_code (sym h.0) ∙ off);
    exited = λ status is. let never : ⊥ = cc in absurd never;
  }
  after xs (Exited x status) u go exit = record {
    going = λ is off. let never : ⊥ = cc in absurd never;
    exited = λ other is. let h = exit x status refl in with_last xs x h.1 h.0;
  }
  after xs (Trapped trap) u go exit = record {
    going = λ is off. let never : ⊥ = cc in absurd never;
    exited = λ status is. let never : ⊥ = cc in absurd never;
  }

  next_known : (r : Run) (standing : Standing) → r.standing ≡ standing → IsKnown r → IsKnown (one_more_by one r standing)
  next_known r GoesOn goes_on k = after r.steps (step one r.state).end (step one r.state).state
      (λ x is. (
        (went_at one r.state x is).1,
        k.going goes_on (outside_here r.state (went_fetched one r.state x is)),
      ))
      (λ x status is.
      let here = outside_here r.state (exit_fetched one r.state x status is) in
      (ap in_code (exit_next one r.state x status is) ∙ here, k.going goes_on here))
  next_known r (HasExited status) goes_on k = k
  next_known r (HasTrapped trap) goes_on k = k

  known : (n : ℕ) → IsKnown (run one (start_of image levels) n)
  unfolding run
  known zero = record { going = λ is off. All-nil IsOutside; exited = λ status is. let never : ⊥ = cc in absurd never }
  known (suc n) = let r = run one (start_of image levels) n in next_known r r.standing refl (known n)

  exited_outside : (n status : ℕ) → (run_of image levels input n).standing ≡ HasExited status → StaysOutside image versioned pieces sites base levels input n
  unfolding run_of
  exited_outside n status is = (known n).exited status is

-- ---- the laws

pub stay_outside : ExitedRunsStayOutside
stay_outside = λ image versioned pieces sites base levels input n status h is.
    exited_outside image versioned pieces sites base levels input (frame_of image versioned pieces sites base levels input h) n status is

exits_of : (image versioned : Image) (pieces : List Piece) (sites : List Site) (base status : ℕ) (raw own : Run) → raw.standing ≡ HasExited status → FollowsVersioned image versioned pieces sites base raw own → ExitsAlike image versioned pieces sites base status raw own
exits_of image versioned pieces sites base status raw own is follows =
    let so_far = subst (IsSoFar image versioned pieces sites base raw own) is follows.standing in
    record { standing = so_far.0; output = so_far.1; classes = follows.classes }

pub runs_exit : VersionedRunsExit
runs_exit = λ image versioned pieces sites base levels input n status h small back is.
    let outside = stay_outside image versioned pieces sites base levels input n status h is in
    let follows = runs_follow image versioned pieces sites base levels input n h small outside back in
    (follows.0, exits_of image versioned pieces sites base status (run_of image levels input n) (run_of versioned levels input follows.0) is follows.1)
