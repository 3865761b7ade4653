-- Without a keyed segment a run doesn't depend on how many levels a machine has, nor on the window.
use Rattle.std.proofs.Common.{◌≡◌, ℕ, zero, suc, ◌%◌, false, cond, List, [], ◌∷◌, Option, Some, None, refl, ap, sym, ◌∙◌, subst}
use Rattle.std.specs.Prelude.{◌==◌, ◌&&◌, not, option_map, IfSome}
use Rattle.std.proofs.lemmas.Bool.{cond-false}
use Rattle.scale_base.specs.declared.instruction.StoreOp.{StoreOp}
use Rattle.scale_base.specs.declared.instruction.Instr.{Instr}
use Rattle.scale_base.specs.declared.instruction.Instr.TheVariants.{Lui, Auipc, Jal, Jalr, Branch, Load, Store, Imm, Reg, Fence, Ecall, Ebreak}
use Rattle.scale_base.specs.declared.stepping.Move.{Move}
use Rattle.scale_base.specs.declared.stepping.Move.TheVariants.{Local, Call, Return}
use Rattle.scale_base.specs.declared.stepping.Stepped.{Stepped}
use Rattle.scale_base.specs.declared.stepping.StepEnd.{StepEnd}
use Rattle.scale_base.specs.declared.stepping.StepEnd.TheVariants.{Went, Exited, Trapped}
use Rattle.scale_base.specs.declared.stepping.TrapKind.TheVariants as traps
use Rattle.scale_base.specs.Reading.{instr_of}
use Rattle.scale_base.specs.declared.ranges.Keyed.{Keyed}
use Rattle.scale_base.specs.Image.{Image}
use Rattle.scale_base.specs.Layout.{Layout, can_fetch, can_write, in_option, in_window, is_keyed, uses_window, layout_of}
use Rattle.scale_base.specs.Arith.{store_width, stored}
use Rattle.scale_base.specs.State.{Setting, State, word_at, reg}
use Rattle.scale_base.specs.Service.{served}
use Rattle.scale_base.specs.Step.{Outcome, stepped, goes, pc_after, stops, stores, stores_word, performs, executes, step}
use Rattle.scale_base.specs.Run.{Run, Standing, GoesOn, HasExited, HasTrapped, ended, one_more_by, one_more, run, setting_of, start_of, run_of}
use Rattle.machine_laws.specs.Keys.{setting, with_empty_key, with_window, run_with_window}
use Rattle.machine_laws.proofs.Laws.{run_same}
use Rattle.bound_laws.specs.Values.{Values}
use Rattle.tidy_runs.specs.declared.activations.Broken.{Broken}
use Rattle.tidy_runs.specs.Looking.{IsBroken}
use Rattle.stack_laws.specs.Stacks.{Stacks}
use Rattle.stack_laws.specs.Tidy.{Activation, IsTidy, IsTidyStep, activations, activations_by, activations_behind, begun_at}

-- ---- the number of levels

-- no address lies in a keyed segment that is missing, and an instruction without the key sees no window
no_key : (l : Layout) (at : ℕ) → l.keyed ≡ None → is_keyed l at ≡ false
no_key l at none = ap (in_option at) none

no_window : (l : Layout) (pc at width : ℕ) → is_keyed l pc ≡ false → uses_window l pc at width ≡ false
no_window l pc at width e = ap (λ keyed. keyed && (width == 4) && in_window at) e

module _ (l : Layout) (keyless : l.keyed ≡ None) (k levels : ℕ) (input : List ℕ) where
  stores_same : (s : State) (i : Instr) (op : StoreOp) (at value : ℕ) → stores (setting l levels input) s i op at value ≡ stores (setting l k input) s i op at value
  stores_same s i op at value =
      let none : uses_window l s.pc at (store_width op) ≡ false = no_window l s.pc at (store_width op) (no_key l s.pc keyless) in
      let rest : Outcome = cond (can_write l at (store_width op))
      (goes (stepped (setting l k input) s i false None (pc_after s)) (record s { pc = pc_after s; bytes = stored op s.bytes at value })) (stops s traps.StoreFault at) in
      ap (λ (o : Outcome). cond (not (at % store_width op == 0)) (stops s traps.StoreMisaligned at) o)
      (cond-false (uses_window l s.pc at (store_width op)) (stores_word (setting l levels input) s i at value) rest none
      ∙ sym (cond-false (uses_window l s.pc at (store_width op)) (stores_word (setting l k input) s i at value) rest none))

  services_same : (s : State) (i : Instr) → performs (setting l levels input) s i Ecall ≡ performs (setting l k input) s i Ecall
  unfolding served
  services_same s i = refl

  performs_same : (s : State) (i j : Instr) → performs (setting l levels input) s i j ≡ performs (setting l k input) s i j
  performs_same s i (Lui rd imm) = refl
  performs_same s i (Auipc rd imm) = refl
  performs_same s i (Jal rd offset) = refl
  performs_same s i (Jalr rd rs1 offset) = refl
  performs_same s i (Branch op rs1 rs2 offset) = refl
  performs_same s i (Load op rd rs1 offset) = refl
  performs_same s i (Store op rs1 rs2 offset) = stores_same s i op _ (reg s.regs rs2)
  performs_same s i (Imm op rd rs1 imm) = refl
  performs_same s i (Reg op rd rs1 rs2) = refl
  performs_same s i (Fence rd rs1 imm) = refl
  performs_same s i Ecall = services_same s i
  performs_same s i Ebreak = refl

  executes_same : (s : State) (o : Option Instr) → executes (setting l levels input) s o ≡ executes (setting l k input) s o
  executes_same s None = refl
  executes_same s (Some i) = performs_same s i i

  step_same : (s : State) → step (setting l levels input) s ≡ step (setting l k input) s
  unfolding step
  step_same s = ap (λ (o : Outcome). cond (can_fetch l s.pc) o (stops s traps.FetchFault s.pc)) (executes_same s (instr_of (word_at s.bytes s.pc)))

  more_same : (r : Run) (standing : Standing) → one_more_by (setting l levels input) r standing ≡ one_more_by (setting l k input) r standing
  more_same r GoesOn = ap (λ (o : Outcome). ended r.steps o.end o.state) (step_same r.state)
  more_same r (HasExited status) = refl
  more_same r (HasTrapped trap) = refl

  runs_same : (s : State) (n : ℕ) → run (setting l levels input) s n ≡ run (setting l k input) s n
  unfolding run
  runs_same s zero = refl
  runs_same s (suc n) = ap (one_more (setting l levels input)) (runs_same s n) ∙ more_same (run (setting l k input) s n) (run (setting l k input) s n).standing

-- ---- the window

-- the same but for the window
abbrev AreAlike : State → State → Type 0
AreAlike s t = with_window s [] ≡ with_window t []

-- how the one step of a run ended
abbrev end_by : List Stepped → Standing → Option StepEnd
end_by [] GoesOn = None
end_by (x ∷ xs) GoesOn = Some (Went x)
end_by [] (HasExited status) = None
end_by (x ∷ xs) (HasExited status) = Some (Exited x status)
end_by xs (HasTrapped trap) = Some (Trapped trap)

end_is : (end : StepEnd) (t : State) → end_by (ended [] end t).steps (ended [] end t).standing ≡ Some end
end_is (Went x) t = refl
end_is (Exited x status) t = refl
end_is (Trapped trap) t = refl

state_is : (xs : List Stepped) (end : StepEnd) (t : State) → (ended xs end t).state ≡ t
state_is xs (Went x) t = refl
state_is xs (Exited x status) t = refl
state_is xs (Trapped trap) t = refl

some_same : (a b : StepEnd) → Some a ≡ Some b → a ≡ b
some_same a b e = cc

module _ (l : Layout) (keyless : l.keyed ≡ None) (k : ℕ) (input : List ℕ) where
  runs_alike : (s t : State) (n : ℕ) → AreAlike s t → run_with_window (run (setting l k input) s n) [] ≡ run_with_window (run (setting l k input) t n) []
  runs_alike s t n e =
      sym (run_same l 0 k input s [] n keyless) ∙ (ap (λ (u : State). run (setting (with_empty_key l 0) k input) u n) e ∙ run_same l 0 k input t [] n keyless)

  one_step : (s : State) → run (setting l k input) s 1 ≡ ended [] (step (setting l k input) s).end (step (setting l k input) s).state
  unfolding run
  one_step s = refl

  ends_alike : (s t : State) → AreAlike s t → (step (setting l k input) s).end ≡ (step (setting l k input) t).end
  ends_alike s t e =
      let o = step (setting l k input) s in
      let p = step (setting l k input) t in
      some_same o.end p.end
      (sym (end_is o.end o.state)
      ∙ (ap (λ (r : Run). end_by r.steps r.standing) (sym (one_step s))
      ∙ (ap (λ (r : Run). end_by r.steps r.standing) (runs_alike s t 1 e)
      ∙ (ap (λ (r : Run). end_by r.steps r.standing) (one_step t) ∙ end_is p.end p.state))))

  states_alike : (s t : State) → AreAlike s t → AreAlike (step (setting l k input) s).state (step (setting l k input) t).state
  states_alike s t e =
      let o = step (setting l k input) s in
      let p = step (setting l k input) t in
      let there : (u : State) → with_window (run (setting l k input) u 1).state [] ≡ with_window (step (setting l k input) u).state [] =
      λ u. ap (λ (r : Run). with_window r.state []) (one_step u) ∙ ap (λ (q : State). with_window q []) (state_is [] (step (setting l k input) u).end (step (setting l k input) u).state) in
      sym (there s) ∙ (ap (λ (r : Run). r.state) (runs_alike s t 1 e) ∙ there t)

  module _ (v : Values) where
    moved_alike : (ys : List Activation) (m : Move) (s t : State) → AreAlike s t → activations_by v ys m s ≡ activations_by v ys m t
    moved_alike ys Local s t e = refl
    moved_alike ys Call s t e = ap (λ (u : State). begun_at v u ∷ ys) e
    moved_alike ys Return s t e = refl

    behind_alike : (ys : List Activation) (end : StepEnd) (s t : State) → AreAlike s t → activations_behind v ys end s ≡ activations_behind v ys end t
    behind_alike ys (Went x) s t e = moved_alike ys x.moved s t e
    behind_alike ys (Exited x status) s t e = refl
    behind_alike ys (Trapped trap) s t e = refl

    active_alike : (s t : State) (n : ℕ) → AreAlike s t → activations v (setting l k input) s n ≡ activations v (setting l k input) t n
    unfolding activations
    active_alike s t zero e = ap (λ (u : State). begun_at v u ∷ []) e
    active_alike s t (suc n) e =
        let env = setting l k input in
        let a = (run env s n).state in
        let b = (run env t n).state in
        let here : AreAlike a b = ap (λ (r : Run). r.state) (runs_alike s t n e) in
        ap (λ (ys : List Activation). activations_behind v ys (step env a).end (step env a).state) (active_alike s t n e)
        ∙ (ap (λ (end : StepEnd). activations_behind v (activations v env t n) end (step env a).state) (ends_alike a b here)
        ∙ behind_alike (activations v env t n) (step env b).end (step env a).state (step env b).state (states_alike a b here))

-- ---- both

module _ (l : Layout) (keyless : l.keyed ≡ None) (k levels : ℕ) (input : List ℕ) where
  active_same : (v : Values) (s : State) (n : ℕ) → activations v (setting l levels input) s n ≡ activations v (setting l k input) s n
  unfolding activations
  active_same v s zero = refl
  active_same v s (suc n) =
      ap (λ (ys : List Activation). activations_behind v ys (step (setting l levels input) (run (setting l levels input) s n).state).end (step (setting l levels input) (run (setting l levels input) s n).state).state) (active_same v s n)
      ∙ (ap (λ (r : Run). activations_behind v (activations v (setting l k input) s n) (step (setting l levels input) r.state).end (step (setting l levels input) r.state).state) (runs_same l keyless k levels input s n)
      ∙ ap (λ (o : Outcome). activations_behind v (activations v (setting l k input) s n) o.end o.state) (step_same l keyless k levels input (run (setting l k input) s n).state))

  module _ (s t : State) (e : AreAlike s t) where
    -- a run at so many levels and one at others
    whole : (n : ℕ) → run_with_window (run (setting l levels input) t n) [] ≡ run_with_window (run (setting l k input) s n) []
    whole n = ap (λ (r : Run). run_with_window r []) (runs_same l keyless k levels input t n) ∙ sym (runs_alike l keyless k input s t n e)

    active_whole : (v : Values) (n : ℕ) → activations v (setting l levels input) t n ≡ activations v (setting l k input) s n
    active_whole v n = active_same v t n ∙ sym (active_alike l keyless k input v s t n e)

    pc_whole : (n : ℕ) → (run (setting l levels input) t n).state.pc ≡ (run (setting l k input) s n).state.pc
    pc_whole n = ap (λ (r : Run). r.state.pc) (whole n)

    tidy_whole : (v : Values) (w : Stacks) (n : ℕ) → IsTidy v w (setting l k input) s n → IsTidy v w (setting l levels input) t n
    tidy_whole v w n tidy m lt =
        let bytes : (j : ℕ) → (run (setting l k input) s j).state.bytes ≡ (run (setting l levels input) t j).state.bytes = λ j. ap (λ (r : Run). r.state.bytes) (sym (whole j)) in
        subst (λ (a : ℕ). IsTidyStep w a (activations v (setting l levels input) t m) (run (setting l levels input) t m).state.bytes (run (setting l levels input) t (suc m)).state.bytes) (sym (pc_whole m))
        (subst (λ (ys : List Activation). IsTidyStep w (run (setting l k input) s m).state.pc ys (run (setting l levels input) t m).state.bytes (run (setting l levels input) t (suc m)).state.bytes) (sym (active_whole v m))
        (subst (λ (before : ℕ → ℕ). IsTidyStep w (run (setting l k input) s m).state.pc (activations v (setting l k input) s m) before (run (setting l levels input) t (suc m)).state.bytes) (bytes m)
        (subst (λ (after : ℕ → ℕ). IsTidyStep w (run (setting l k input) s m).state.pc (activations v (setting l k input) s m) (run (setting l k input) s m).state.bytes after) (bytes (suc m)) (tidy m lt))))

-- ---- of an image

keyless_layout : (image : Image) → image.keyed_segment ≡ None → (layout_of image).keyed ≡ None
unfolding layout_of
keyless_layout image none = ap (option_map (λ (k : Keyed). k.range)) none

module _ (image : Image) (plain : image.keyed_segment ≡ None) (levels : ℕ) (input : List ℕ) where
  tidy_at_levels : (v : Values) (w : Stacks) (n : ℕ) → IsTidy v w (setting_of image 1 input) (start_of image 1) n → IsTidy v w (setting_of image levels input) (start_of image levels) n
  tidy_at_levels v w n tidy = tidy_whole (layout_of image) (keyless_layout image plain) 1 levels input (start_of image 1) (start_of image levels) refl v w n tidy

  pc_at_levels : (n : ℕ) → (run (setting_of image 1 input) (start_of image 1) n).state.pc ≡ (run_of image levels input n).state.pc
  unfolding run_of
  pc_at_levels n = sym (pc_whole (layout_of image) (keyless_layout image plain) 1 levels input (start_of image 1) (start_of image levels) refl n)

  -- as the run of a machine that stands as the image does before its first step
  module _ (env : Setting) (s : State) (setting_is : env ≡ setting_of image 1 input) (state_here : s ≡ start_of image 1) where
    pub tidy_from : (v : Values) (w : Stacks) (n : ℕ) → IsTidy v w env s n → IsTidy v w (setting_of image levels input) (start_of image levels) n
    tidy_from v w n tidy = tidy_at_levels v w n (subst (λ (e : Setting). IsTidy v w e (start_of image 1) n) setting_is (subst (λ (u : State). IsTidy v w env u n) state_here tidy))

    pc_from : (n : ℕ) → (run env s n).state.pc ≡ (run_of image levels input n).state.pc
    pc_from n = ap (λ (e : Setting). (run e s n).state.pc) setting_is ∙ (ap (λ (u : State). (run (setting_of image 1 input) u n).state.pc) state_here ∙ pc_at_levels n)

    pub broken_from : (w : Stacks) (n : ℕ) (broken : Option Broken) → IfSome broken (IsBroken w (run env s n).state.pc) → IfSome broken (IsBroken w (run_of image levels input n).state.pc)
    broken_from w n broken h = subst (λ (a : ℕ). IfSome broken (IsBroken w a)) (pc_from n) h
