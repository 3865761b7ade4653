-- A run that is one step longer, and one that has ended.
use Rattle.std.proofs.Common.{zero-add, ◌≡◌, ℕ, zero, suc, ◌+◌, List, [], ◌∷◌, ◌++◌, refl, arith, add-one, sym, ◌∙◌, ap, ◌-◌, ◌<◌}
use Rattle.scale_base.specs.declared.stepping.Stepped.{Stepped}
use Rattle.scale_base.specs.declared.stepping.StepEnd.{StepEnd}
use Rattle.scale_base.specs.declared.stepping.StepEnd.TheVariants.{Went, Exited, Trapped}
use Rattle.scale_base.specs.declared.stepping.Trap.{Trap}
use Rattle.scale_base.specs.State.{Setting, State}
use Rattle.scale_base.specs.Step.{Outcome, step}
use Rattle.scale_base.specs.Run.{Run, GoesOn, HasExited, HasTrapped, begin, one_more, ended, run}

pub run_none : (env : Setting) (s : State) → run env s 0 ≡ begin s
unfolding run
run_none env s = refl

pub run_more : (env : Setting) (s : State) (n : ℕ) → run env s (n + 1) ≡ one_more env (run env s n)
unfolding run
run_more env s n = rw add-one refl

-- a run of a longer one's steps, where it goes on so far
pub run_step : (env : Setting) (s t : State) (n : ℕ) (xs : List Stepped) → run env s n ≡ record { steps = xs; state = t; standing = GoesOn } → run env s (n + 1) ≡ ended xs (step env t).end (step env t).state
run_step env s t n xs h = run_more env s n ∙ ap (one_more env) h

-- a run that has ended stays as it is
pub run_stays : (env : Setting) (s : State) (m n : ℕ) → one_more env (run env s m) ≡ run env s m → run env s (n + m) ≡ run env s m
run_stays env s m zero h = ap (run env s) (zero-add m)
run_stays env s m (suc n) h =
    let e : suc n + m ≡ (n + m) + 1 = omega arith in
    ap (run env s) e ∙ (run_more env s (n + m) ∙ (ap (one_more env) (run_stays env s m n h) ∙ h))

-- a run that goes on, after these steps, in this state
abbrev pub going : List Stepped → State → Run
going xs t = record { steps = xs; state = t; standing = GoesOn }

abbrev pub outcome : StepEnd → State → Outcome
outcome end t = record { end = end; state = t }

pub run_went : (env : Setting) (s t u : State) (k : ℕ) (xs : List Stepped) (x : Stepped) → run env s k ≡ going xs t → outcome (Went x) u ≡ step env t → run env s (k + 1) ≡ going (xs ++ x ∷ []) u
run_went env s t u k xs x h e = run_step env s t k xs h ∙ ap (λ o. ended xs o.end o.state) (sym e)

run_long : (env : Setting) (s : State) (k n : ℕ) (r : Run) → k < n → run env s (k + 1) ≡ r → one_more env r ≡ r → run env s n ≡ r
run_long env s k n r lt e h =
    let m : (n - (k + 1)) + (k + 1) ≡ n = omega arith in
    let stays : one_more env (run env s (k + 1)) ≡ run env s (k + 1) = ap (one_more env) e ∙ (h ∙ sym e) in
    ap (run env s) (sym m) ∙ (run_stays env s (k + 1) (n - (k + 1)) stays ∙ e)

pub run_exited : (env : Setting) (s t u : State) (k n : ℕ) (xs : List Stepped) (x : Stepped) (status : ℕ) → k < n → run env s k ≡ going xs t → outcome (Exited x status) u ≡ step env t → run env s n ≡ record { steps = xs ++ x ∷ []; state = u; standing = HasExited status }
run_exited env s t u k n xs x status lt h e =
    run_long env s k n _ lt (run_step env s t k xs h ∙ ap (λ o. ended xs o.end o.state) (sym e)) refl

pub run_trapped : (env : Setting) (s t u : State) (k n : ℕ) (xs : List Stepped) (trap : Trap) → k < n → run env s k ≡ going xs t → outcome (Trapped trap) u ≡ step env t → run env s n ≡ record { steps = xs; state = u; standing = HasTrapped trap }
run_trapped env s t u k n xs trap lt h e =
    run_long env s k n _ lt (run_step env s t k xs h ∙ ap (λ o. ended xs o.end o.state) (sym e)) refl
