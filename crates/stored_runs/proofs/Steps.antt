-- One step of code that stands, and steps one after another.
use Rattle.std.proofs.Common.{zero-add, append_assoc, append-nil, length-append, ◌≡◌, ℕ, zero, suc, ◌+◌, List, [], ◌∷◌, ◌++◌, length, refl, arith, sym, ◌∙◌, ap}
use Rattle.std.proofs.lemmas.Bool.{cond-true}
use Rattle.scale_base.specs.declared.instruction.Instr.{Instr}
use Rattle.scale_base.specs.declared.stepping.Stepped.{Stepped}
use Rattle.scale_base.specs.declared.stepping.StepEnd.{StepEnd}
use Rattle.scale_base.specs.declared.stepping.StepEnd.TheVariants.{Went, Exited, Trapped}
use Rattle.scale_base.specs.Layout.{can_fetch}
use Rattle.scale_base.specs.State.{Setting, State, word_at}
use Rattle.scale_base.specs.Step.{step, goes, executes, performs}
use Rattle.scale_base.specs.Run.{Run, Standing, GoesOn, HasExited, HasTrapped, one_more, one_more_by, ended, run}
use Rattle.scale_base.proofs.Laws.{run_none, run_more, word_back}
use Rattle.stored_runs.specs.Meaning.{StandsAt, StepsLead}

-- the step of an instruction that stands at the pc
pub performed : (env : Setting) (s : State) (i : Instr) → StandsAt env s.bytes s.pc i → step env s ≡ performs env s i i
unfolding step
performed env s i h =
    cond-true (can_fetch env.layout s.pc) _ _ h.fetched ∙ ap (executes env s) (word_back (word_at s.bytes s.pc) i h.encodes)

-- a run that has one step before it
abbrev before : Stepped → Run → Run
before x r = record { steps = x ∷ r.steps; state = r.state; standing = r.standing }

ended_before : (x : Stepped) (xs : List Stepped) (end : StepEnd) (s : State) → ended (x ∷ xs) end s ≡ before x (ended xs end s)
ended_before x xs (Went y) s = refl
ended_before x xs (Exited y status) s = refl
ended_before x xs (Trapped trap) s = refl

more_before_by : (env : Setting) (x : Stepped) (r : Run) (standing : Standing) → one_more_by env (before x r) standing ≡ before x (one_more_by env r standing)
more_before_by env x r GoesOn = ended_before x r.steps (step env r.state).end (step env r.state).state
more_before_by env x r (HasExited status) = refl
more_before_by env x r (HasTrapped trap) = refl

-- the first step, and then the rest
pub run_first : (env : Setting) (s t : State) (x : Stepped) (n : ℕ) → step env s ≡ goes x t → run env s (suc n) ≡ before x (run env t n)
unfolding run
run_first env s t x zero e = ap (λ o. ended [] o.end o.state) e
run_first env s t x (suc n) e = ap (one_more env) (run_first env s t x n e) ∙ more_before_by env x (run env t n) (run env t n).standing

pub leads_none : (env : Setting) (s : State) → StepsLead env s [] s
leads_none env s = run_none env s

pub leads_first : (env : Setting) (s t u : State) (x : Stepped) (xs : List Stepped) → step env s ≡ goes x t → StepsLead env t xs u → StepsLead env s (x ∷ xs) u
leads_first env s t u x xs e h = run_first env s t x (length xs) e ∙ ap (before x) h

-- a run that has these steps before it
abbrev behind_steps : List Stepped → Run → Run
behind_steps xs r = record { steps = xs ++ r.steps; state = r.state; standing = r.standing }

ended_behind : (xs ys : List Stepped) (end : StepEnd) (s : State) → ended (xs ++ ys) end s ≡ behind_steps xs (ended ys end s)
ended_behind xs ys (Went y) s = ap (λ zs. record { steps = zs; state = s; standing = GoesOn }) (append_assoc xs ys (y ∷ []))
ended_behind xs ys (Exited y status) s = ap (λ zs. record { steps = zs; state = s; standing = HasExited status }) (append_assoc xs ys (y ∷ []))
ended_behind xs ys (Trapped trap) s = refl

more_behind_by : (env : Setting) (xs : List Stepped) (r : Run) (standing : Standing) → one_more_by env (behind_steps xs r) standing ≡ behind_steps xs (one_more_by env r standing)
more_behind_by env xs r GoesOn = ended_behind xs r.steps (step env r.state).end (step env r.state).state
more_behind_by env xs r (HasExited status) = refl
more_behind_by env xs r (HasTrapped trap) = refl

-- m steps, and then n further ones
pub run_on : (env : Setting) (s t : State) (m n : ℕ) (xs : List Stepped) → run env s m ≡ record { steps = xs; state = t; standing = GoesOn } → run env s (n + m) ≡ behind_steps xs (run env t n)
unfolding run
run_on env s t m zero xs g =
    ap (run env s) (zero-add m) ∙ (g ∙ ap (λ zs. record { steps = zs; state = t; standing = GoesOn }) (sym (append-nil xs)))
run_on env s t m (suc n) xs g =
    let e : suc n + m ≡ (n + m) + 1 = omega arith in
    ap (run env s) e ∙ (run_more env s (n + m) ∙ (ap (one_more env) (run_on env s t m n xs g) ∙ more_behind_by env xs (run env t n) (run env t n).standing))

-- steps, and then further ones
pub leads_on : (env : Setting) (s t u : State) (xs ys : List Stepped) → StepsLead env s xs t → StepsLead env t ys u → StepsLead env s (xs ++ ys) u
leads_on env s t u xs ys g h =
    let e : length (xs ++ ys) ≡ length ys + length xs = omega (arith, length-append xs ys) in
    ap (run env s) e ∙ (run_on env s t (length xs) (length ys) xs g ∙ ap (behind_steps xs) h)
