-- One step of a run, priced and watched.
use Rattle.std.proofs.Common.{◌≡◌, ℕ, ◌+◌, ◌<◌, length, Option, Some, None, refl, ap, sym, ◌∙◌, subst}
use Rattle.scale_base.specs.declared.endings.End.{End}
use Rattle.scale_base.specs.declared.endings.End.TheVariants as endings
use Rattle.scale_base.specs.declared.stepping.Stepped.{Stepped}
use Rattle.scale_base.specs.declared.stepping.StepEnd.{StepEnd}
use Rattle.scale_base.specs.declared.stepping.StepEnd.TheVariants.{Went, Exited, Trapped}
use Rattle.scale_base.specs.State.{Setting, State}
use Rattle.scale_base.specs.Step.{Outcome, step, PortBelow}
use Rattle.scale_base.specs.Run.{run}
use Rattle.scale_base.proofs.Laws.{outcome}
use Rattle.power_model.specs.Numbers.{PowerModel, RunPrice}
use Rattle.power_model.specs.Price.{price}
use Rattle.rv_machine.specs.declared.code.Code.{Code}
use Rattle.rv_machine.specs.Code.{IsDecodedCode}
use Rattle.speed_sim.specs.Simulated.{run_end}
use Rattle.speed_sim.specs.Seen.{seen_after}
use Rattle.speed_sim.specs.Progress.{Job, Progress, seen_by}
use Rattle.speed_sim.specs.Tallied.{IsPaid, IsAdvance, ended_by}
use Rattle.speed_sim.proofs.CodeLaws.{code_kept}
use Rattle.speed_sim.proofs.ProgressLaws.{progress_went, over_exited, over_trapped}

-- from how the step ended
pub advanced : {W : Type 0} (power : PowerModel) (see : W → Stepped → W) (o : Outcome) (s : State) (end : StepEnd) (old new : RunPrice) (seen seen' : W) (ended : Option End) →
    outcome end s ≡ o → IsPaid power end old new → seen' ≡ seen_after see end seen → ended ≡ ended_by end → IsAdvance power see o s old new seen seen' ended
advanced power see o s end old new seen seen' ended is paid shown over =
    subst (λ (q : Outcome). IsAdvance power see q s old new seen seen' ended) is (record { state = refl; paid = paid; seen_is = shown; over = over })

pub port_of : (o : Outcome) (s : State) (end : StepEnd) (levels : ℕ) → outcome end s ≡ o → PortBelow end levels → PortBelow o.end levels
port_of o s end levels is below = subst (λ (q : Outcome). PortBelow q.end levels) is below

-- the run goes on
went_on : {W : Type 0} (job : Job W) (k : ℕ) (env : Setting) (now : State) (paid : RunPrice) (seen : W) (env' : Setting) (u : State) (paid' : RunPrice) (seen' : W)
    (end : StepEnd) → Progress job k env now paid seen → outcome end u ≡ step env now → env' ≡ env → PortBelow end (length job.power.levels) → IsPaid job.power end paid paid' →
    seen' ≡ seen_after job.see end seen → None ≡ ended_by end → Progress job (k + 1) env' u paid' seen'
went_on job k env now paid seen env' u paid' seen' (Went x) p e kept port more shown over =
    progress_went job k env now paid seen x env' u paid' seen' p e kept port more shown
went_on job k env now paid seen env' u paid' seen' (Exited x status) p e kept port more shown over = absurd cc
went_on job k env now paid seen env' u paid' seen' (Trapped trap) p e kept port more shown over = absurd cc

-- a step's end and the state behind it are what it leads to
both : (o : Outcome) (s : State) → s ≡ o.state → outcome o.end s ≡ o
both o s e = ap (outcome o.end) e

pub progress_on : {W : Type 0} (job : Job W) (k : ℕ) (env : Setting) (now : State) (paid : RunPrice) (seen : W) (env' : Setting) (u : State) (paid' : RunPrice) (seen' : W) →
    Progress job k env now paid seen → IsAdvance job.power job.see (step env now) u paid paid' seen seen' None → env' ≡ env → PortBelow (step env now).end (length job.power.levels) →
    Progress job (k + 1) env' u paid' seen'
progress_on job k env now paid seen env' u paid' seen' p a kept port =
    went_on job k env now paid seen env' u paid' seen' (step env now).end p (both (step env now) u a.state) kept port a.paid a.seen_is a.over

code_on : (env : Setting) (now : State) (env' : Setting) (u : State) (end : StepEnd) (code : Code) → outcome end u ≡ step env now → None ≡ ended_by end → env' ≡ env →
    IsDecodedCode env.layout now.bytes code → IsDecodedCode env'.layout u.bytes code
code_on env now env' u (Went x) code e over kept h = code_kept env now env' u x code e kept h
code_on env now env' u (Exited x status) code e over kept h = absurd cc
code_on env now env' u (Trapped trap) code e over kept h = absurd cc

pub code_still : {W : Type 0} (power : PowerModel) (see : W → Stepped → W) (env : Setting) (now : State) (paid : RunPrice) (seen : W) (env' : Setting) (u : State) (paid' : RunPrice) (seen' : W) (code : Code) →
    IsAdvance power see (step env now) u paid paid' seen seen' None → env' ≡ env → IsDecodedCode env.layout now.bytes code → IsDecodedCode env'.layout u.bytes code
code_still power see env now paid seen env' u paid' seen' code a kept h = code_on env now env' u (step env now).end code (both (step env now) u a.state) a.over kept h

-- the run has ended
pub record HasEnded {W : Type 0} (job : Job W) (n : ℕ) (end : End) (now : State) (paid : RunPrice) (seen : W) : Type 0 where
  pub end_is : end ≡ run_end (run job.env job.first n).standing
  pub state_is : now ≡ (run job.env job.first n).state
  pub paid_is : paid ≡ price job.power job.start (run job.env job.first n).steps
  pub seen_is : seen ≡ seen_by job n

ended : {W : Type 0} (job : Job W) (k n : ℕ) (env : Setting) (now : State) (paid : RunPrice) (seen : W) (u : State) (paid' : RunPrice) (seen' : W) (over : End)
    (end : StepEnd) → Progress job k env now paid seen → k < n → outcome end u ≡ step env now → IsPaid job.power end paid paid' →
    seen' ≡ seen_after job.see end seen → Some over ≡ ended_by end → HasEnded job n over u paid' seen'
ended job k n env now paid seen u paid' seen' over (Went x) p lt e more shown is = absurd cc
ended job k n env now paid seen u paid' seen' over (Exited x status) p lt e more shown is =
    let o = over_exited job k n env now paid seen x status u paid' p lt e more in
    let same : over ≡ endings.Exited status = cc in
    record { end_is = same ∙ ap run_end (sym o.standing_is); state_is = o.state_is; paid_is = o.paid_is; seen_is = shown ∙ o.seen_is }
ended job k n env now paid seen u paid' seen' over (Trapped trap) p lt e more shown is =
    let o = over_trapped job k n env now paid seen trap u p lt e in
    let same : over ≡ endings.Trapped trap = cc in
    record { end_is = same ∙ ap run_end (sym o.standing_is); state_is = o.state_is; paid_is = more ∙ o.paid_is; seen_is = shown ∙ o.seen_is }

pub progress_over : {W : Type 0} (job : Job W) (k n : ℕ) (env : Setting) (now : State) (paid : RunPrice) (seen : W) (u : State) (paid' : RunPrice) (seen' : W) (over : End) →
    Progress job k env now paid seen → k < n → IsAdvance job.power job.see (step env now) u paid paid' seen seen' (Some over) → HasEnded job n over u paid' seen'
progress_over job k n env now paid seen u paid' seen' over p lt a =
    ended job k n env now paid seen u paid' seen' over (step env now).end p lt (both (step env now) u a.state) a.paid a.seen_is a.over
