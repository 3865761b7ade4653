-- One step more of a machine's run, or its end.
use Rattle.std.proofs.Common.{◌≡◌, ℕ, ◌+◌, ◌<◌, [], ◌∷◌, ◌++◌, length, Option, Some, None, refl, sym, ◌∙◌, ap, subst}
use Rattle.std.specs.Prelude.{unwrap_or, IfSome}
use Rattle.scale_base.specs.declared.stepping.Stepped.{Stepped}
use Rattle.scale_base.specs.declared.stepping.StepEnd.{StepEnd}
use Rattle.scale_base.specs.declared.stepping.StepEnd.TheVariants.{Went, Exited, Trapped}
use Rattle.scale_base.specs.declared.stepping.Trap.{Trap}
use Rattle.scale_base.specs.State.{Setting, State}
use Rattle.scale_base.specs.Step.{step}
use Rattle.scale_base.specs.Run.{HasExited, HasTrapped, run}
use Rattle.scale_base.proofs.Laws.{run_none, run_went, run_exited, run_trapped, going, outcome}
use Rattle.power_model.specs.Numbers.{RunPrice}
use Rattle.power_model.specs.Price.{price, metered, unstarted}
use Rattle.power_model.proofs.Laws.{one_more}
use Rattle.speed_sim.specs.Progress.{Job, Progress, IsRunEnd}
use Rattle.speed_sim.specs.Seen.{seen_more}
use Rattle.speed_sim.proofs.SeenLaws.{seen_none, seen_step, seen_ended}

pub progress_first : {W : Type 0} (job : Job W) (paid : RunPrice) (seen : W) → job.start < length job.power.levels → paid ≡ unstarted job.start →
    seen ≡ job.unseen → Progress job 0 job.env job.first paid seen
progress_first job paid seen lt new same =
    let none = run_none job.env job.first in
    record {
      run_is = none ∙ ap (λ xs. going xs job.first) (sym (ap (λ r. r.steps) none));
      env_is = refl;
      paid_is = new ∙ ap (price job.power job.start) (sym (ap (λ r. r.steps) none));
      steps_are = ap (λ q. q.steps) new;
      is_level = subst (λ l. l < length job.power.levels) (sym (ap (λ q. q.level) new)) lt;
      seen_is = same ∙ sym (seen_none job.env job.first job.see job.unseen);
    }

-- the level after a step is one
level_stays : (levels level : ℕ) (port : Option ℕ) → level < levels → IfSome port (λ l. l < levels) → unwrap_or port level < levels
level_stays levels level None lt below = lt
level_stays levels level (Some l) lt below = below

pub progress_went : {W : Type 0} (job : Job W) (k : ℕ) (env : Setting) (now : State) (paid : RunPrice) (seen : W) (x : Stepped)
    (env' : Setting) (u : State) (paid' : RunPrice) (seen' : W) →
    Progress job k env now paid seen → outcome (Went x) u ≡ step env now → env' ≡ env → IfSome x.port (λ l. l < length job.power.levels) →
    paid' ≡ metered job.power paid x → seen' ≡ job.see seen x → Progress job (k + 1) env' u paid' seen'
progress_went job k env now paid seen x env' u paid' seen' p e kept port more shown =
    let xs = (run job.env job.first k).steps in
    let here : outcome (Went x) u ≡ step job.env now = e ∙ ap (λ v. step v now) p.env_is in
    let longer : run job.env job.first (k + 1) ≡ going (xs ++ x ∷ []) u = run_went job.env job.first now u k xs x p.run_is here in
    let steps_are : (run job.env job.first (k + 1)).steps ≡ xs ++ x ∷ [] = ap (λ r. r.steps) longer in
    let count : paid'.steps ≡ paid.steps + 1 = ap (λ q. q.steps) more in
    let level : paid'.level ≡ unwrap_or x.port paid.level = ap (λ q. q.level) more in
    record {
      run_is = longer ∙ ap (λ ys. going ys u) (sym steps_are);
      env_is = kept ∙ p.env_is;
      paid_is = more ∙ (ap (λ q. metered job.power q x) p.paid_is ∙ (sym (one_more job.power job.start xs x) ∙ ap (price job.power job.start) (sym steps_are)));
      steps_are = count ∙ ap (λ n. n + 1) p.steps_are;
      is_level = subst (λ l. l < length job.power.levels) (sym level) (level_stays (length job.power.levels) paid.level x.port p.is_level port);
      seen_is = shown ∙ (ap (λ w. job.see w x) p.seen_is ∙ sym (seen_step job.env job.first now u job.see job.unseen k xs (Went x) p.run_is here));
    }

pub over_exited : {W : Type 0} (job : Job W) (k n : ℕ) (env : Setting) (now : State) (paid : RunPrice) (seen : W) (x : Stepped) (status : ℕ)
    (u : State) (paid' : RunPrice) →
    Progress job k env now paid seen → k < n → outcome (Exited x status) u ≡ step env now → paid' ≡ metered job.power paid x →
    IsRunEnd job n (HasExited status) u paid' seen
over_exited {W = W} job k n env now paid seen x status u paid' p lt e more =
    let xs = (run job.env job.first k).steps in
    let here : outcome (Exited x status) u ≡ step job.env now = e ∙ ap (λ v. step v now) p.env_is in
    let whole : (m : ℕ) → k < m → run job.env job.first m ≡ record { steps = xs ++ x ∷ []; state = u; standing = HasExited status } =
    λ m h. run_exited job.env job.first now u k m xs x status h p.run_is here in
    let over : (w : W) (end : StepEnd) → seen_more job.see w (HasExited status) end ≡ w = λ w end. refl in
    record {
      standing_is = ap (λ r. r.standing) (whole n lt);
      state_is = sym (ap (λ r. r.state) (whole n lt));
      paid_is = more ∙ (ap (λ q. metered job.power q x) p.paid_is ∙ (sym (one_more job.power job.start xs x) ∙ ap (λ r. price job.power job.start r.steps) (sym (whole n lt))));
      seen_is = p.seen_is ∙ sym (seen_ended job.env job.first job.see job.unseen k n (HasExited status) over (λ m h. ap (λ r. r.standing) (whole m h)) lt ∙
          seen_step job.env job.first now u job.see job.unseen k xs (Exited x status) p.run_is here);
    }

pub over_trapped : {W : Type 0} (job : Job W) (k n : ℕ) (env : Setting) (now : State) (paid : RunPrice) (seen : W) (trap : Trap) (u : State) →
    Progress job k env now paid seen → k < n → outcome (Trapped trap) u ≡ step env now → IsRunEnd job n (HasTrapped trap) u paid seen
over_trapped {W = W} job k n env now paid seen trap u p lt e =
    let xs = (run job.env job.first k).steps in
    let here : outcome (Trapped trap) u ≡ step job.env now = e ∙ ap (λ v. step v now) p.env_is in
    let whole : (m : ℕ) → k < m → run job.env job.first m ≡ record { steps = xs; state = u; standing = HasTrapped trap } =
    λ m h. run_trapped job.env job.first now u k m xs trap h p.run_is here in
    let over : (w : W) (end : StepEnd) → seen_more job.see w (HasTrapped trap) end ≡ w = λ w end. refl in
    record {
      standing_is = ap (λ r. r.standing) (whole n lt);
      state_is = sym (ap (λ r. r.state) (whole n lt));
      paid_is = p.paid_is ∙ ap (λ r. price job.power job.start r.steps) (sym (whole n lt));
      seen_is = p.seen_is ∙ sym (seen_ended job.env job.first job.see job.unseen k n (HasTrapped trap) over (λ m h. ap (λ r. r.standing) (whole m h)) lt ∙
          seen_step job.env job.first now u job.see job.unseen k xs (Trapped trap) p.run_is here);
    }
