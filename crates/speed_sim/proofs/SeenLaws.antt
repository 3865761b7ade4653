-- What sees the steps of a run, step by step and past the run's end.
use Rattle.std.proofs.Common.{◌≡◌, ℕ, zero, suc, ◌+◌, ◌-◌, ◌<◌, List, refl, sym, ◌∙◌, ap, arith, add-one, zero-add}
use Rattle.scale_base.specs.declared.stepping.Stepped.{Stepped}
use Rattle.scale_base.specs.declared.stepping.StepEnd.{StepEnd}
use Rattle.scale_base.specs.declared.stepping.StepEnd.TheVariants.{Went, Exited, Trapped}
use Rattle.scale_base.specs.State.{Setting, State}
use Rattle.scale_base.specs.Step.{step}
use Rattle.scale_base.specs.Run.{Run, Standing, GoesOn, HasExited, HasTrapped, run}
use Rattle.scale_base.proofs.Laws.{going, outcome}
use Rattle.loop_file.specs.declared.notes.LoopNote.{LoopNote}
use Rattle.keep_monitor.specs.Watch.{Watched, watch, watch_end, watched_first, watched_from}
use Rattle.keep_monitor.specs.Counted.{Counted, counted, counted_first, count_end, counted_from}
use Rattle.speed_sim.specs.Seen.{seen_after, seen_more, seen_from}

pub seen_none : {W : Type 0} (env : Setting) (s : State) (see : W → Stepped → W) (first : W) → seen_from env s see first 0 ≡ first
unfolding seen_from
seen_none env s see first = refl

pub seen_next : {W : Type 0} (env : Setting) (s : State) (see : W → Stepped → W) (first : W) (n : ℕ) →
    seen_from env s see first (n + 1) ≡ seen_more see (seen_from env s see first n) (run env s n).standing (step env (run env s n).state).end
unfolding seen_from
seen_next env s see first n = rw add-one refl

-- a step more of a run that goes on
pub seen_step : {W : Type 0} (env : Setting) (s t u : State) (see : W → Stepped → W) (first : W) (n : ℕ) (xs : List Stepped) (end : StepEnd) →
    run env s n ≡ going xs t → outcome end u ≡ step env t → seen_from env s see first (n + 1) ≡ seen_after see end (seen_from env s see first n)
seen_step env s t u see first n xs end h e =
    seen_next env s see first n ∙
    (ap (λ (r : Run). seen_more see (seen_from env s see first n) r.standing (step env r.state).end) h ∙
    ap (λ o. seen_after see o.end (seen_from env s see first n)) (sym e))

-- nothing is seen of a run that has ended
seen_still : {W : Type 0} (env : Setting) (s : State) (see : W → Stepped → W) (first : W) (k : ℕ) (standing : Standing) → ((w : W) (end : StepEnd) → seen_more see w standing end ≡ w) →
    ((m : ℕ) → k < m → (run env s m).standing ≡ standing) → (d : ℕ) → seen_from env s see first (d + (k + 1)) ≡ seen_from env s see first (k + 1)
seen_still env s see first k standing over ended zero = ap (seen_from env s see first) (zero-add (k + 1))
seen_still env s see first k standing over ended (suc d) =
    let m : suc d + (k + 1) ≡ (d + (k + 1)) + 1 = omega arith in
    let w = seen_from env s see first (d + (k + 1)) in
    let end = (step env (run env s (d + (k + 1))).state).end in
    ap (seen_from env s see first) m ∙
    (seen_next env s see first (d + (k + 1)) ∙
    (ap (λ t. seen_more see w t end) (ended (d + (k + 1)) (omega arith)) ∙
    (over w end ∙ seen_still env s see first k standing over ended d)))

pub seen_ended : {W : Type 0} (env : Setting) (s : State) (see : W → Stepped → W) (first : W) (k n : ℕ) (standing : Standing) → ((w : W) (end : StepEnd) → seen_more see w standing end ≡ w) →
    ((m : ℕ) → k < m → (run env s m).standing ≡ standing) → k < n → seen_from env s see first n ≡ seen_from env s see first (k + 1)
seen_ended env s see first k n standing over ended lt =
    let m : n ≡ (n - (k + 1)) + (k + 1) = omega arith in
    ap (seen_from env s see first) m ∙ seen_still env s see first k standing over ended (n - (k + 1))

-- ---- what a monitor sees

watched_end : (w : Watched) (standing : Standing) (end : StepEnd) → seen_more watch w standing end ≡ watch_end w standing end
watched_end w GoesOn (Went x) = refl
watched_end w GoesOn (Exited x status) = refl
watched_end w GoesOn (Trapped trap) = refl
watched_end w (HasExited status) end = refl
watched_end w (HasTrapped trap) end = refl

pub monitor_seen : (env : Setting) (s : State) (notes : List LoopNote) (n : ℕ) → seen_from env s watch (watched_first notes) n ≡ watched_from env s notes n
unfolding seen_from watched_from
monitor_seen env s notes zero = refl
monitor_seen env s notes (suc n) =
    let standing = (run env s n).standing in
    let end = (step env (run env s n).state).end in
    ap (λ w. seen_more watch w standing end) (monitor_seen env s notes n) ∙ watched_end (watched_from env s notes n) standing end

-- ---- what a counter of loops sees

counted_end : (c : Counted) (standing : Standing) (end : StepEnd) → seen_more counted c standing end ≡ count_end c standing end
counted_end c GoesOn (Went x) = refl
counted_end c GoesOn (Exited x status) = refl
counted_end c GoesOn (Trapped trap) = refl
counted_end c (HasExited status) end = refl
counted_end c (HasTrapped trap) end = refl

pub counter_seen : (env : Setting) (s : State) (notes : List LoopNote) (most : List ℕ) (n : ℕ) → seen_from env s counted (counted_first notes most) n ≡ counted_from env s notes most n
unfolding seen_from counted_from
counter_seen env s notes most zero = refl
counter_seen env s notes most (suc n) =
    let standing = (run env s n).standing in
    let end = (step env (run env s n).state).end in
    ap (λ c. seen_more counted c standing end) (counter_seen env s notes most n) ∙ counted_end (counted_from env s notes most n) standing end
