-- Runs that have ended: they stay as they are, and have completed their steps by then.
use Rattle.std.proofs.Common.{◌≡◌, ℕ, zero, suc, ◌+◌, ◌≤◌, List, [], ◌∷◌, length, length-append, refl, sym, ap, subst, arith}
use Rattle.scale_base.specs.declared.stepping.Stepped.{Stepped}
use Rattle.scale_base.specs.declared.stepping.StepEnd.{StepEnd}
use Rattle.scale_base.specs.declared.stepping.StepEnd.TheVariants.{Went, Exited, Trapped}
use Rattle.scale_base.specs.State.{Setting, State}
use Rattle.scale_base.specs.Step.{step}
use Rattle.scale_base.specs.Run.{Run, Standing, GoesOn, HasExited, HasTrapped, one_more_by, one_more, ended, run}
use Rattle.stored_runs.specs.Legs.{steps_to}
use Rattle.rewritten_runs.specs.Followed.{HasEnded}

-- one step more changes nothing
pub over_stays : (env : Setting) (r : Run) → HasEnded r.standing → one_more env r ≡ r
over_stays env r over = by r.standing refl over
  where
    by : (st : Standing) → r.standing ≡ st → HasEnded st → one_more_by env r r.standing ≡ r
    by GoesOn e h = absurd h
    by (HasExited status) e h = ap (one_more_by env r) e
    by (HasTrapped trap) e h = ap (one_more_by env r) e

-- the completed steps, and the one that a trap takes
abbrev pub taken : Run → ℕ
taken r = length r.steps + steps_to r.standing

ended_within : (xs : List Stepped) (e : StepEnd) (u : State) (n : ℕ) → length xs ≤ n → taken (ended xs e u) ≤ suc n
ended_within xs (Went x) u n le = let sum = length-append xs (x ∷ []) in omega (arith, sum)
ended_within xs (Exited x status) u n le = let sum = length-append xs (x ∷ []) in omega (arith, sum)
ended_within xs (Trapped trap) u n le = omega arith

-- are no more than were asked for
pub taken_within : (env : Setting) (s : State) (n : ℕ) → taken (run env s n) ≤ n
unfolding run
taken_within env s zero = omega arith
taken_within env s (suc n) = by (run env s n).standing refl (taken_within env s n)
  where
    by : (st : Standing) → (run env s n).standing ≡ st → taken (run env s n) ≤ n → taken (one_more_by env (run env s n) (run env s n).standing) ≤ suc n
    by GoesOn e le =
        let r : Run = run env s n in
        subst (λ st. taken (one_more_by env r st) ≤ suc n) (sym e) (ended_within r.steps (step env r.state).end (step env r.state).state n (omega arith))
    by (HasExited status) e le = subst (λ st. taken (one_more_by env (run env s n) st) ≤ suc n) (sym e) (omega arith)
    by (HasTrapped trap) e le = subst (λ st. taken (one_more_by env (run env s n) st) ≤ suc n) (sym e) (omega arith)
