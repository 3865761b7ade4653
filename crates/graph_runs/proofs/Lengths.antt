-- A run that goes on after n steps has completed n steps, which cost n at least where each costs something.
use Rattle.std.proofs.Common.{◌≡◌, ℕ, zero, suc, ◌≤◌, List, [], ◌∷◌, ◌++◌, length, refl, sym, ap, ◌∙◌, arith}
use Rattle.std.specs.List.{sum_by}
use Rattle.std.proofs.lemmas.List.Sums.{sum_by-cons}
use Rattle.scale_base.specs.declared.stepping.Stepped.{Stepped}
use Rattle.scale_base.specs.declared.stepping.StepEnd.{StepEnd}
use Rattle.scale_base.specs.declared.stepping.StepEnd.TheVariants.{Went, Exited, Trapped}
use Rattle.scale_base.specs.State.{Setting, State}
use Rattle.scale_base.specs.Step.{step}
use Rattle.scale_base.specs.Run.{Run, Standing, GoesOn, HasExited, HasTrapped, one_more_by, ended, run}

length_one_more : (xs : List Stepped) (x : Stepped) → length (xs ++ x ∷ []) ≡ suc (length xs)
length_one_more [] x = refl
length_one_more (y ∷ ys) x = ap suc (length_one_more ys x)

ended_length : (xs : List Stepped) (end : StepEnd) (u : State) → (ended xs end u).standing ≡ GoesOn → length (ended xs end u).steps ≡ suc (length xs)
ended_length xs (Went x) u h = length_one_more xs x
ended_length xs (Exited x status) u h = let bad : ⊥ = cc in absurd bad
ended_length xs (Trapped trap) u h = let bad : ⊥ = cc in absurd bad

pub going_length : (env : Setting) (s : State) (n : ℕ) → (run env s n).standing ≡ GoesOn → length (run env s n).steps ≡ n
unfolding run
going_length env s zero h = refl
going_length env s (suc n) h = by_standing (λ q. going_length env s n q) (run env s n).standing refl h
  where
    by_standing : ((run env s n).standing ≡ GoesOn → length (run env s n).steps ≡ n) → (st : Standing) → (run env s n).standing ≡ st →
        (one_more_by env (run env s n) (run env s n).standing).standing ≡ GoesOn → length (one_more_by env (run env s n) (run env s n).standing).steps ≡ suc n
    by_standing ih GoesOn e go =
        let r : Run = run env s n in
        let same : one_more_by env r r.standing ≡ ended r.steps (step env r.state).end (step env r.state).state = ap (one_more_by env r) e in
        ap (λ q. length q.steps) same ∙ (ended_length r.steps (step env r.state).end (step env r.state).state (sym (ap (λ q. q.standing) same) ∙ go) ∙ ap suc (ih e))
    by_standing ih (HasExited status) e go =
        let r : Run = run env s n in
        let same : (one_more_by env r r.standing).standing ≡ r.standing = ap (λ q. (one_more_by env r q).standing) e in
        let bad : HasExited status ≡ GoesOn = sym e ∙ (sym same ∙ go) in absurd (let no : ⊥ = cc in no)
    by_standing ih (HasTrapped trap) e go =
        let r : Run = run env s n in
        let same : (one_more_by env r r.standing).standing ≡ r.standing = ap (λ q. (one_more_by env r q).standing) e in
        let bad : HasTrapped trap ≡ GoesOn = sym e ∙ (sym same ∙ go) in absurd (let no : ⊥ = cc in no)

pub length_le_sum : (f : Stepped → ℕ) → ((x : Stepped) → 1 ≤ f x) → (xs : List Stepped) → length xs ≤ sum_by f xs
length_le_sum f some [] = omega arith
length_le_sum f some (x ∷ xs) = let ih = length_le_sum f some xs in let one = some x in let e = sum_by-cons f x xs in omega (arith, ih, one, e)
