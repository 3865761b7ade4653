-- The steps of the original's run and those of the versioned image's, side by side.
use Rattle.std.proofs.Common.{◌≡◌, ℕ, suc, true, false, List, [], ◌∷◌, ◌++◌, length, refl, sym, ap, ◌∙◌, Option, Some}
use Rattle.std.specs.List.{fold}
use Rattle.std.proofs.lemmas.List.Sums.{fold-append}
use Rattle.scale_base.specs.declared.stepping.Move.TheVariants.{Local}
use Rattle.scale_base.specs.declared.stepping.Stepped.{Stepped}
use Rattle.scale_base.specs.declared.stepping.StepEnd.{StepEnd}
use Rattle.scale_base.specs.declared.stepping.StepEnd.TheVariants.{Went, Exited, Trapped}
use Rattle.scale_base.specs.State.{Setting, State}
use Rattle.scale_base.specs.Step.{step}
use Rattle.scale_base.specs.Run.{Run, Standing, GoesOn, HasExited, HasTrapped, one_more_by, ended, run}
use Rattle.cost_theory.specs.Graph.{Loops}
use Rattle.graph_runs.specs.ReturnAddresses.{returns_after}
use Rattle.graph_runs.specs.KeptSteps.{Carried, carried_first, source_of, kept_more}
use Rattle.graph_runs.specs.KeptRuns.{watched, kept_at}
use Rattle.copy_bounds.specs.Copies.{Meaning}

-- what a word of the text stands for that is in the versioned image as it was, and that no calls are opened where nothing of the original is done
pub record IsMeaning (m : Meaning) : Type 0 where
  pub passed : (a : ℕ) → m.is_extra a ≡ true → m.opened_at a ≡ Some (m.open_at a)
  pub real : (a : ℕ) → m.is_own a ≡ true → m.is_extra a ≡ false
  pub none_open : (a : ℕ) → m.is_own a ≡ true → m.open_at a ≡ []
  pub source : (a : ℕ) → m.is_own a ≡ true → m.source_at a ≡ Some a

-- a step of the original that is made at an address of a copy
pub record IsMadeAt (m : Meaning) (a : ℕ) (x : Stepped) : Type 0 where
  pub source : (rs opened : List ℕ) → m.opened_at a ≡ Some opened → source_of x.moved x.pc (m.open_at a ++ rs) ≡ m.source_at a
  pub returns : (rs opened after : List ℕ) → m.opened_at a ≡ Some opened → returns_after (m.open_at a ++ rs) x ≡ Some after → after ≡ opened ++ rs

-- the same step of both runs, which goes on in the text, or one in a copy
pub data IsPair (m : Meaning) (x y : Stepped) : Type 0 where
  same : y ≡ x → m.is_own y.pc ≡ true → m.open_at y.next ≡ [] → IsPair m x y
  apart : y.moved ≡ Local → m.is_own y.pc ≡ false → IsMadeAt m y.pc x → IsPair m x y

-- steps of the original, and those of the versioned image: some more, and one for each of the original
pub data ArePaired (m : Meaning) : (xs ys : List Stepped) → Type 0 where
  none : ArePaired m [] []
  passed : {xs ys : List Stepped} (y : Stepped) → ArePaired m xs ys → m.is_extra y.pc ≡ true → ArePaired m xs (ys ++ y ∷ [])
  both : {xs ys : List Stepped} (x y : Stepped) → ArePaired m xs ys → m.is_extra y.pc ≡ false → IsPair m x y → m.text_at y.next ≡ x.next →
      ArePaired m (xs ++ x ∷ []) (ys ++ y ∷ [])

-- ---- the last step of a list

pub snoc_length : (xs : List Stepped) (x : Stepped) → length (xs ++ x ∷ []) ≡ suc (length xs)
snoc_length [] x = refl
snoc_length (y ∷ ys) x = ap suc (snoc_length ys x)

no_end : (zs : List Stepped) (y : Stepped) → [] ≡ zs ++ y ∷ [] → ⊥
no_end [] y e = cc
no_end (z ∷ zs) y e = cc

pub snoc_same : (xs ys : List Stepped) (x y : Stepped) → xs ++ x ∷ [] ≡ ys ++ y ∷ [] → (xs ≡ ys) × (x ≡ y)
snoc_same [] [] x y e = let same : x ≡ y = cc in (refl, same)
snoc_same [] (b ∷ bs) x y e = let rest : [] ≡ bs ++ y ∷ [] = cc in absurd (no_end bs y rest)
snoc_same (a ∷ rs) [] x y e = let rest : rs ++ x ∷ [] ≡ [] = cc in absurd (no_end rs x (sym rest))
snoc_same (a ∷ rs) (b ∷ bs) x y e =
    let first : a ≡ b = cc in
    let rest : rs ++ x ∷ [] ≡ bs ++ y ∷ [] = cc in
    let both = snoc_same rs bs x y rest in
    (ap (λ (zs : List Stepped). a ∷ zs) both.0 ∙ ap (λ (z : Stepped). z ∷ bs) first, both.1)

-- a run that goes on behind these steps
abbrev pub Leads : Setting → State → List Stepped → State → Type 0
Leads env s xs t = run env s (length xs) ≡ record { steps = xs; state = t; standing = GoesOn }

pub record LastStep (env : Setting) (s : State) (ys : List Stepped) (y : Stepped) (t : State) : Type 0 where
  pub before : State
  pub leads : Leads env s ys before
  pub went : (step env before).end ≡ Went y
  pub state : (step env before).state ≡ t

by_run : (env : Setting) (s : State) (ys : List Stepped) (y : Stepped) (t : State) → (r : Run) → run env s (length ys) ≡ r → one_more_by env r r.standing ≡ record { steps = ys ++ y ∷ []; state = t; standing = GoesOn } → LastStep env s ys y t
by_run env s ys y t r is h = by_standing r.standing refl
  where
    by_end : r.standing ≡ GoesOn → (end : StepEnd) → (step env r.state).end ≡ end → ended r.steps end (step env r.state).state ≡ record { steps = ys ++ y ∷ []; state = t; standing = GoesOn } → LastStep env s ys y t
    by_end going (Went x) e g =
        let both = snoc_same r.steps ys x y (ap (λ (q : Run). q.steps) g) in
        record {
          before = r.state;
          leads = is ∙ (ap (λ (zs : List Stepped). record { steps = zs; state = r.state; standing = r.standing }) both.0 ∙ ap (λ (q : Standing). record { steps = ys; state = r.state; standing = q }) going);
          went = e ∙ ap Went both.1;
          state = ap (λ (q : Run). q.state) g;
        }
    by_end going (Exited x status) e g = let bad : HasExited status ≡ GoesOn = ap (λ (q : Run). q.standing) g in let never : ⊥ = cc in absurd never
    by_end going (Trapped trap) e g = let bad : HasTrapped trap ≡ GoesOn = ap (λ (q : Run). q.standing) g in let never : ⊥ = cc in absurd never

    by_standing : (q : Standing) → r.standing ≡ q → LastStep env s ys y t
    by_standing GoesOn e = by_end e (step env r.state).end refl (sym (ap (one_more_by env r) e) ∙ h)
    by_standing (HasExited status) e = let bad : HasExited status ≡ GoesOn = sym e ∙ ap (λ (q : Run). q.standing) (sym (ap (one_more_by env r) e) ∙ h) in let never : ⊥ = cc in absurd never
    by_standing (HasTrapped trap) e = let bad : HasTrapped trap ≡ GoesOn = sym e ∙ ap (λ (q : Run). q.standing) (sym (ap (one_more_by env r) e) ∙ h) in let never : ⊥ = cc in absurd never

pub last_step : (env : Setting) (s : State) (ys : List Stepped) (y : Stepped) (t : State) → Leads env s (ys ++ y ∷ []) t → LastStep env s ys y t
unfolding run
last_step env s ys y t h = by_run env s ys y t (run env s (length ys)) refl (sym (ap (run env s) (snoc_length ys y)) ∙ h)

-- ---- what is carried along a list

-- what is carried after these steps, of which each goes on
abbrev pub kept_along : Loops → List Stepped → Option Carried
kept_along l xs = fold (kept_more l) (Some carried_first) xs

pub kept_last : (l : Loops) (xs : List Stepped) (x : Stepped) → kept_along l (xs ++ x ∷ []) ≡ kept_more l (kept_along l xs) x
kept_last l xs x = fold-append (kept_more l) (Some carried_first) xs (x ∷ [])

-- and after one step more of a run
pub kept_step : (env : Setting) (s : State) (l : Loops) (n : ℕ) (ys : List Stepped) (w : State) (y : Stepped) (o : Option Carried) → run env s n ≡ record { steps = ys; state = w; standing = GoesOn } →
    (step env w).end ≡ Went y → kept_at env s l n ≡ o → kept_at env s l (suc n) ≡ kept_more l o y
unfolding kept_at
kept_step env s l n ys w y o runs went kept =
    ap (λ (r : Run). watched l (kept_at env s l n) r.standing (step env r.state).end) runs
    ∙ (ap (λ (e : StepEnd). watched l (kept_at env s l n) GoesOn e) went
    ∙ ap (λ (q : Option Carried). kept_more l q y) kept)
