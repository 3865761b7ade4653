-- What is so of the marks of a step is so of their forms.
use Rattle.std.proofs.Common.{ℕ, Bool, true, false, cond, List, [], ◌∷◌, Option}
use Rattle.std.specs.Prelude.{All, ◌==◌, if◌then◌else◌}
use Rattle.std.proofs.lemmas.List.Elements.{All-nil, All-cons}
use Rattle.cost_theory.specs.Graph.{Loops}
use Rattle.scale_base.specs.declared.fragments.Mark.{Mark}
use Rattle.scale_base.specs.declared.fragments.Mark.TheVariants as marks
use Rattle.scale_sites.specs.Forms.{plain_form, behind_tally, formed}
use Rattle.scale_sites.proofs.Laws.{formed_all}
use Rattle.rewritten_runs.proofs.Laws.{IsMarkOf}

module _ (l : Loops) (counted : List ℕ) (branch : Bool) (u : ℕ) (p : Option ℕ) where
  abbrev P : Mark → Type 0
  P = IsMarkOf l counted branch u p

  plain_is : (lowest : Bool) (tallied : ℕ → Bool) (m : Mark) → P m → P (plain_form lowest tallied m)
  plain_is lowest tallied marks.Switch h = by lowest
    where
      by : (b : Bool) → P (cond b marks.Lowest marks.Switch)
      by true = h
      by false = h
  plain_is lowest tallied (marks.Exit i) h = by (tallied i)
    where
      by : (b : Bool) → P (cond b (marks.Reset i) (marks.Exit i))
      by true = h
      by false = h
  plain_is lowest tallied (marks.Reset i) h = h
  plain_is lowest tallied (marks.Count i) h = h
  plain_is lowest tallied marks.Lowest h = h
  plain_is lowest tallied (marks.Tally i) h = h

  one : (m : Mark) → P m → All P (m ∷ [])
  one m h = All-cons P m [] h (All-nil P)

  behind_is : (i : ℕ) (m : Mark) → P m → All P (behind_tally i m)
  behind_is i marks.Switch h = All-nil P
  behind_is i (marks.Exit j) h = one (marks.Reset j) h
  behind_is i (marks.Reset j) h = one (marks.Reset j) h
  behind_is i (marks.Count j) h = by (j == i)
    where
      by : (b : Bool) → All P (if b then [] else marks.Count j ∷ [])
      by true = All-nil P
      by false = one (marks.Count j) h
  behind_is i marks.Lowest h = All-nil P
  behind_is i (marks.Tally j) h = by (j == i)
    where
      by : (b : Bool) → All P (if b then [] else marks.Count j ∷ [])
      by true = All-nil P
      by false = one (marks.Count j) h

  pub forms_are : (lowest : Bool) (tallied : ℕ → Bool) (ms : List Mark) → All P ms → All P (formed lowest tallied ms)
  forms_are lowest tallied ms all = formed_all P P lowest tallied ms (plain_is lowest tallied) (λ i m on h. behind_is i m h) (λ i on h. h) all
