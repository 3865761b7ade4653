-- Scaffold: what the parts of a tuning find, on the way to what it gives.
use Rattle.std.specs.Prelude.{◌≡◌, ℕ, nat_lt, if◌then◌else◌, List, Option, Some, None, IsSome, Result, Ok, Err, Vec}
use Rattle.std.specs.declared.alloc.Global.{Global}
use Rattle.std.specs.List.{All}
use Rattle.std.specs.Result.{IsOk}
use Rattle.scale_base.specs.declared.refusal.Refusal.{Refusal}
use Rattle.scale_base.specs.declared.refusal.Stop.{Stop}
use Rattle.scale_base.specs.declared.refusal.Stop.TheVariants.{Refused, Memory}
use Rattle.scale_base.specs.declared.summary.Summary.{Summary}
use Rattle.marked_images.specs.Promise.{IsStoredSafely}
use Rattle.speed_sim.specs.Simulated.{simulated}
use Rattle.gain_tuner.specs.declared.choosing.Trial.{Trial}
use Rattle.gain_tuner.specs.Spending.{counting, IsSpent, spent_on}
use Rattle.gain_tuner.specs.Candidates.{IsCandidate}
use Rattle.gain_tuner.specs.Choice.{IsTrialOf, IsCheapestOf}

-- no run of the image is refused, whatever its input
abbrev pub RunsAlways : (image machine : List ℕ) → Option (List ℕ) → Type 0
RunsAlways image machine loop_file = (input : List ℕ) → IsOk (simulated image machine input loop_file)

-- the sum of the energies, or none where some run is out of steps
abbrev pub IsSpentOr : (stored machine : List ℕ) → List (List ℕ) → Option ℕ → Type 0
IsSpentOr stored machine inputs (Some energy) = IsSpent stored machine inputs energy
IsSpentOr stored machine inputs None = All (λ input. IsSome (spent_on stored machine input)) inputs → ⊥

-- a trial of a candidate of a family, which is safe
pub record IsSafeTrialOf (Candidate : ℕ → Result (List ℕ × Summary) Refusal → Type 0) (image machine loop_file : List ℕ)
    (given : List (List ℕ)) (c : ℕ) (t : Trial) : Type 0 where
  pub candidate : t.candidate ≡ c
  pub trial : IsTrialOf Candidate machine (counting image machine loop_file given) c t.stored.items t.summary t.energy
  pub safe : IsStoredSafely image machine loop_file t.stored.items t.summary

-- that, or none where the candidate is out
abbrev pub IsTrialOrOf : (ℕ → Result (List ℕ × Summary) Refusal → Type 0) → (image machine loop_file : List ℕ) → List (List ℕ) → ℕ →
    Option Trial → Type 0
IsTrialOrOf Candidate image machine loop_file given c (Some t) = IsSafeTrialOf Candidate image machine loop_file given c t
IsTrialOrOf Candidate image machine loop_file given c None = (stored : List ℕ) (summary : Summary) (energy : ℕ) →
    IsTrialOf Candidate machine (counting image machine loop_file given) c stored summary energy → ⊥

-- the cheapest of the candidates of a family below n, which is safe
pub record IsSafeChoiceOf (Candidate : ℕ → Result (List ℕ × Summary) Refusal → Type 0) (image machine loop_file : List ℕ)
    (given : List (List ℕ)) (n : ℕ) (t : Trial) : Type 0 where
  pub cheapest : IsCheapestOf Candidate machine (counting image machine loop_file given) n t.candidate t.stored.items t.summary t.energy
  pub safe : IsStoredSafely image machine loop_file t.stored.items t.summary

-- the same of the candidates of a tuning
abbrev pub IsSafeTrial : (image machine loop_file : List ℕ) → List (List ℕ) → ℕ → Trial → Type 0
IsSafeTrial image machine loop_file = IsSafeTrialOf (IsCandidate image machine loop_file) image machine loop_file

abbrev pub IsTrialOr : (image machine loop_file : List ℕ) → List (List ℕ) → ℕ → Option Trial → Type 0
IsTrialOr image machine loop_file = IsTrialOrOf (IsCandidate image machine loop_file) image machine loop_file

abbrev pub IsSafeChoice : (image machine loop_file : List ℕ) → List (List ℕ) → ℕ → Trial → Type 0
IsSafeChoice image machine loop_file = IsSafeChoiceOf (IsCandidate image machine loop_file) image machine loop_file

-- the one thing that was made
abbrev pub Made : Result (List ℕ × Summary) Refusal → ℕ → Result (List ℕ × Summary) Refusal → Type 0
Made made c answer = answer ≡ made

-- What was found of what a call made of a candidate: a trial of it, which is safe, or none where it is out.
abbrev pub IsTried : (image machine loop_file : List ℕ) → List (List ℕ) → ℕ → Result (Vec ℕ Global × Summary) Stop → Option Trial → Type 0
IsTried image machine loop_file given c (Ok made) tried = IsTrialOrOf (Made (Ok ((made.0.items, made.1)))) image machine loop_file given c
    tried
IsTried image machine loop_file given c (Err (Refused refusal)) tried = IsTrialOrOf (Made (Err refusal)) image machine loop_file given c
    tried
IsTried image machine loop_file given c (Err Memory) tried = ⊥

-- of two trials the one of less energy, and the first where they take the same
abbrev pub cheaper_of : Trial → Option Trial → Trial
cheaper_of best None = best
cheaper_of best (Some t) = if nat_lt t.energy best.energy then t else best
