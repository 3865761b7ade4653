-- What a tuning gives: of the candidates the one whose runs on the inputs that count take the least energy.
use Rattle.std.specs.Prelude.{◌≡◌, ℕ, ◌+◌, ◌<◌, ◌≤◌, List, length, Result, Ok, Err}
use Rattle.scale_base.specs.declared.refusal.Refusal.{Refusal}
use Rattle.scale_base.specs.declared.summary.Summary.{Summary}
use Rattle.scale_base.specs.declared.summary.Tuned.{Tuned}
use Rattle.scaler.specs.Held.{IsHeld}
use Rattle.gain_tuner.specs.Candidates.{IsCandidate}
use Rattle.gain_tuner.specs.Spending.{counting, IsSpent}

-- a candidate of a family that isn't out: it isn't refused, no run on these inputs is out of steps, and this is the sum of their energies
pub record IsTrialOf (Candidate : ℕ → Result (List ℕ × Summary) Refusal → Type 0) (machine : List ℕ) (inputs : List (List ℕ)) (c : ℕ)
    (stored : List ℕ) (summary : Summary) (energy : ℕ) : Type 0 where
  pub answer_is : Candidate c (Ok ((stored, summary)))
  pub spent : IsSpent stored machine inputs energy

-- of the candidates of a family below n that aren't out the one with the least sum, of several the least
pub record IsCheapestOf (Candidate : ℕ → Result (List ℕ × Summary) Refusal → Type 0) (machine : List ℕ) (inputs : List (List ℕ)) (n c : ℕ)
    (stored : List ℕ) (summary : Summary) (energy : ℕ) : Type 0 where
  pub below : c < n
  pub trial : IsTrialOf Candidate machine inputs c stored summary energy
  pub least : (d : ℕ) (other : List ℕ) (s : Summary) (e : ℕ) → d < n → IsTrialOf Candidate machine inputs d other s e → energy ≤ e
  pub first : (d : ℕ) (other : List ℕ) (s : Summary) (e : ℕ) → d < c → IsTrialOf Candidate machine inputs d other s e → energy < e

-- the same of the candidates of a tuning, on the inputs that count
abbrev pub IsTrial : (image machine loop_file : List ℕ) → List (List ℕ) → ℕ → List ℕ → Summary → ℕ → Type 0
IsTrial image machine loop_file given = IsTrialOf (IsCandidate image machine loop_file) machine (counting image machine loop_file given)

abbrev pub IsCheapest : (image machine loop_file : List ℕ) → List (List ℕ) → ℕ → ℕ → List ℕ → Summary → ℕ → Type 0
IsCheapest image machine loop_file given = IsCheapestOf (IsCandidate image machine loop_file) machine
    (counting image machine loop_file given)

-- the stored image and the numbers of the choice among 33 candidates
pub record IsChoice (image machine loop_file : List ℕ) (given : List (List ℕ)) (stored : List ℕ) (tuned : Tuned) : Type 0 where
  pub cheapest : IsCheapest image machine loop_file given 33 tuned.candidate stored tuned.summary tuned.energy
  -- candidate 0 is never out
  pub held : List ℕ
  pub held_summary : Summary
  pub hold : IsTrial image machine loop_file given 0 held held_summary tuned.hold_energy
  -- the inputs that count, and the others
  pub inputs : tuned.inputs ≡ length (counting image machine loop_file given)
  pub left_out : tuned.inputs + tuned.left_out ≡ length given

-- The stored bytes with the numbers of the choice, or the first refusal, which is that of `hold`.
abbrev pub IsTuning : (image machine loop_file : List ℕ) → List (List ℕ) → Result (List ℕ × Tuned) Refusal → Type 0
IsTuning image machine loop_file given (Ok choice) = IsChoice image machine loop_file given choice.0 choice.1
IsTuning image machine loop_file given (Err refusal) = IsHeld image machine loop_file (Err refusal)
