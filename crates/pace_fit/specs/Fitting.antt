-- What a fitting gives: of the image that `hold` stores and the images that `pace` makes of proposals the one whose runs on the inputs that count take the least energy.
-- Candidate 0 is the image of `hold`, candidate k + 1 that of proposal k. A proposal has none where `pace` refuses it, or where some mark of it is dead: where it can lower nothing in
-- that image. What `pace` gives is a relation, since a refusal may name any of several cycles.
use Rattle.std.specs.Prelude.{◌≡◌, ◌⊎◌, ℕ, ◌+◌, ◌<◌, List, [], ◌∷◌, length, slice_get, Option, Some, None, Result, Ok, Err}
use Rattle.scale_base.specs.declared.refusal.Refusal.{Refusal}
use Rattle.scale_base.specs.declared.summary.Summary.{Summary}
use Rattle.scaler.specs.Held.{IsHeld}
use Rattle.scaler.specs.Rewritten.{IsRewritten}
use Rattle.paced_images.specs.Proposed.{HasNoDeadMark, IsProposalPaced}
use Rattle.gain_tuner.specs.Choice.{IsCheapestOf}
use Rattle.gain_tuner.specs.Spending.{counting, IsSpent}
use Rattle.paced_images.specs.declared.proposal.Proposal.{Proposal}
use Rattle.pace_fit.specs.declared.fitting.Fitted.{Fitted}
use Rattle.pace_fit.specs.Least.{IsLeastOver}

-- what is given of a proposal: the image that `pace` makes of it, if no mark of it is dead there
abbrev pub IsProposed : (image machine loop_file : List ℕ) → Proposal → Option (List ℕ × Summary) → Type 0
IsProposed image machine loop_file proposal (Some given) = IsProposalPaced image machine loop_file proposal (Ok (Some given))
IsProposed image machine loop_file proposal None = IsProposalPaced image machine loop_file proposal (Ok None) ⊎
    ((refusal : Refusal) × IsProposalPaced image machine loop_file proposal (Err refusal))

-- ---- the choice where some input counts

-- what is given of each candidate: by `hold`, and of each proposal
pub record AreCandidates (image machine loop_file : List ℕ) (proposals : List Proposal) (given : ℕ → Option (List ℕ × Summary))
    : Type 0 where
  pub held : (stored : List ℕ) × (summary : Summary) × (given 0 ≡ Some ((stored, summary))) ×
      IsHeld image machine loop_file (Ok ((stored, summary)))
  pub proposed : (k : ℕ) (proposal : Proposal) → slice_get proposals k ≡ Some proposal →
      IsProposed image machine loop_file proposal (given (k + 1))

-- an answer is what is given: an image, or none
abbrev pub Gives : Option (List ℕ × Summary) → Result (List ℕ × Summary) Refusal → Type 0
Gives given (Ok made) = given ≡ Some made
Gives given (Err refusal) = given ≡ None

-- the candidate that isn't out and takes the least energy on these inputs, of several the first
pub record IsCheapestFit (image machine loop_file : List ℕ) (inputs : List (List ℕ)) (proposals : List Proposal) (c : ℕ) (stored : List ℕ)
    (summary : Summary) (energy : ℕ) : Type 0 where
  pub given : ℕ → Option (List ℕ × Summary)
  pub candidates : AreCandidates image machine loop_file proposals given
  pub cheapest : IsCheapestOf (λ k answer. Gives (given k) answer) machine inputs (length proposals + 1) c stored summary energy

-- ---- the choice where no input counts, so that all energies are 0

-- the first n proposals are out
abbrev pub AreOut : (image machine loop_file : List ℕ) → List Proposal → ℕ → Type 0
AreOut image machine loop_file proposals n = (k : ℕ) (proposal : Proposal) → k < n → slice_get proposals k ≡ Some proposal →
    IsProposed image machine loop_file proposal None

-- the image of proposal c - 1, before which all are out
pub record IsBuilt (image machine loop_file : List ℕ) (proposals : List Proposal) (c : ℕ) (stored : List ℕ) (summary : Summary)
    : Type 0 where
  pub k : ℕ
  pub proposal : Proposal
  pub number : c ≡ k + 1
  pub there : slice_get proposals k ≡ Some proposal
  pub built : IsProposed image machine loop_file proposal (Some ((stored, summary)))
  pub before : AreOut image machine loop_file proposals k

-- the image that `hold` stores, where all proposals are out
pub record IsHeldOnly (image machine loop_file : List ℕ) (proposals : List Proposal) (c : ℕ) (stored : List ℕ) (summary : Summary)
    : Type 0 where
  pub number : c ≡ 0
  pub held : IsHeld image machine loop_file (Ok ((stored, summary)))
  pub out : AreOut image machine loop_file proposals (length proposals)

-- the image of the first proposal that isn't out, or else the image that `hold` stores
abbrev pub IsFirstBuilt : (image machine loop_file : List ℕ) → List Proposal → ℕ → List ℕ → Summary → Type 0
IsFirstBuilt image machine loop_file proposals c stored summary = IsBuilt image machine loop_file proposals c stored summary ⊎
    IsHeldOnly image machine loop_file proposals c stored summary

-- ---- both, by the inputs that count

abbrev pub IsChosen : (image machine loop_file : List ℕ) → List (List ℕ) → List Proposal → ℕ → List ℕ → Summary → ℕ → Type 0
IsChosen image machine loop_file [] proposals c stored summary energy = IsFirstBuilt image machine loop_file proposals c stored summary ×
    (energy ≡ 0)
IsChosen image machine loop_file (one ∷ more) proposals c stored summary energy =
    IsCheapestFit image machine loop_file (one ∷ more) proposals c stored summary energy

-- no mark of the chosen proposal is dead in its image
abbrev pub IsChosenUseful : (image machine loop_file : List ℕ) → List Proposal → ℕ → Type 0
IsChosenUseful image machine loop_file proposals c = (k : ℕ) (proposal : Proposal) → c ≡ k + 1 → slice_get proposals k ≡ Some proposal →
    HasNoDeadMark image machine loop_file proposal

-- ---- its numbers

-- an image was made, its run on no input is out of steps, and this is the sum of their energies
pub record HasEnergy (machine : List ℕ) (inputs : List (List ℕ)) (made : Result (List ℕ × Summary) Refusal) (energy : ℕ) : Type 0 where
  pub stored : List ℕ
  pub summary : Summary
  pub made_is : made ≡ Ok ((stored, summary))
  pub spent : IsSpent stored machine inputs energy

-- that, or none where nothing was made or a run is out of steps
abbrev pub HasEnergyIfAny : List ℕ → List (List ℕ) → Result (List ℕ × Summary) Refusal → Option ℕ → Type 0
HasEnergyIfAny machine inputs made (Some energy) = HasEnergy machine inputs made energy
HasEnergyIfAny machine inputs made None = (energy : ℕ) → HasEnergy machine inputs made energy → ⊥

-- the energies of what `hold` and `rewrite` store
abbrev pub IsHoldEnergy : (image machine loop_file : List ℕ) → List (List ℕ) → ℕ → Type 0
IsHoldEnergy image machine loop_file inputs energy = (made : Result (List ℕ × Summary) Refusal) × IsHeld image machine loop_file made ×
    HasEnergy machine inputs made energy

abbrev pub IsRewriteEnergy : (image machine loop_file : List ℕ) → List (List ℕ) → Option ℕ → Type 0
IsRewriteEnergy image machine loop_file inputs energy = (made : Result (List ℕ × Summary) Refusal) ×
    IsRewritten image machine loop_file made × HasEnergyIfAny machine inputs made energy

-- the stored image and the numbers of the choice
pub record IsFitted (image machine loop_file : List ℕ) (given : List (List ℕ)) (proposals : List Proposal) (stored : List ℕ)
    (fitted : Fitted) : Type 0 where
  pub chosen : IsChosen image machine loop_file (counting image machine loop_file given) proposals fitted.candidate stored fitted.summary
      fitted.energy
  pub hold : IsHoldEnergy image machine loop_file (counting image machine loop_file given) fitted.hold_energy
  pub rewrite : IsRewriteEnergy image machine loop_file (counting image machine loop_file given) fitted.rewrite_energy
  pub least : IsLeastOver image machine loop_file (counting image machine loop_file given) fitted.least_energy
  -- the inputs that count, and the others
  pub inputs : fitted.inputs ≡ length (counting image machine loop_file given)
  pub left_out : fitted.inputs + fitted.left_out ≡ length given

-- The stored bytes with the numbers of the choice, or the first refusal, which is that of `hold`.
abbrev pub IsFitting : (image machine loop_file : List ℕ) → List (List ℕ) → List Proposal → Result (List ℕ × Fitted) Refusal → Type 0
IsFitting image machine loop_file given proposals (Ok choice) = IsFitted image machine loop_file given proposals choice.0 choice.1
IsFitting image machine loop_file given proposals (Err refusal) = IsHeld image machine loop_file (Err refusal)
