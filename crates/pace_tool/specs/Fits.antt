-- What `fit` gives for its files, and what the choice keeps to.
use Rattle.std.specs.Prelude.{ℕ, ◌≤◌, List, length, Result, Ok, Err}
use Rattle.scale_base.specs.declared.refusal.Refusal.{Refusal}
use Rattle.marked_images.specs.Promise.{IsStoredSafely}
use Rattle.paced_images.specs.declared.proposal.Proposal.{Proposal}
use Rattle.pace_fit.specs.declared.fitting.Fitted.{Fitted}
use Rattle.pace_fit.specs.Endings.{endings_on}
use Rattle.pace_fit.specs.Fitting.{IsFitting}
use Rattle.host_runs.specs.Answer.{Answer, Tells, stored_answer}
use Rattle.pace_tool.specs.Texts.{fitted_text}

-- What the choice of a fitting keeps to: the stored image keeps the promise of a rewritten one with the printed numbers, and on the inputs that count its runs take no more
-- energy than those of the image that runs at one level.
pub record IsFittedSafely (image machine loops stored : List ℕ) (fitted : Fitted) : Type 0 where
  pub safe : IsStoredSafely image machine loops stored fitted.summary
  pub saves : fitted.energy ≤ fitted.hold_energy

abbrev pub IsSafeIfAny : (image machine loops : List ℕ) → Result (List ℕ × Fitted) Refusal → Type 0
IsSafeIfAny image machine loops (Ok given) = IsFittedSafely image machine loops given.0 given.1
IsSafeIfAny image machine loops (Err refusal) = Unit {0}

-- what `fit` gives of proposals: the choice among their images and that of `hold`, which is safe, or the refusal of `hold`
pub record Fits (image machine loops : List ℕ) (inputs : List (List ℕ)) (proposals : List Proposal)
    (given : Result (List ℕ × Fitted) Refusal) : Type 0 where
  pub fitting : IsFitting image machine loops inputs proposals given
  pub safe : IsSafeIfAny image machine loops given

-- The answer to `fit` with this name of OUT: it tells what is given of some proposals, at most 64, and how the runs of the original on its inputs end. Which proposals is left open,
-- since nothing that is promised rests on them.
pub record MakesFit (image machine loops : List ℕ) (inputs : List (List ℕ)) (out : List ℕ) (answer : Answer) : Type 0 where
  pub proposals : List Proposal
  pub few : length proposals ≤ 64
  pub tells : Tells (Fits image machine loops inputs proposals) (stored_answer
      (fitted_text (endings_on image machine loops inputs) proposals) out) answer
