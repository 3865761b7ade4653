-- Scaffold: what the parts of a fitting find, on the way to what it gives.
use Rattle.std.specs.Prelude.{◌≡◌, ℕ, ◌^◌, ◌≤◌, List, map, length, Option, Result, Ok, Err}
use Rattle.std.specs.List.{All}
use Rattle.scale_base.specs.declared.limits.TheConstants.{FILE_LIMIT, IMAGE_LIMIT}
use Rattle.scale_base.specs.declared.refusal.Refusal.{Refusal}
use Rattle.scale_base.specs.declared.summary.Summary.{Summary}
use Rattle.power_model.specs.Numbers.{IsPowerModel}
use Rattle.machine_file.specs.Machine.{read_machine}
use Rattle.scaler.specs.Held.{IsHeld}
use Rattle.marked_images.specs.Promise.{IsStoredSafely}
use Rattle.gain_tuner.specs.declared.choosing.Files.{Files}
use Rattle.gain_tuner.specs.declared.choosing.Trial.{Trial}
use Rattle.gain_tuner.specs.Finding.{IsTrialOrOf}
use Rattle.gain_tuner.specs.Spending.{counts, counting, IsSpent}
use Rattle.paced_images.specs.declared.proposal.Proposal.{Proposal}
use Rattle.pace_fit.specs.declared.preparing.Prepared.{Prepared}
use Rattle.pace_fit.specs.Endings.{endings_on}
use Rattle.pace_fit.specs.Fitting.{Gives, IsProposed}

-- ---- the files

-- they have at most the bytes that the program loads, and the flags say which inputs count
pub record AreLoaded (files : Files) : Type 0 where
  pub image : length files.image.now ≤ IMAGE_LIMIT
  pub machine : length files.machine.now ≤ FILE_LIMIT
  pub loops : length files.loops.now ≤ FILE_LIMIT
  pub few : length files.inputs.now ≤ 64
  pub flags : files.flags.now ≡ map (λ input. counts files.image.now files.machine.now files.loops.now input.items) files.inputs.now

abbrev pub given_inputs : Files → List (List ℕ)
given_inputs files = map (λ input. input.items) files.inputs.now

abbrev pub counted_inputs : Files → List (List ℕ)
counted_inputs files = counting files.image.now files.machine.now files.loops.now (given_inputs files)

-- the program can be held at one level
abbrev pub HasHeld : (image machine loop_file : List ℕ) → Type 0
HasHeld image machine loop_file = (held : List ℕ × Summary) × IsHeld image machine loop_file (Ok held)

-- ---- trials

abbrev pub IsSafe : Files → Trial → Type 0
IsSafe files t = IsStoredSafely files.image.now files.machine.now files.loops.now t.stored.items t.summary

-- the trial of the image that `hold` stores
pub record IsHeldTrial (files : Files) (t : Trial) : Type 0 where
  pub candidate : t.candidate ≡ 0
  pub held : IsHeld files.image.now files.machine.now files.loops.now (Ok ((t.stored.items, t.summary)))
  pub spent : IsSpent t.stored.items files.machine.now (counted_inputs files) t.energy
  pub safe : IsSafe files t

-- the trial of the image of a proposal, or none where that is out
pub record IsProposalTried (files : Files) (proposal : Proposal) (c : ℕ) (tried : Option Trial) : Type 0 where
  pub given : Option (List ℕ × Summary)
  pub proposed : IsProposed files.image.now files.machine.now files.loops.now proposal given
  pub tried_is : IsTrialOrOf (λ k answer. Gives given answer) files.image.now files.machine.now files.loops.now (given_inputs files) c tried

-- ---- what is known before the choice

-- the numbers of the machine, the image that `hold` stores, how the run of the original on each input ends, and which of the inputs count
pub record IsPrepared (image machine loop_file : List ℕ) (inputs : List (List ℕ)) (p : Prepared) : Type 0 where
  pub power_is : read_machine machine ≡ Ok p.power
  pub in_range : IsPowerModel p.power
  pub held : IsHeld image machine loop_file (Ok ((p.stored.items, p.summary)))
  pub endings : p.endings.items ≡ endings_on image machine loop_file inputs
  pub small : All (λ ending. ending.cycles ≤ 2 ^ 56) p.endings.items
  pub flags : p.flags.items ≡ map (counts image machine loop_file) inputs

-- that, or the first refusal, which is that of `hold`
abbrev pub IsPreparing : (image machine loop_file : List ℕ) → List (List ℕ) → Result Prepared Refusal → Type 0
IsPreparing image machine loop_file inputs (Ok p) = IsPrepared image machine loop_file inputs p
IsPreparing image machine loop_file inputs (Err refusal) = IsHeld image machine loop_file (Err refusal)
