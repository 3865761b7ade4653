-- Which inputs count, and the energy that the runs of a stored image take on them.
use Rattle.std.specs.Prelude.{◌≡◌, ◌&&◌, ℕ, Bool, true, false, List, Option, Some, None, IsSome, Result, Ok, Err, sum_by, unwrap_or}
use Rattle.std.specs.List.{All, filter}
use Rattle.scale_base.specs.declared.endings.End.{End}
use Rattle.scale_base.specs.declared.endings.End.TheVariants.{Exited, Trapped, OutOfSteps}
use Rattle.scale_base.specs.declared.endings.Kept.{Kept}
use Rattle.scale_base.specs.declared.endings.Kept.TheVariants.{BrokeBound, BrokeReturn, BrokeDepth}
use Rattle.scale_base.specs.declared.endings.Kept.TheVariants as kinds
use Rattle.scale_base.specs.declared.refusal.Refusal.{Refusal}
use Rattle.power_model.specs.Report.{Report}
use Rattle.speed_sim.specs.Simulated.{simulated}

-- ---- which inputs count

abbrev pub ends_by_exit : End → Bool
ends_by_exit (Exited status) = true
ends_by_exit (Trapped trap) = false
ends_by_exit OutOfSteps = false

abbrev pub was_kept : Option Kept → Bool
was_kept None = false
was_kept (Some kinds.Kept) = true
was_kept (Some (BrokeBound loop_no count)) = false
was_kept (Some (BrokeReturn at to)) = false
was_kept (Some (BrokeDepth at)) = false

abbrev pub exits_kept : Result Report Refusal → Bool
exits_kept (Ok report) = ends_by_exit report.end && was_kept report.kept
exits_kept (Err refusal) = false

-- an input counts where the original run exits within the machine file's steps and is kept
abbrev pub counts : (image machine loop_file input : List ℕ) → Bool
counts image machine loop_file input = exits_kept (simulated image machine input (Some loop_file))

abbrev pub counting : (image machine loop_file : List ℕ) → List (List ℕ) → List (List ℕ)
counting image machine loop_file inputs = filter (counts image machine loop_file) inputs

-- ---- what runs take

-- the energy of a run that ended within its steps
abbrev pub unless_out_of_steps : End → ℕ → Option ℕ
unless_out_of_steps (Exited status) energy = Some energy
unless_out_of_steps (Trapped trap) energy = Some energy
unless_out_of_steps OutOfSteps energy = None

abbrev pub spent_by : Result Report Refusal → Option ℕ
spent_by (Ok report) = unless_out_of_steps report.end report.paid.energy
spent_by (Err refusal) = None

-- the energy of the run of a stored image on an input, where it ends within the machine file's steps
abbrev pub spent_on : (stored machine input : List ℕ) → Option ℕ
spent_on stored machine input = spent_by (simulated stored machine input None)

-- the sum of the energies over some inputs, where each run ends within its steps
pub record IsSpent (stored machine : List ℕ) (inputs : List (List ℕ)) (energy : ℕ) : Type 0 where
  pub ends : All (λ input. IsSome (spent_on stored machine input)) inputs
  pub sum : energy ≡ sum_by (λ input. unwrap_or (spent_on stored machine input) 0) inputs
