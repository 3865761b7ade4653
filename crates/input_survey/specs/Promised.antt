-- What the lines of a survey say where the scaled image is what `rewrite` stores for the same files.
use Rattle.std.specs.Prelude.{◌≡◌, ◌≢◌, ℕ, ◌≤◌, IsTrue, List, Ok}
use Rattle.std.specs.List.{All}
use Rattle.scale_base.specs.declared.endings.End.TheVariants.{Exited, OutOfSteps}
use Rattle.scale_base.specs.declared.endings.Kept.TheVariants as kinds
use Rattle.scale_base.specs.declared.summary.Summary.{Summary}
use Rattle.power_model.specs.Numbers.{PowerModel}
use Rattle.power_model.specs.Survey.{Surveyed}
use Rattle.machine_file.specs.Machine.{read_machine}
use Rattle.scaler.specs.Rewritten.{IsRewritten}

-- the scaled run isn't late, has the same output and ending, and spends at most its held energy
pub record KeepsLine (power : PowerModel) (line : Surveyed) : Type 0 where
  pub in_time : line.scaled_paid.time ≤ power.deadline
  pub same : IsTrue line.same
  pub energy : line.scaled_paid.energy ≤ line.held

-- where the original run is kept and exits, and the scaled run isn't out of steps
abbrev pub IsPromised : PowerModel → Surveyed → Type 0
IsPromised power line = (status : ℕ) → line.kept ≡ kinds.Kept → line.end ≡ Exited status → line.scaled_end ≢ OutOfSteps →
    KeepsLine power line

-- each line of a survey with what `rewrite` stores
abbrev pub LinesArePromised : (image scaled machine loops : List ℕ) → List Surveyed → Type 0
LinesArePromised image scaled machine loops lines =
    (summary : Summary) → IsRewritten image machine loops (Ok ((scaled, summary))) → (power : PowerModel) →
    read_machine machine ≡ Ok power → All (IsPromised power) lines
