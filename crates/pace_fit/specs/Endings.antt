-- How the runs of an original on inputs end: whether each exits, traps or is out of steps, whether it keeps the loop file's bounds and the return addresses, and its cycles.
use Rattle.std.specs.Prelude.{ℕ, ◌&&◌, Bool, List, map, Some, None, Result, Ok, Err}
use Rattle.scale_base.specs.declared.endings.End.TheVariants.{OutOfSteps}
use Rattle.scale_base.specs.declared.refusal.Refusal.{Refusal}
use Rattle.power_model.specs.Report.{Report}
use Rattle.speed_sim.specs.Simulated.{simulated}
use Rattle.gain_tuner.specs.Spending.{ends_by_exit, was_kept}
use Rattle.pace_fit.specs.declared.endings.Ending.{Ending}

-- Of the report of a run. No run of a program that can be held is refused; so what stands for one is never told.
abbrev pub ending_by : Result Report Refusal → Ending
ending_by (Ok report) = record { end = report.end; kept = report.kept; cycles = report.paid.cycles }
ending_by (Err refusal) = record { end = OutOfSteps; kept = None; cycles = 0 }

abbrev pub ending_on : (image machine loop_file input : List ℕ) → Ending
ending_on image machine loop_file input = ending_by (simulated image machine input (Some loop_file))

abbrev pub endings_on : (image machine loop_file : List ℕ) → List (List ℕ) → List Ending
endings_on image machine loop_file inputs = map (ending_on image machine loop_file) inputs

-- an input whose run ends so counts: it exits within the machine file's steps, and is kept
abbrev pub is_counted : Ending → Bool
is_counted ending = ends_by_exit ending.end && was_kept ending.kept
