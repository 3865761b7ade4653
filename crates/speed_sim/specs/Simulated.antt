-- What simulating an image gives: the report of its run, or the first refusal.
use Rattle.std.specs.Prelude.{ℕ, nat_lt, if◌then◌else◌, List, length, Option, Some, None, option_map, Result, Ok, Err}
use Rattle.scale_base.specs.declared.endings.End.{End}
use Rattle.scale_base.specs.declared.endings.End.TheVariants.{Exited, Trapped, OutOfSteps}
use Rattle.scale_base.specs.declared.endings.Kept.{Kept}
use Rattle.scale_base.specs.declared.ranges.Keyed.{Keyed}
use Rattle.scale_base.specs.declared.refusal.Refusal.{Refusal}
use Rattle.scale_base.specs.declared.refusal.Refusal.TheVariants.{AlreadyScaled, StartLevel}
use Rattle.scale_base.specs.Image.{Image, image_of}
use Rattle.scale_base.specs.Run.{Run, Standing, GoesOn, HasExited, HasTrapped, run_of, starting_level}
use Rattle.power_model.specs.Numbers.{PowerModel, RunPrice}
use Rattle.power_model.specs.Price.{price, held_energy}
use Rattle.power_model.specs.Report.{Report}
use Rattle.machine_file.specs.Machine.{read_machine}
use Rattle.table_keys.specs.Keys.{◌>>=◌}
use Rattle.loop_file.specs.declared.notes.LoopNote.{LoopNote}
use Rattle.loop_file.specs.Loops.{read_loops}
use Rattle.keep_monitor.specs.Watch.{watched_at}

-- How a run ended, by how it stands after as many steps as may be completed. A run that goes on then is out of steps, whatever would
-- come next.
abbrev pub run_end : Standing → End
run_end GoesOn = OutOfSteps
run_end (HasExited status) = Exited status
run_end (HasTrapped trap) = Trapped trap

-- the report of a run, by the level that it starts at
abbrev pub report_by : PowerModel → Run → RunPrice → Option Kept → Report
report_by power r paid kept = record {
  end = run_end r.standing;
  paid = paid;
  held = held_energy power paid;
  output = r.state.output;
  kept = kept;
}

-- The report of the run of an image with an input on a machine, with at most as many steps as the machine file says. Where there are
-- notes of loops, it says whether they are kept.
unfoldable pub report_of : PowerModel → Image → List ℕ → Option (List LoopNote) → Report
report_of power image input notes =
    let levels = length power.levels in
    let r = run_of image levels input power.steps in
    report_by power r (price power (starting_level levels image.keyed_segment) r.steps)
    (option_map (λ loops. (watched_at image levels input loops power.steps).kept) notes)

-- a loop file is given with an image without a keyed segment alone
abbrev pub loops_allowed : Option (List ℕ) → Option Keyed → Result (Unit {0}) Refusal
loops_allowed None keyed = Ok tt
loops_allowed (Some loops) None = Ok tt
loops_allowed (Some loops) (Some keyed) = Err AlreadyScaled

-- the level of a keyed segment is one of so many
abbrev pub level_allowed : ℕ → Option Keyed → Result (Unit {0}) Refusal
level_allowed levels None = Ok tt
level_allowed levels (Some keyed) = if nat_lt keyed.start levels then Ok tt else Err (StartLevel keyed.start levels)

-- the notes of the loop file, if one is given
abbrev pub given_notes : Image → Option (List ℕ) → Result (Option (List LoopNote)) Refusal
given_notes image None = Ok None
given_notes image (Some loops) = read_loops image loops >>= λ notes. Ok (Some notes)

-- The report of an image's run by the bytes of the files, or the first refusal: of the machine file, of the image, of a keyed segment with
-- a loop file, of its level, of the loop file.
unfoldable pub simulated : List ℕ → List ℕ → List ℕ → Option (List ℕ) → Result Report Refusal
simulated image machine input loops = do
  power ← read_machine machine
  original ← image_of image
  _ ← loops_allowed loops original.keyed_segment
  _ ← level_allowed (length power.levels) original.keyed_segment
  notes ← given_notes original loops
  Ok (report_of power original input notes)
