-- What a command may answer: its stores in order, the text that it prints, and its status.
use Rattle.std.specs.Prelude.{◌≡◌, ℕ, ◌<◌, ◌^◌, List, [], ◌∷◌, ◌++◌, flat_map, All, Option, Some, None, Result, Ok, Err, codes}
use Rattle.scale_base.specs.declared.refusal.Refusal.{Refusal}
use Rattle.scale_base.specs.declared.plan.SiteLine.{SiteLine}
use Rattle.scale_base.specs.declared.summary.Summary.{Summary}
use Rattle.scale_base.specs.declared.verdict.Verdict.{Verdict}
use Rattle.scale_base.specs.declared.verdict.Verdict.TheVariants.{Yes, No}
use Rattle.scale_base.specs.declared.endings.End.{End}
use Rattle.scale_base.specs.declared.endings.End.TheVariants.{Exited, Trapped, OutOfSteps}
use Rattle.power_model.specs.Report.{Report as RunReport}
use Rattle.scale_report.specs.Texts.{summary_text, lowered_text, verdict_text, survey_text, tuned_text, run_text, site_line}
use Rattle.scaler.specs.Held.{IsHeld}
use Rattle.scaler.specs.Planned.{IsPlanned}
use Rattle.scaler.specs.Rewritten.{IsRewritten}
use Rattle.speed_sim.specs.Simulated.{simulated}
use Rattle.image_lower.specs.Lowered.{IsLowered}
use Rattle.image_check.specs.Checked.{IsChecked}
use Rattle.input_survey.specs.Surveyed.{IsSurveyed}
use Rattle.gain_tuner.specs.Choice.{IsTuning}
use Rattle.image_maker.specs.Made.{IsImageOf}
use Rattle.image_maker.specs.MadeTexts.{machine_text, loops_text, drawn_bytes}
use Rattle.image_maker.specs.Making.{program, headers, state_at}
use Rattle.host_runs.specs.Answer.{Answer, Stores, Tells, refused, stored_answer, text_answer}
use Rattle.host_runs.specs.Command.{Answering}
use Rattle.scale_tool.specs.Command.{Command, Help, Hold, Rewrite, Report, Simulate, Make, Lower, Check, Survey, Tune}

-- the line for words that are no command
abbrev pub bad_command_text : List ℕ
bad_command_text = codes "bad command; try: scale help\n"

-- the answer to words that are no command
abbrev pub bad_command : Answer
bad_command = record { stores = []; text = bad_command_text; status = 2 }

-- how the commands are called
abbrev pub help_text : List ℕ
help_text = codes "scale hold IMAGE MACHINE LOOPS OUT\nscale rewrite IMAGE MACHINE LOOPS OUT\nscale report IMAGE MACHINE LOOPS\nscale simulate IMAGE MACHINE INPUT OUT [LOOPS]\nscale make NUMBER SIZE PREFIX\nscale help\nscale check IMAGE FOREIGN MACHINE LOOPS\nscale lower IMAGE JUMPS OUT\nscale survey IMAGE SCALED MACHINE LOOPS INPUT ..\nscale tune IMAGE MACHINE LOOPS OUT INPUT ..\n"

-- the answer to `help`
abbrev pub help : Answer
help = record { stores = []; text = help_text; status = 0 }

-- the text of a plan: the summary, and a line for each edge that gets something
abbrev pub text_of_plan : Summary × List SiteLine → List ℕ
text_of_plan plan = summary_text plan.0 ++ flat_map site_line plan.1

-- the status of a verdict: the image is safe, or it isn't known to be
abbrev pub verdict_status : Verdict → ℕ
verdict_status (Yes checked) = 0
verdict_status (No why) = 7

-- the verdict, or the refusal
abbrev pub verdict_answer : Result Verdict Refusal → Answer
verdict_answer (Ok verdict) = record { stores = []; text = verdict_text verdict; status = verdict_status verdict }
verdict_answer (Err refusal) = refused refusal

-- the status of a simulated run, by how it ended: it exited, whatever its own status is, or it trapped, or it was out of steps
abbrev pub run_status : End → ℕ
run_status (Exited status) = 0
run_status (Trapped trap) = 5
run_status OutOfSteps = 6

-- what the run wrote, and its report, or the refusal
abbrev pub run_answer : List ℕ → Result RunReport Refusal → Answer
run_answer out (Ok report) = record { stores = (out, report.output) ∷ []; text = run_text report; status = run_status report.end }
run_answer out (Err refusal) = refused refusal

-- The answer to `simulate` with this name of OUT, by the bytes of its image, machine file and input, and of the loop file, if one is given.
abbrev pub MakesRun : (image machine input : List ℕ) → (loops : Option (List ℕ)) → (out : List ℕ) → Answer → Type 0
MakesRun image machine input loops out answer = answer ≡ run_answer out (simulated image machine input loops)

-- a made program's image, and the files that go with it
pub record MadeFiles : Type 0 where
  pub image : List ℕ
  pub machine : List ℕ
  pub loops : List ℕ
  pub input : List ℕ

-- they are those of the program of this number and with so many blocks
pub record AreMade (number size : ℕ) (made : MadeFiles) : Type 0 where
  pub image : IsImageOf (program number size) made.image
  pub machine : made.machine ≡ machine_text size
  pub loops : made.loops ≡ loops_text (headers number size)
  pub input : made.input ≡ drawn_bytes (state_at number size) 256

-- the files of a made program and its scaled image, under names that begin alike
abbrev pub made_stores : List ℕ → MadeFiles → List ℕ → Stores
made_stores prefix made scaled =
    (prefix ++ codes ".elf", made.image) ∷ (prefix ++ codes ".machine", made.machine) ∷ (prefix ++ codes ".loops", made.loops)
    ∷ (prefix ++ codes ".input", made.input) ∷ (prefix ++ codes ".scaled", scaled) ∷ []

-- what follows a part, unless that is refused
abbrev pub unless_refused : {A : Type 0} → Result A Refusal → (A → Answer) → Answer
unless_refused (Ok part) next = next part
unless_refused (Err refusal) next = refused refusal

-- all files, the summary, and the two reports
abbrev pub runs_answer : List ℕ → MadeFiles → List ℕ × Summary → (first second : RunReport) → Answer
runs_answer prefix made scaled first second =
    record {
      stores = made_stores prefix made scaled.0;
      text = summary_text scaled.1 ++ run_text first ++ run_text second;
      status = run_status second.end;
    }

-- how both images run: the made one with its loop file, and the scaled one without one; or the first refusal
abbrev pub scaled_answer : List ℕ → MadeFiles → List ℕ × Summary → Answer
scaled_answer prefix made scaled =
    unless_refused (simulated made.image made.machine made.input (Some made.loops)) (λ first.
    unless_refused (simulated scaled.0 made.machine made.input None) (runs_answer prefix made scaled first))

-- all files, the summary, and the reports of the run of the made image with its loop file and of that of the scaled image without one; or the first refusal
abbrev pub made_answer : List ℕ → MadeFiles → Result (List ℕ × Summary) Refusal → Answer
made_answer prefix made given = unless_refused given (scaled_answer prefix made)

-- The answer to `make`: it tells what is made of the number and the size, what `rewrite` gives for that, and how both images run.
pub record MakesMade (number size : ℕ) (prefix : List ℕ) (answer : Answer) : Type 0 where
  pub made : MadeFiles
  pub are_made : AreMade number size made
  pub given : Result (List ℕ × Summary) Refusal
  pub is_given : IsRewritten made.image made.machine made.loops given
  pub told : answer ≡ made_answer prefix made given

-- the numbers of a file are bytes, as those of each file that was loaded
abbrev pub AreBytes : List ℕ → Type 0
AreBytes file = All (λ b. b < 2 ^ 8) file

-- What the command may make of its files, as many as it loads. It is told of what it gives for their bytes. `lower` takes an original of bytes, and `check` an image of other
-- make of bytes, since what they promise is said of bytes.
abbrev pub Makes : Command → List (List ℕ) → Answer → Type 0
Makes Help [] answer = answer ≡ help
Makes (Hold image machine loops out) (i ∷ m ∷ l ∷ []) answer = Tells (IsHeld i m l) (stored_answer summary_text out) answer
Makes (Rewrite image machine loops out) (i ∷ m ∷ l ∷ []) answer = Tells (IsRewritten i m l) (stored_answer summary_text out) answer
Makes (Report image machine loops) (i ∷ m ∷ l ∷ []) answer = Tells (IsPlanned i m l) (text_answer text_of_plan) answer
Makes (Simulate image machine input out None) (i ∷ m ∷ n ∷ []) answer = MakesRun i m n None out answer
Makes (Simulate image machine input out (Some loops)) (i ∷ m ∷ n ∷ l ∷ []) answer = MakesRun i m n (Some l) out answer
Makes (Make number size prefix) [] answer = MakesMade number size prefix answer
Makes (Lower image jumps out) (i ∷ j ∷ []) answer = AreBytes i × Tells (IsLowered i j) (stored_answer lowered_text out) answer
Makes (Check image foreign machine loops) (i ∷ f ∷ m ∷ l ∷ []) answer = AreBytes f × Tells (IsChecked i f m l) verdict_answer answer
Makes (Survey image scaled machine loops inputs) (i ∷ s ∷ m ∷ l ∷ given) answer =
    Tells (IsSurveyed i s m l given) (text_answer survey_text) answer
Makes (Tune image machine loops out inputs) (i ∷ m ∷ l ∷ given) answer = Tells (IsTuning i m l given) (stored_answer tuned_text out) answer
Makes command files answer = ⊥

-- what may be made of the files of what was asked, and the answer to words that are no command
abbrev pub MakesAsked : Option Command → Answering
MakesAsked None files answer = answer ≡ bad_command
MakesAsked (Some command) files answer = Makes command files answer
