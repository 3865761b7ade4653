-- What the files that a command has stored promise to whoever runs them.
use Rattle.std.specs.Prelude.{◌≡◌, ℕ, List, [], ◌∷◌, ◌++◌, Option, Some, None, Ok, codes}
use Rattle.std.specs.FinMap.{get}
use Rattle.scaler.specs.Held.{IsHeld}
use Rattle.scaler.specs.Rewritten.{IsRewritten}
use Rattle.scaler.specs.RewrittenRuns.{IsRewrittenSafely}
use Rattle.scaler.specs.Runs.{IsHeldSafely}
use Rattle.scale_base.specs.declared.verdict.Checked.{Checked}
use Rattle.scale_base.specs.declared.verdict.Verdict.TheVariants.{Yes}
use Rattle.image_check.specs.Checked.{IsChecked}
use Rattle.image_check.specs.SafeRuns.{IsCheckedSafely}
use Rattle.image_lower.specs.Lowered.{IsLowered}
use Rattle.image_lower.specs.Promise.{IsLoweredSafely}
use Rattle.power_model.specs.Survey.{Survey as SurveyOfRuns}
use Rattle.input_survey.specs.Surveyed.{IsSurveyed}
use Rattle.input_survey.specs.Said.{SaysOfRuns}
use Rattle.gain_tuner.specs.Choice.{IsTuning}
use Rattle.gain_tuner.specs.Safe.{IsTunedSafely}
use Rattle.host_files.specs.HostState.{Files, HostState}
use Rattle.host_runs.specs.Promise.{Promising, StoredPromise}
use Rattle.host_runs.specs.Promise as runs
use Rattle.scale_tool.specs.Answer.{MadeFiles, AreMade}
use Rattle.scale_tool.specs.Command.{Command, Hold, Rewrite, Make, Lower, Check, Survey, Tune, wants_asked}

-- Of a check: where it answers yes, the image of other make is safe with all numbers that may be given with a yes, those that were printed among them.
abbrev pub VerdictPromise : (image foreign machine loops : List ℕ) → Type 0
VerdictPromise image foreign machine loops =
    (printed : Checked) → IsChecked image foreign machine loops (Ok (Yes printed)) → IsCheckedSafely image foreign machine loops printed

-- Of a survey: whatever may be printed for the loaded files says so of their runs, what was printed among it.
abbrev pub SurveyPromise : (image scaled machine loops : List ℕ) → List (List ℕ) → Type 0
SurveyPromise image scaled machine loops inputs =
    (printed : SurveyOfRuns) → IsSurveyed image scaled machine loops inputs (Ok printed) →
    SaysOfRuns image scaled machine loops inputs printed

-- of `make`: the files of the program of this number and size stand, and beside them what `rewrite` gives for them
pub record MadePromise (number size : ℕ) (prefix : List ℕ) (after : Files) : Type 0 where
  pub made : MadeFiles
  pub are_made : AreMade number size made
  pub image : get after (prefix ++ codes ".elf") ≡ Some made.image
  pub machine : get after (prefix ++ codes ".machine") ≡ Some made.machine
  pub loops : get after (prefix ++ codes ".loops") ≡ Some made.loops
  pub input : get after (prefix ++ codes ".input") ≡ Some made.input
  pub promise : StoredPromise (IsRewritten made.image made.machine made.loops) (IsRewrittenSafely made.image made.machine made.loops) (get after (prefix ++ codes ".scaled"))

-- What a command promises beside its answer, by the files that it loaded and those that stand afterwards. Of `hold`: on every input the stored image runs as the
-- original one does, and as long as its run keeps the loops' bounds and the return addresses it takes at most the printed time, which is at most the deadline, and it
-- ends. Of `rewrite`: on every input on which the original run exits and keeps the loops' bounds and the return addresses, the stored image gives the same output and
-- the same exit status, ends by the deadline, never raises its level, takes no more energy than its own cycles at its starting level would, and adds at most the printed
-- number of cycles. Of `make`: its scaled image keeps what `rewrite` promises of the program, machine file and loop file that stand beside it. Of `lower`: the lowered
-- image follows each run of the original one that keeps to the lists, with the same output and ending, and takes at most the cycles of a tree of the printed depth more
-- for each listed jump that was taken. Of `check`, where it answers yes: the image of other make keeps what `rewrite` promises of the image that it stores, with the
-- printed start, times and number of added cycles. Of `survey`: with each bound the printed most of its loop no run on the inputs breaks a bound, with a lesser one some
-- run does, and where the scaled image is what `rewrite` stores, it ran in time, alike and for at most its held energy on each input on which the original run was kept and
-- exited. Of `tune`: the stored image keeps what `rewrite` promises of the image that it stores, and its runs on the inputs that count take no more energy than those of the
-- image that `hold` stores.
abbrev pub Promise : Command → List (List ℕ) → Files → Type 0
Promise (Hold image machine loops out) (i ∷ m ∷ l ∷ []) after = StoredPromise (IsHeld i m l) (IsHeldSafely i m l) (get after out)
Promise (Rewrite image machine loops out) (i ∷ m ∷ l ∷ []) after = StoredPromise (IsRewritten i m l) (IsRewrittenSafely i m l)
    (get after out)
Promise (Make number size prefix) [] after = MadePromise number size prefix after
Promise (Lower image jumps out) (i ∷ j ∷ []) after = StoredPromise (IsLowered i j) (IsLoweredSafely i j) (get after out)
Promise (Check image foreign machine loops) (i ∷ f ∷ m ∷ l ∷ []) after = VerdictPromise i f m l
Promise (Survey image scaled machine loops inputs) (i ∷ s ∷ m ∷ l ∷ given) after = SurveyPromise i s m l given
Promise (Tune image machine loops out inputs) (i ∷ m ∷ l ∷ given) after = StoredPromise (IsTuning i m l given) (IsTunedSafely i m l)
    (get after out)
Promise command files after = Unit {0}

-- what is promised for what was asked, and nothing for words that are no command
abbrev pub PromiseAsked : Option Command → Promising
PromiseAsked None loaded after = Unit {0}
PromiseAsked (Some command) loaded after = Promise command loaded after

-- what the files that are told afterwards promise, by those that are told before
abbrev pub Promised : Option Command → HostState → HostState → Type 0
Promised asked = runs.Promised (wants_asked asked) (PromiseAsked asked)
