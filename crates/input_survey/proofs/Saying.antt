-- What a survey says of the runs on its inputs, by the bytes of the files.
use Rattle.std.proofs.Common.{◌≡◌, ℕ, ◌≤◌, List, length, ap, ◌∙◌, subst}
use Rattle.std.specs.List.{All}
use Rattle.scale_base.specs.declared.summary.Summary.{Summary}
use Rattle.scale_base.specs.Image.{Image, image_of}
use Rattle.power_model.specs.Numbers.{PowerModel}
use Rattle.power_model.specs.Survey.{Survey}
use Rattle.machine_file.specs.Machine.{read_machine}
use Rattle.loop_file.specs.declared.notes.LoopNote.{LoopNote}
use Rattle.loop_file.specs.Loops.{read_loops}
use Rattle.rewritten_runs.specs.Promise.{KeepsThePromise}
use Rattle.scaler.specs.RewrittenRuns.{IsRewrittenSafely}
use Rattle.scaler.proofs.Laws.{rewritten_safe}
use Rattle.input_survey.specs.Bounds.{OfFiles, MostIsEnough, MostIsNeeded}
use Rattle.input_survey.specs.Promised.{IsPromised, LinesArePromised}
use Rattle.input_survey.specs.Said.{SurveysSayOfRuns}
use Rattle.input_survey.proofs.Went.{WentThrough, went_through, same_ok}
use Rattle.input_survey.proofs.BoundLaws.{most_is_enough, most_is_needed}
use Rattle.input_survey.proofs.PromiseLaws.{lines_promised}

module _ (image scaled machine loops : List ℕ) (inputs : List (List ℕ)) (survey : Survey) (w : WentThrough image scaled machine loops inputs survey) where
  -- what holds of the files that were read holds of what the bytes are
  of_files : (Says : PowerModel → Image → List LoopNote → Type 0) → Says w.power w.original w.notes → OfFiles Says image machine loops
  of_files Says h power original notes power_is original_is notes_are =
      let same_power : w.power ≡ power = same_ok (read_machine machine) w.power power w.power_is power_is in
      let same_original : w.original ≡ original = same_ok (image_of image) w.original original w.original_is original_is in
      let same_notes : w.notes ≡ notes = same_ok (read_loops w.original loops) w.notes notes w.notes_are (ap (λ i. read_loops i loops) same_original ∙ notes_are) in
      subst (λ p. Says p original notes) same_power (subst (λ i. Says w.power i notes) same_original (subst (λ n. Says w.power w.original n) same_notes h))

  -- the runs that `rewrite` promises are those of the lines
  promise_of : (summary : Summary) (is : IsRewrittenSafely image machine loops scaled summary) → KeepsThePromise w.power w.original w.notes w.other summary.stub_cycles
  promise_of summary is =
      let same_power : is.safe.files.power ≡ w.power = same_ok (read_machine machine) is.safe.files.power w.power is.safe.files.power_is w.power_is in
      let same_original : is.safe.files.original ≡ w.original = same_ok (image_of image) is.safe.files.original w.original is.safe.files.original_is w.original_is in
      let same_notes : is.safe.files.notes ≡ w.notes = same_ok (read_loops is.safe.files.original loops) is.safe.files.notes w.notes is.safe.files.notes_are (ap (λ i. read_loops i loops) same_original ∙ w.notes_are) in
      let same_other : is.safe.files.rewritten ≡ w.other = same_ok (image_of scaled) is.safe.files.rewritten w.other is.safe.files.rewritten_is w.other_is in
      subst (λ p. KeepsThePromise p w.original w.notes w.other summary.stub_cycles) same_power
      (subst (λ i. KeepsThePromise is.safe.files.power i w.notes w.other summary.stub_cycles) same_original
      (subst (λ n. KeepsThePromise is.safe.files.power is.safe.files.original n w.other summary.stub_cycles) same_notes
      (subst (λ o. KeepsThePromise is.safe.files.power is.safe.files.original is.safe.files.notes o summary.stub_cycles) same_other is.safe.files.promise)))

  pub bounds_enough : MostIsEnough image machine loops inputs survey.most
  bounds_enough = of_files _ (most_is_enough w.power w.original w.other w.notes inputs survey w.surveyed)

  pub bounds_needed : MostIsNeeded image machine loops inputs survey.most
  bounds_needed = of_files _ (most_is_needed w.power w.original w.other w.notes inputs survey w.surveyed)

  pub lines_keep : length image ≤ 4194304 → length machine ≤ 1048576 → length loops ≤ 1048576 → LinesArePromised image scaled machine loops survey.lines
  lines_keep si sm sl = λ summary rewritten power power_is.
      let promise = promise_of summary (rewritten_safe image machine loops scaled summary si sm sl rewritten) in
      let lines = lines_promised w.power w.original w.other w.notes summary.stub_cycles promise inputs survey.lines w.surveyed.lines in
      subst (λ p. All (IsPromised p) survey.lines) (same_ok (read_machine machine) w.power power w.power_is power_is) lines

pub surveyed_says : SurveysSayOfRuns
surveyed_says image scaled machine loops inputs survey si sm sl h =
    let w = went_through image scaled machine loops inputs survey h in
    record {
      enough = bounds_enough image scaled machine loops inputs survey w;
      needed = bounds_needed image scaled machine loops inputs survey w;
      promised = lines_keep image scaled machine loops inputs survey w si sm sl;
    }
