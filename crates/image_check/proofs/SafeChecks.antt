-- What a yes over the bytes of files says of the runs of the other image.
use Rattle.std.proofs.Common.{◌≡◌, ◌≢◌, ℕ, ◌<◌, ◌≤◌, List, length, Option, Some, None, Result, Ok, Err, refl, sym, ap, ◌∙◌, subst}
use Rattle.std.specs.Prelude.{All, IfOk}
use Rattle.scale_base.specs.declared.ranges.Keyed.{Keyed}
use Rattle.scale_base.specs.declared.refusal.Refusal.{Refusal}
use Rattle.scale_base.specs.declared.refusal.Stop.{Stop}
use Rattle.scale_base.specs.declared.verdict.Checked.{Checked}
use Rattle.scale_base.specs.declared.verdict.Verdict.{Verdict}
use Rattle.scale_base.specs.declared.verdict.Verdict.TheVariants.{Yes, No}
use Rattle.scale_base.specs.Answer.{AnswersBy}
use Rattle.scale_base.specs.Image.{Image, image_of}
use Rattle.scale_base.specs.Run.{starting_level}
use Rattle.power_model.specs.Numbers.{PowerModel}
use Rattle.power_model.specs.Price.{time_at}
use Rattle.machine_file.specs.Machine.{read_machine}
use Rattle.machine_file.proofs.Laws.{model-from_bytes}
use Rattle.loop_file.specs.declared.notes.LoopNote.{LoopNote}
use Rattle.loop_file.specs.Loops.{read_loops}
use Rattle.code_text.specs.Text.{text_of}
use Rattle.flow_graph.specs.FlowGraph.{FlowGraph, IsGraphOf}
use Rattle.loop_forest.specs.Tree.{LoopView, IsTreeOf}
use Rattle.rewritten_runs.specs.Promise.{KeepsThePromise}
use Rattle.program_sources.specs.Sources.{sources_of}
use Rattle.program_sources.proofs.Laws.{no_key, sources_parts, then_ok}
use Rattle.rewritten_runs.specs.FilePromise.{FilesKeepThePromise}
use Rattle.image_check.specs.Checked.{IsPassed, IsFileVerdict, IsChecked}
use Rattle.image_check.specs.SafeRuns.{IsCheckedSafely, IsSafeVerdict}
use Rattle.image_check.proofs.Loaded.{loaded_small}
use Rattle.image_check.proofs.Promised.{promise_kept}

-- what a yes went through
record WentThrough (image foreign machine loop_file : List ℕ) (checked : Checked) : Type 0 where
  power : PowerModel
  original : Image
  other : Image
  notes : List LoopNote
  v : FlowGraph
  tree : LoopView
  power_is : read_machine machine ≡ Ok power
  original_is : image_of image ≡ Ok original
  other_is : image_of foreign ≡ Ok other
  plain : original.keyed_segment ≡ None
  notes_are : read_loops original loop_file ≡ Ok notes
  code_is : IsGraphOf (text_of original) v
  tree_is : IsTreeOf v notes tree
  passed : IsPassed power original other notes v tree checked

passed_by : (power : PowerModel) (original : Image) (read : Result Image Refusal) (notes : List LoopNote) (v : FlowGraph) (tree : LoopView) (checked : Checked) → IsFileVerdict power original read notes v tree (Yes checked)
    → (other : Image) × (read ≡ Ok other) × IsPassed power original other notes v tree checked
passed_by power original (Err refusal) notes v tree checked h = let bad : ⊥ = cc in absurd bad
passed_by power original (Ok other) notes v tree checked h = (other, refl, h)

went_through : (image foreign machine loop_file : List ℕ) (checked : Checked) → IsChecked image foreign machine loop_file (Ok (Yes checked)) → WentThrough image foreign machine loop_file checked
unfolding IsChecked
went_through image foreign machine loop_file checked h =
    let read = then_ok (sources_of image machine loop_file) _ (Yes checked) h in
    let s = sources_parts image machine loop_file read.0 read.1 in
    let e = read.2 in
    let f = passed_by read.0.power read.0.view (image_of foreign) read.0.notes e.0 e.1 checked e.4 in
    record {
      power = read.0.power;
      original = read.0.view;
      other = f.0;
      notes = read.0.notes;
      v = e.0;
      tree = e.1;
      power_is = s.power_is;
      original_is = s.view_is;
      other_is = f.1;
      plain = no_key read.0.view.keyed_segment s.unscaled;
      notes_are = s.notes_are;
      code_is = e.2;
      tree_is = e.3;
      passed = f.2;
    }

key_of : (o : Option Keyed) → o ≢ None → (key : Keyed) × (o ≡ Some key)
key_of None some = absurd (some refl)
key_of (Some key) some = (key, refl)

pub checked_safe : (image foreign machine loop_file : List ℕ) (checked : Checked) → IsChecked image foreign machine loop_file (Ok (Yes checked)) → All (λ b. b < 256) foreign → IsCheckedSafely image foreign machine loop_file checked
checked_safe image foreign machine loop_file checked h bytes =
    let w = went_through image foreign machine loop_file checked h in
    let p = w.passed in
    let key = key_of w.other.keyed_segment p.safe.scanned.key in
    let levels = length w.power.levels in
    let starts : checked.start ≡ key.0.start = p.start ∙ ap (starting_level levels) key.1 in
    let time : checked.time ≡ time_at w.power checked.start checked.worst = p.time ∙ (sym (ap (λ i. time_at w.power i (p.n.worst 0)) p.start) ∙ sym (ap (time_at w.power checked.start) p.worst)) in
    let kept : KeepsThePromise w.power w.original w.notes w.other (p.more.worst 0) =
    promise_kept w.power (model-from_bytes machine w.power w.power_is) image foreign w.original w.other w.original_is w.other_is (loaded_small foreign w.other w.other_is bytes) w.plain
    w.notes w.v w.tree w.code_is w.tree_is p.found p.owner p.n p.least p.more p.safe in
    let files : FilesKeepThePromise image machine loop_file foreign checked.start checked.worst checked.time checked.stub_cycles = record {
      power = w.power;
      original = w.original;
      notes = w.notes;
      rewritten = w.other;
      power_is = w.power_is;
      original_is = w.original_is;
      notes_are = w.notes_are;
      rewritten_is = w.other_is;
      same_text = p.safe.scanned.layout.text;
      key = key.0;
      keyed = key.1;
      starts = sym starts;
      time = time;
      in_time = subst (λ x. x ≤ w.power.deadline) (sym p.time) p.safe.in_time;
      promise = subst (λ x. KeepsThePromise w.power w.original w.notes w.other x) (sym p.stub_cycles) kept;
    } in
    record { files = files; deadline = p.deadline }

-- what a call of `check` gives: the numbers of a slice of bytes are below 256
pub safe_given : (image foreign machine loop_file : List ℕ) (result : Result Verdict Stop) → All (λ b. b < 256) foreign → AnswersBy {X = Verdict} {Y = Verdict} (λ v. v) result (IsChecked image foreign machine loop_file) → IfOk result (IsSafeVerdict image foreign machine loop_file)
safe_given image foreign machine loop_file (Ok (Yes checked)) bytes h = checked_safe image foreign machine loop_file checked h bytes
safe_given image foreign machine loop_file (Ok (No cause)) bytes h = tt
safe_given image foreign machine loop_file (Err stop) bytes h = tt
