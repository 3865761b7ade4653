use Rattle.std.proofs.Common.{◌≡◌, ◌<◌, ◌^◌, ℕ, length, map, take, slice_index}
use Rattle.std.specs.List.{All}
use Rattle.loop_file.specs.Notes.{AreLoopNotes}
use Rattle.power_model.specs.Survey.{line_view}
use Rattle.input_survey.specs.Most.{IsMost}
use Rattle.input_survey.specs.Surveyed.{AreLines}
use Rattle.input_survey.proofs.surveying.survey_of.Given as goal

abbrev pub invariant-loop-input : goal.invariant-loop-input
invariant-loop-input g l = record {
  notes : l.counter.notes ≡ l.fn.notes;
  fit : AreLoopNotes l.fn.notes;
  size : length l.counter.most ≡ length l.fn.notes;
  lines : AreLines l.images.power.now l.images.original.now l.images.scaled.now l.fn.notes (map (λ input. input.items) (take l.input-index l.inputs)) (map line_view l.lines.items);
  most : (k : ℕ) → k < length l.fn.notes → IsMost l.images.power.now l.images.original.now l.fn.notes (map (λ input. input.items) (take l.input-index l.inputs)) k (slice_index l.counter.most k);
  held : All (λ line. line.held < 2 ^ 100) l.lines.items;
  count : length l.lines.items ≡ l.input-index;
}
