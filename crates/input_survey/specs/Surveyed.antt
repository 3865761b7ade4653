-- What a survey of the runs of an image, and of an image that was scaled, over a list of inputs gives, or the first refusal.
use Rattle.std.specs.Prelude.{◌≡◌, ◌↔◌, ℕ, ◌<◌, nat_lt, Bool, true, false, not, IsTrue, List, [], ◌∷◌, length, slice_index, Some, None, Result, Ok, sum_by, count_by}
use Rattle.scale_base.specs.declared.endings.Kept.{Kept}
use Rattle.scale_base.specs.declared.endings.Kept.TheVariants.{BrokeBound, BrokeReturn, BrokeDepth}
use Rattle.scale_base.specs.declared.endings.Kept.TheVariants as kinds
use Rattle.scale_base.specs.declared.refusal.Refusal.{Refusal}
use Rattle.scale_base.specs.Image.{Image, image_of}
use Rattle.power_model.specs.declared.survey.Totals.{Totals}
use Rattle.power_model.specs.Numbers.{PowerModel}
use Rattle.power_model.specs.Report.{Report}
use Rattle.power_model.specs.Survey.{Surveyed, Survey}
use Rattle.loop_file.specs.declared.notes.LoopNote.{LoopNote}
use Rattle.loop_file.specs.Loops.{read_loops}
use Rattle.speed_sim.specs.Simulated.{report_of, level_allowed}
use Rattle.answer_parts.specs.Parts.{Then}
use Rattle.program_sources.specs.Sources.{original_of}
use Rattle.input_survey.specs.Most.{IsMost}

-- ---- a line for each input

-- the reports of the two runs give a line. Two runs that are out of steps end alike.
pub record IsLineOf (original scaled : Report) (line : Surveyed) : Type 0 where
  pub end : line.end ≡ original.end
  pub kept : Some line.kept ≡ original.kept
  pub paid : line.paid ≡ original.paid
  pub scaled_end : line.scaled_end ≡ scaled.end
  pub scaled_paid : line.scaled_paid ≡ scaled.paid
  pub held : line.held ≡ scaled.held
  pub same : IsTrue line.same ↔ ((original.end ≡ scaled.end) × (original.output ≡ scaled.output))

-- the runs of both images on an input, each with at most as many steps as the machine file says, the original's by the notes of its loops
abbrev pub IsLine : PowerModel → Image → Image → List LoopNote → List ℕ → Surveyed → Type 0
IsLine power original scaled notes input line = IsLineOf (report_of power original input (Some notes)) (report_of power scaled input None)
    line

-- a line for each input, in their order
abbrev pub AreLines : PowerModel → Image → Image → List LoopNote → List (List ℕ) → List Surveyed → Type 0
AreLines power original scaled notes [] [] = Unit {0}
AreLines power original scaled notes [] (line ∷ lines) = ⊥
AreLines power original scaled notes (input ∷ inputs) [] = ⊥
AreLines power original scaled notes (input ∷ inputs) (line ∷ lines) = IsLine power original scaled notes input line ×
    AreLines power original scaled notes inputs lines

-- ---- what the lines come to

abbrev pub is_kept : Kept → Bool
is_kept kinds.Kept = true
is_kept (BrokeBound loop_no count) = false
is_kept (BrokeReturn at to) = false
is_kept (BrokeDepth at) = false

-- whether the scaled run takes more time than the deadline
abbrev pub is_late : PowerModel → Surveyed → Bool
is_late power line = nat_lt power.deadline line.scaled_paid.time

-- Each total is the sum over the lines. Energy, held energy and switches are the scaled runs'.
abbrev pub totals_of : PowerModel → List Surveyed → Totals
totals_of power lines = record {
  inputs = length lines;
  kept = count_by (λ line. is_kept line.kept) lines;
  late = count_by (is_late power) lines;
  differ = count_by (λ line. not line.same) lines;
  cycles = sum_by (λ line. line.paid.cycles) lines;
  scaled_cycles = sum_by (λ line. line.scaled_paid.cycles) lines;
  energy = sum_by (λ line. line.scaled_paid.energy) lines;
  held = sum_by (λ line. line.held) lines;
  switches = sum_by (λ line. line.scaled_paid.switches) lines;
}

-- ---- the survey

pub record IsSurvey (power : PowerModel) (original scaled : Image) (notes : List LoopNote) (inputs : List (List ℕ)) (survey : Survey)
    : Type 0 where
  pub lines : AreLines power original scaled notes inputs survey.lines
  pub loops : length survey.most ≡ length notes
  pub most : (k : ℕ) → k < length notes → IsMost power original notes inputs k (slice_index survey.most k)
  pub totals : survey.totals ≡ totals_of power survey.lines

pub record IsSurveyAnswer (power : PowerModel) (original scaled : Image) (notes : List LoopNote) (inputs : List (List ℕ))
    (answer : Result Survey Refusal) : Type 0 where
  pub survey : Survey
  pub is : IsSurvey power original scaled notes inputs survey
  pub answer_is : answer ≡ Ok survey

-- The survey by the bytes of the files, or the first refusal: of the machine file, of the image, of its keyed segment, of the scaled image, of the level of its keyed
-- segment, of the loop file.
unfoldable pub IsSurveyed : (image scaled machine loops : List ℕ) → List (List ℕ) → Result Survey Refusal → Type 0
IsSurveyed image scaled machine loops inputs answer =
    Then (original_of image machine) (λ original.
    Then (image_of scaled) (λ other.
    Then (level_allowed (length original.power.levels) other.keyed_segment) (λ _.
    Then (read_loops original.view loops) (λ notes.
    IsSurveyAnswer original.power original.view other notes inputs)))) answer
