-- What contracts see of a survey over a list of inputs.
use Rattle.std.specs.Prelude.{ℕ, List, Bool, map}
use Rattle.scale_base.specs.declared.endings.End.{End}
use Rattle.scale_base.specs.declared.endings.Kept.{Kept}
use Rattle.power_model.specs.Numbers.{RunPrice}
use Rattle.power_model.specs.declared.survey.SurveyLine.{SurveyLine}
use Rattle.power_model.specs.declared.survey.SurveyReport.{SurveyReport}
use Rattle.power_model.specs.declared.survey.Totals.{Totals}

-- The runs of both images on one input.
pub record Surveyed : Type 0 where
  pub end : End
  pub kept : Kept
  -- the price of the original run's completed steps
  pub paid : RunPrice
  pub scaled_end : End
  -- the price of the scaled run's completed steps
  pub scaled_paid : RunPrice
  -- the energy of as many cycles at the scaled run's starting level
  pub held : ℕ
  pub same : Bool

abbrev pub line_view : SurveyLine → Surveyed
line_view l = record {
  end = l.end;
  kept = l.kept;
  paid = l.meter;
  scaled_end = l.scaled_end;
  scaled_paid = l.scaled_meter;
  held = l.held;
  same = l.same;
}

-- A line for each input, the most of each loop, and the totals.
pub record Survey : Type 0 where
  pub lines : List Surveyed
  pub most : List ℕ
  pub totals : Totals

abbrev pub survey_view : SurveyReport → Survey
survey_view r = record { lines = map line_view r.lines.items; most = r.most.items; totals = r.totals }
