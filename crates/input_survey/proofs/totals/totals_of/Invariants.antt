use Rattle.std.proofs.Common.{◌≡◌, take, map}
use Rattle.power_model.specs.Survey.{line_view}
use Rattle.input_survey.specs.Surveyed.{totals_of}
use Rattle.input_survey.specs.Totals.{AreSummed}
use Rattle.input_survey.proofs.totals.totals_of.Given as goal

abbrev pub invariant-loop-line : goal.invariant-loop-line
invariant-loop-line l = record {
  so_far : l.totals ≡ totals_of l.fn.power (map line_view (take l.line-index l.lines));
  summed : AreSummed l.totals;
  inputs : l.totals.inputs ≡ l.line-index;
}
