-- What contracts see of the report of a simulated run.
use Rattle.std.specs.Prelude.{ℕ, List, Option}
use Rattle.scale_base.specs.declared.endings.End.{End}
use Rattle.scale_base.specs.declared.endings.Kept.{Kept}
use Rattle.power_model.specs.Numbers.{RunPrice}
use Rattle.power_model.specs.declared.report.RunReport.{RunReport}

pub record Report : Type 0 where
  pub end : End
  -- the price of the completed steps
  pub paid : RunPrice
  -- the energy of as many cycles at the starting level
  pub held : ℕ
  pub output : List ℕ
  -- none where no loop file was given
  pub kept : Option Kept

abbrev pub report_view : RunReport → Report
report_view r = record { end = r.end; paid = r.meter; held = r.held; output = r.output.items; kept = r.kept }
