-- Scaffold: totals that grow line by line.
use Rattle.std.specs.Prelude.{◌+◌, ◌*◌, ◌^◌, ◌≤◌, not, cond}
use Rattle.power_model.specs.declared.survey.Totals.{Totals}
use Rattle.power_model.specs.Numbers.{PowerModel}
use Rattle.power_model.specs.Survey.{Surveyed}
use Rattle.input_survey.specs.Surveyed.{is_kept, is_late}

-- the totals with one line more
abbrev pub with_line : PowerModel → Totals → Surveyed → Totals
with_line power t line = record {
  inputs = t.inputs + 1;
  kept = t.kept + cond (is_kept line.kept) 1 0;
  late = t.late + cond (is_late power line) 1 0;
  differ = t.differ + cond (not line.same) 1 0;
  cycles = t.cycles + line.paid.cycles;
  scaled_cycles = t.scaled_cycles + line.scaled_paid.cycles;
  energy = t.energy + line.scaled_paid.energy;
  held = t.held + line.held;
  switches = t.switches + line.scaled_paid.switches;
}

-- what the number of lines says of their totals
pub record AreSummed (t : Totals) : Type 0 where
  pub kept : t.kept ≤ t.inputs
  pub late : t.late ≤ t.inputs
  pub differ : t.differ ≤ t.inputs
  pub cycles : t.cycles ≤ 2 ^ 100 * t.inputs
  pub scaled_cycles : t.scaled_cycles ≤ 2 ^ 100 * t.inputs
  pub energy : t.energy ≤ 2 ^ 113 * t.inputs
  pub held : t.held ≤ 2 ^ 100 * t.inputs
  pub switches : t.switches ≤ 2 ^ 100 * t.inputs
