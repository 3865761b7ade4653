-- Scaffold: the numbers at the top of the file, as contracts see them.
use Rattle.machine_file.specs.declared.reads.TopNumbers.{TopNumbers}
use Rattle.machine_file.specs.Pairs.{cost_view}
use Rattle.machine_file.specs.Machine.{FileNumbers}

abbrev pub file_numbers : TopNumbers → FileNumbers
file_numbers top = record {
  deadline = top.deadline;
  steps = top.steps;
  min_gain = top.min_gain;
  switch_time = cost_view top.switch_time;
  switch_energy = cost_view top.switch_energy;
}
