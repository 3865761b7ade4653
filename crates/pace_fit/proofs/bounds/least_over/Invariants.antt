use Rattle.std.proofs.Common.{◌≡◌, ◌*◌, ◌^◌, ◌≤◌, take}
use Rattle.std.specs.Prelude.{sum_by}
use Rattle.std.specs.List.{filter}
use Rattle.pace_fit.specs.Endings.{is_counted}
use Rattle.pace_fit.specs.Least.{least_energy}
use Rattle.pace_fit.proofs.bounds.least_over.Given as goal

-- the energy of the runs so far
abbrev pub invariant-loop-ending : goal.invariant-loop-ending
invariant-loop-ending l = record {
  sum : l.energy ≡ sum_by (λ ending. least_energy l.power ending.cycles) (filter is_counted (take l.ending-index l.endings));
  small : l.energy ≤ l.ending-index * 2 ^ 121;
}
