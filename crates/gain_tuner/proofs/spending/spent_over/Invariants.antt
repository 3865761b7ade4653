use Rattle.std.proofs.Common.{◌*◌, ◌^◌, ◌≤◌, map, take}
use Rattle.gain_tuner.specs.Spending.{counting, IsSpent}
use Rattle.gain_tuner.proofs.spending.spent_over.Given as goal

-- the energy on the inputs so far
abbrev pub invariant-loop-k : goal.invariant-loop-k
invariant-loop-k g l = record {
  spent : IsSpent l.stored l.files.machine.now (counting l.files.image.now l.files.machine.now l.files.loops.now (take l.k (map (λ input. input.items) l.files.inputs.now))) l.energy;
  small : l.energy ≤ l.k * 2 ^ 113;
}
