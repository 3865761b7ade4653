use Rattle.std.proofs.Common.{◌≡◌, ◌≤◌, ◌^◌, map, take}
use Rattle.std.specs.List.{All}
use Rattle.pace_fit.specs.Endings.{ending_on}
use Rattle.pace_fit.proofs.endings.endings_of.Given as goal

-- the endings so far
abbrev pub invariant-loop-input : goal.invariant-loop-input
invariant-loop-input g l = record {
  are : l.endings.items ≡ map (λ input. ending_on l.given.image.now l.given.machine.now l.given.loops.now input.items) (take l.input-index l.given.inputs.now);
  small : All (λ ending. ending.cycles ≤ 2 ^ 56) l.endings.items;
}
