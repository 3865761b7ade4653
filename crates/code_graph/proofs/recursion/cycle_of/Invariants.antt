use Rattle.std.proofs.Common.{◌≡◌, map, take}
use Rattle.std.specs.Prelude.{slice_index}
use Rattle.code_graph.proofs.recursion.cycle_of.Given as goal

abbrev pub invariant-loop-f : goal.invariant-loop-f
invariant-loop-f l = l.numbers.items ≡ map (slice_index l.entries) (take l.f-index l.cycle)
