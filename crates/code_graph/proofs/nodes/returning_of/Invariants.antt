use Rattle.std.proofs.Common.{◌≡◌, map, take}
use Rattle.code_graph.specs.Assembling.{flag_of}
use Rattle.code_graph.proofs.nodes.returning_of.Given as goal

abbrev pub invariant-loop-k : goal.invariant-loop-k
invariant-loop-k l = l.flags.items ≡ map (flag_of l.reach.returning.items) (take l.k-index l.k-items)
