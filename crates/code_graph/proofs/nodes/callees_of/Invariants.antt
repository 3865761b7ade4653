use Rattle.std.proofs.Common.{◌≡◌, map, take}
use Rattle.cost_theory.specs.Reached.{callee_of}
use Rattle.code_graph.specs.Finding.{reach_of}
use Rattle.code_graph.specs.Assembling.{entry_addresses}
use Rattle.code_graph.proofs.nodes.callees_of.Given as goal

abbrev pub invariant-loop-kind : goal.invariant-loop-kind
invariant-loop-kind l = l.callees.items ≡ map (callee_of (entry_addresses (reach_of l.reach))) (take l.kind-index l.kinds)
