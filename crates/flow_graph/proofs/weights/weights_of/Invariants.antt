use Rattle.std.proofs.Common.{◌≡◌, map, take}
use Rattle.power_model.specs.Price.{cycles_of}
use Rattle.code_text.specs.EdgeCosts.{cost_of}
use Rattle.flow_graph.proofs.weights.weights_of.Given as goal

abbrev pub invariant-loop-class : goal.invariant-loop-class
invariant-loop-class l = l.items.items ≡ map (cost_of (cycles_of l.costs)) (take l.class-index l.classes)
