use Rattle.std.proofs.Common.{◌≡◌, map, take, Some}
use Rattle.code_text.specs.Text.{text_of}
use Rattle.code_text.specs.EdgeCosts.{edge_class}
use Rattle.code_graph.proofs.edges.classes_of.Given as goal

abbrev pub invariant-loop-edge : goal.invariant-loop-edge
invariant-loop-edge l = l.classes.items ≡ map (λ e. edge_class (text_of l.view) (Some e)) (take l.edge-index l.edges)
