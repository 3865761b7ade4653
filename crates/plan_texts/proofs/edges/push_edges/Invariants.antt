use Rattle.std.proofs.Common.{◌≡◌, ◌++◌, take, string_bytes}
use Rattle.std.specs.List.{flat_map}
use Rattle.plan_texts.specs.Dot.{edge_line}
use Rattle.plan_texts.proofs.edges.push_edges.Given as goal

abbrev pub invariant-loop-edge : goal.invariant-loop-edge
invariant-loop-edge l = string_bytes l.text ≡ string_bytes l.initial.text ++ flat_map (edge_line l.from) (take l.edge-index l.edges)
