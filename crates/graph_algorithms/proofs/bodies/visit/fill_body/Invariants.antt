use Rattle.std.proofs.Common.{◌≡◌, ◌≤◌, ◌-◌, length}
use Rattle.graph_algorithms.specs.Bodies.{in_node_ranges}
use Rattle.graph_algorithms.specs.BodySearch.{IsMarkedBody, IsSettled}
use Rattle.graph_algorithms.proofs.BodyLaws.{AreSound, AreSettled}
use Rattle.graph_algorithms.proofs.bodies.visit.fill_body.Given as goal

abbrev pub invariant-loop-done : goal.invariant-loop-done
invariant-loop-done l = record {
  size : length l.found ≡ l.edges.count;
  marked : IsMarkedBody l.found l.body.items;
  sound : AreSound l.edges.sources l.edges.targets (in_node_ranges l.extent) l.header l.body.items;
  start : IsSettled l.edges.sources l.edges.targets (in_node_ranges l.extent) l.found l.header;
  settled : AreSettled l.edges.sources l.edges.targets (in_node_ranges l.extent) l.header l.found l.body.items l.done;
  reached : l.done ≤ length l.body.items;
}

abbrev pub decreases-loop-done : goal.decreases-loop-done
decreases-loop-done l = length l.found - l.done
