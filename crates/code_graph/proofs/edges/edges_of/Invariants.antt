use Rattle.std.proofs.Common.{◌*◌, ◌≤◌, length}
use Rattle.code_graph.specs.Assembling.{AreEdgesOf}
use Rattle.flow_graph.specs.Stored.{AreFirsts}
use Rattle.code_graph.proofs.edges.edges_of.Given as goal

abbrev pub invariant-loop-k : goal.invariant-loop-k
invariant-loop-k l = record {
  firsts : AreFirsts l.k l.nodes l.edges.items l.firsts.items;
  few : length l.edges.items ≤ 2 * l.k;
  edges : AreEdgesOf l.k l.nodes l.kinds l.callees l.returning l.edges.items;
}
