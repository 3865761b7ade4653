use Rattle.std.proofs.Common.{◌≤◌, length}
use Rattle.code_graph.specs.Assembling.{AreCallArcs}
use Rattle.code_graph.proofs.recursion.call_arcs.Given as goal

abbrev pub invariant-loop-k : goal.invariant-loop-k
invariant-loop-k l = record {
  arcs : AreCallArcs l.k l.owners l.callees l.arcs.items;
  few : length l.arcs.items ≤ l.k;
}
