use Rattle.std.proofs.Common.{rules, ◌≡◌, length}
use Rattle.code_graph.proofs.EdgeLaws.{edges_next, firsts_next, few_next}
use Rattle.code_graph.proofs.edges.edges_of.Goals as goal

pub loop-k-preserved : goal.loop-k-preserved
loop-k-preserved c =
    let size : c.len.result ≡ length c.add_edges.new.edges.items = search rules in
    record {
      firsts = firsts_next c.args.nodes.now c.args.kinds.now c.args.callees.now c.args.returning.now c.loop-k.k c.loop-k.edges.items c.add_edges.new.edges.items c.comes_back-returns.result
          c.loop-k-test.true c.comes_back-returns.ensures c.in_ok-add_edges.ensures c.loop-k.firsts.items c.push-in-loop-k.new.self.items c.len.result c.loop-k.invariant.firsts size c.in_ok-push-2.ensures.items;
      few = few_next c.args.nodes.now c.args.kinds.now c.args.callees.now c.args.returning.now c.loop-k.k c.loop-k.edges.items c.add_edges.new.edges.items c.comes_back-returns.result
          c.loop-k-test.true c.comes_back-returns.ensures c.in_ok-add_edges.ensures c.loop-k.invariant.few;
      edges = edges_next c.args.nodes.now c.args.kinds.now c.args.callees.now c.args.returning.now c.loop-k.k c.loop-k.edges.items c.add_edges.new.edges.items c.comes_back-returns.result
          c.loop-k-test.true c.comes_back-returns.ensures c.in_ok-add_edges.ensures c.requires.kinds c.loop-k.invariant.edges;
    }
