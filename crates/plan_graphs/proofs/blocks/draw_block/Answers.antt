use Rattle.std.proofs.Common.{◌≡◌, ◌-◌, ℕ, List, slice_index, Option, sym, ap, ◌∙◌, subst}
use Rattle.std.proofs.lemmas.Option.{slice_get_within}
use Rattle.flow_graph.specs.FlowGraph.{graph}
use Rattle.loop_forest.specs.Noted.{node_address}
use Rattle.loop_forest.specs.Tree.{loops, IsInnermost}
use Rattle.plan_graphs.specs.Drawn.{AreEdgesFrom, IsCalledAt, IsMostLeft}
use Rattle.plan_graphs.specs.declared.plan.DrawnEdge.{DrawnEdge}
use Rattle.plan_graphs.proofs.BlockFacts.{place_is}
use Rattle.plan_graphs.proofs.BlockLoops.{round_same}
use Rattle.plan_graphs.proofs.blocks.draw_block.Goals as goal

pub nest_of-requires-clause-inner : goal.nest_of-requires-clause-inner
nest_of-requires-clause-inner c = (
  node_address c.args.sketch.now.graph.now c.first_node-first.result,
  c.requires.sketch.tree.1.innermost c.first_node-first.result c.innermost.result c.innermost.ensures,
)

pub returns : goal.returns
returns c = λ told holds.
    let v = c.args.sketch.now.graph.now in
    let t = c.args.sketch.now.tree.now in
    let range = c.block-range.result in
    let at_first : slice_index v.code.nodes c.first_node-first.result ≡ range.from = place_is v c.first_node-first.result range.from (c.first_node-first.ensures.node range c.block-range.ensures) in
    let at_last : slice_index v.code.nodes c.last_node-last.result ≡ range.to - 4 = place_is v c.last_node-last.result (range.to - 4) (c.last_node-last.ensures.node range c.block-range.ensures) in
    let inner : IsInnermost (loops v t) range.from c.innermost.result =
    subst (λ (at : ℕ). IsInnermost (loops v t) at c.innermost.result) at_first (c.requires.sketch.tree.1.innermost c.first_node-first.result c.innermost.result c.innermost.ensures) in
    record {
      range = c.block-range.ensures;
      function = c.owner.ensures.owner ∙ ap (λ (at : ℕ). (graph v).owner at) at_first;
      around = round_same v t c.requires.sketch.tree.0 c.node_count-nodes.ensures.graph c.requires.sketch.tree.1 range (c.block_count-blocks.ensures.blocks.each c.args.b range c.block-range.ensures)
          c.in_ok-around.around.items (c.in_ok-around.ensures range.from inner);
      edges = subst (λ (at : ℕ). AreEdgesFrom v t told at c.in_ok-edges.edges.items) at_last (c.in_ok-edges.ensures.edges told holds);
      left = subst (λ (xs : List DrawnEdge). IsMostLeft xs c.most_left-left.result) c.deref.ensures.value c.most_left-left.ensures;
      call = subst (λ (at : ℕ). IsCalledAt v at c.call_of.result) at_last c.call_of.ensures;
    }
