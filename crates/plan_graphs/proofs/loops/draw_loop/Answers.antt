use Rattle.std.proofs.Common.{◌≡◌, ℕ, slice_get, slice_index, Some, refl, sym, ap, ◌∙◌, subst}
use Rattle.std.proofs.lemmas.Option.{get_or_from_slice_get, same_Some}
use Rattle.flow_graph.specs.FlowGraph.{graph}
use Rattle.loop_forest.specs.Noted.{node_address}
use Rattle.loop_forest.specs.Tree.{loops, IsInnermost}
use Rattle.plan_graphs.proofs.BlockFacts.{header_is}
use Rattle.plan_graphs.proofs.loops.draw_loop.Goals as goal

pub nest_of-requires-clause-inner : goal.nest_of-requires-clause-inner
nest_of-requires-clause-inner c = (
  node_address c.args.sketch.now.graph.now c.header-header.result,
  c.requires.sketch.tree.1.innermost c.header-header.result c.innermost.result c.innermost.ensures,
)

pub returns : goal.returns
returns c = λ told holds.
    let v = c.args.sketch.now.graph.now in
    let t = c.args.sketch.now.tree.now in
    let h = c.header-header.result in
    let at : (loops v t).header c.args.l ≡ node_address v h = header_is v t c.args.l h c.header-header.ensures in
    record {
      number = refl;
      header = sym (get_or_from_slice_get v.code.nodes h c.node.result 0 c.node.ensures) ∙ sym at;
      bound = sym (get_or_from_slice_get t.bounds c.args.l c.bound.result 0 c.bound.ensures);
      turn = same_Some c.iteration.result (told.numbers.iteration c.args.l) (sym c.iteration.ensures ∙ holds.turn c.args.l c.requires.within);
      function = c.owner.ensures.owner ∙ ap (λ (a : ℕ). (graph v).owner a) (sym at);
      around = c.in_ok-around.ensures ((loops v t).header c.args.l)
          (subst (λ (a : ℕ). IsInnermost (loops v t) a c.innermost.result) (sym at) (c.requires.sketch.tree.1.innermost h c.innermost.result c.innermost.ensures));
      turns = c.turns_of.ensures ∙ sym (holds.turns c.args.l);
    }
