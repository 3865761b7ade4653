use Rattle.std.proofs.Common.{refl}
use Rattle.graph_algorithms.specs.Arcs.{number_in_place}
use Rattle.worst_cycles.specs.Worst.{by_edge}
use Rattle.worst_cycles.proofs.VisitLaws.{next_plain, plain_too_long}
use Rattle.worst_cycles.proofs.pass.visit_node.Goals as goal

pub returns-then-plain-gt-LIMIT : goal.returns-then-plain-gt-LIMIT
returns-then-plain-gt-LIMIT c = (
  refl,
  plain_too_long c.args.planned.now.graph.now c.args.planned.now.tree.now (by_edge c.args.planned.now.weights.now) (number_in_place c.args.planned.now.plan.now.order.items c.args.i) c.plain_at_node-plain.result c.requires.planned.flow (c.requires.planned.plan.order.within c.args.i c.requires.place)
      (next_plain c.requires.planned c.args.visits.now c.args.i c.index.result.now c.plain_at_node-plain.result c.requires.visited c.requires.place c.index.ensures c.plain_at_node-plain.ensures)
      c.if-plain-gt-LIMIT.true,
)

pub returns : goal.returns
returns c = (
  record { plain = c.if-plain-gt-LIMIT.false; turns = c.in_ok-turns.ensures.0; iteration = c.in_ok-turns.ensures.2 },
  λ n s.
      let turns = c.in_ok-turns.ensures.1 n s in
      record {
        plain = next_plain c.requires.planned c.args.visits.now c.args.i c.index.result.now c.plain_at_node-plain.result c.requires.visited c.requires.place c.index.ensures c.plain_at_node-plain.ensures n s;
        turns = turns.0;
        iteration = turns.1;
      },
)
