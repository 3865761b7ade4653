use Rattle.std.proofs.Common.{ℕ, List, sym, subst, arith}
use Rattle.std.specs.List.Sorted.{IsPermutation}
use Rattle.least_cycles.specs.Charging.{IsBodyOf}
use Rattle.least_cycles.proofs.OrderLaws.{body_is, body_few, body_permuted}
use Rattle.least_cycles.proofs.turns.body_nodes.Goals as goal

pub ranked-requires-clause-within : goal.ranked-requires-clause-within
ranked-requires-clause-within c =
    let is : IsBodyOf c.args.priced.now.graph.now c.args.priced.now.tree.now c.args.l c.body.result.now = subst (λ (nodes : List ℕ). IsBodyOf c.args.priced.now.graph.now c.args.priced.now.tree.now c.args.l nodes) (sym c.body.ensures) (body_is c.args.priced.now.graph.now c.args.priced.now.tree.now c.requires.tree.0 c.args.l c.requires.flow c.requires.tree.1 c.requires.loop_number) in
    λ i il. let within = is.within i il in let size = c.requires.size in omega arith

pub ranked-requires-clause-once : goal.ranked-requires-clause-once
ranked-requires-clause-once c =
    let is : IsBodyOf c.args.priced.now.graph.now c.args.priced.now.tree.now c.args.l c.body.result.now = subst (λ (nodes : List ℕ). IsBodyOf c.args.priced.now.graph.now c.args.priced.now.tree.now c.args.l nodes) (sym c.body.ensures) (body_is c.args.priced.now.graph.now c.args.priced.now.tree.now c.requires.tree.0 c.args.l c.requires.flow c.requires.tree.1 c.requires.loop_number) in
    is.once

pub returns-clause-nodes : goal.returns-clause-nodes
returns-clause-nodes c =
    let is : IsBodyOf c.args.priced.now.graph.now c.args.priced.now.tree.now c.args.l c.body.result.now = subst (λ (nodes : List ℕ). IsBodyOf c.args.priced.now.graph.now c.args.priced.now.tree.now c.args.l nodes) (sym c.body.ensures) (body_is c.args.priced.now.graph.now c.args.priced.now.tree.now c.requires.tree.0 c.args.l c.requires.flow c.requires.tree.1 c.requires.loop_number) in
    body_permuted c.body.result.now c.in_ok-nodes.nodes.items c.in_ok-nodes.ensures.nodes c.args.priced.now.graph.now c.args.priced.now.tree.now c.args.l is

pub returns-clause-few : goal.returns-clause-few
returns-clause-few c =
    let few = c.node_count-count.ensures.few in
    let size = c.node_count-count.ensures.count in
    body_few c.args.priced.now.graph.now c.args.priced.now.tree.now c.requires.tree.0 c.args.l c.requires.flow c.requires.tree.1 c.requires.loop_number (omega arith) c.in_ok-nodes.nodes.items (subst (λ (nodes : List ℕ). IsPermutation nodes c.in_ok-nodes.nodes.items) c.body.ensures c.in_ok-nodes.ensures.nodes)
