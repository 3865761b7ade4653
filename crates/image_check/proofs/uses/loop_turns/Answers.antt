use Rattle.std.proofs.Common.{◌+◌, ◌<◌, length, Vec, Global, ℕ, sym, subst, arith}
use Rattle.image_check.specs.Uses.{AreTurns}
use Rattle.image_check.proofs.TreeFacts.{turn_one, turns_skip, turns_more, turns_small}
use Rattle.image_check.proofs.uses.loop_turns.Goals as goal
use Rattle.image_check.proofs.uses.loop_turns.Goals.{in-Some, in-None}

pub add_one-requires-clause-within : goal.add_one-requires-clause-within
add_one-requires-clause-within c =
    let is = c.requires.3 in
    let low = (turn_one c.args.graph.now c.args.tree.now is.tree.0 is.code.flow is.tree.1 c.in-Some.k c.loop-e.e c.in-Some.ensures).0 in
    let size = c.loop-e.invariant.size in
    omega (arith, low, size)

pub add_one-requires-clause-small : goal.add_one-requires-clause-small
add_one-requires-clause-small c =
    let is = c.requires.3 in
    let low = (turn_one c.args.graph.now c.args.tree.now is.tree.0 is.code.flow is.tree.1 c.in-Some.k c.loop-e.e c.in-Some.ensures).0 in
    let most = turns_small c.args.graph.now c.args.tree.now is.tree.0 is.code.flow is.tree.1 c.loop-e.e c.loop-e.turns.items c.loop-e.invariant c.in-Some.k low in
    let few = c.edge_count-e-end.ensures.few in
    omega (arith, most, few)

pub loop-e-preserved : goal.loop-e-preserved
loop-e-preserved c =
    let is = c.requires.3 in
    let count = c.edge_count-e-end.ensures.count in
    let el : c.loop-e.e < length c.args.graph.now.code.edges = omega (arith, count) in
    elim c.match-back_loop.branch [
      | in-Some w ↦ subst (λ (x : Vec ℕ Global). AreTurns c.args.graph.now c.args.tree.now (c.loop-e.e + 1) x.items) (sym w.turns-is)
          (turns_more c.args.graph.now c.args.tree.now is.tree.0 is.code.flow is.tree.1 c.loop-e.e c.loop-e.turns.items c.loop-e.invariant el w.in-Some.k w.add_one.new.counts.items w.in-Some.ensures w.add_one.ensures)
      | in-None w ↦ subst (λ (x : Vec ℕ Global). AreTurns c.args.graph.now c.args.tree.now (c.loop-e.e + 1) x.items) (sym w.turns-is)
          (turns_skip c.args.graph.now c.args.tree.now is.tree.0 is.code.flow is.tree.1 c.loop-e.e c.loop-e.turns.items c.loop-e.invariant el w.in-None.ensures)
    ]
