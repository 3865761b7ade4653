use Rattle.std.proofs.Common.{sym, subst}
use Rattle.worst_cycles.specs.Worst.{by_edge}
use Rattle.worst_cycles.specs.Lefts.{AreLefts, AreTurnsRound, AreContexts}
use Rattle.worst_cycles.proofs.parts.parts_of.Goals as goal

pub lefts_of-requires : goal.lefts_of-requires
lefts_of-requires c = record { visited = c.requires.visited }

pub turns_around-requires : goal.turns_around-requires
turns_around-requires c = record { visited = c.requires.visited }

pub contexts_of-requires-clause-visited : goal.contexts_of-requires-clause-visited
contexts_of-requires-clause-visited c = c.requires.visited

pub contexts_of-requires-clause-left : goal.contexts_of-requires-clause-left
contexts_of-requires-clause-left c = subst (AreLefts c.args.visited.now.planned.graph.now c.args.visited.now.planned.tree.now (by_edge c.args.visited.now.planned.weights.now)) (sym c.deref.ensures.value) c.in_ok-left.ensures

pub contexts_of-requires-clause-around : goal.contexts_of-requires-clause-around
contexts_of-requires-clause-around c = subst (AreTurnsRound c.args.visited.now.planned.graph.now c.args.visited.now.planned.tree.now (by_edge c.args.visited.now.planned.weights.now)) (sym c.deref-2.ensures.value) c.in_ok-around.ensures

pub slacks_of-requires-clause-visited : goal.slacks_of-requires-clause-visited
slacks_of-requires-clause-visited c = c.requires.visited

pub slacks_of-requires-clause-left : goal.slacks_of-requires-clause-left
slacks_of-requires-clause-left c = subst (AreLefts c.args.visited.now.planned.graph.now c.args.visited.now.planned.tree.now (by_edge c.args.visited.now.planned.weights.now)) (sym c.deref-3.ensures.value) c.in_ok-left.ensures

pub rests_behind-requires-clause-visited : goal.rests_behind-requires-clause-visited
rests_behind-requires-clause-visited c = c.requires.visited

pub rests_behind-requires-clause-left : goal.rests_behind-requires-clause-left
rests_behind-requires-clause-left c = subst (AreLefts c.args.visited.now.planned.graph.now c.args.visited.now.planned.tree.now (by_edge c.args.visited.now.planned.weights.now)) (sym c.deref-4.ensures.value) c.in_ok-left.ensures

pub rests_behind-requires-clause-around : goal.rests_behind-requires-clause-around
rests_behind-requires-clause-around c = subst (AreTurnsRound c.args.visited.now.planned.graph.now c.args.visited.now.planned.tree.now (by_edge c.args.visited.now.planned.weights.now)) (sym c.deref-5.ensures.value) c.in_ok-around.ensures

pub rests_behind-requires-clause-context : goal.rests_behind-requires-clause-context
rests_behind-requires-clause-context c = subst (AreContexts c.args.visited.now.planned.graph.now c.args.visited.now.planned.tree.now (by_edge c.args.visited.now.planned.weights.now)) (sym c.deref-6.ensures.value) c.in_ok-context.ensures

pub returns : goal.returns
returns c = record { left = c.in_ok-left.ensures; context = c.in_ok-context.ensures; slacks = c.in_ok-slacks.ensures; rests = c.in_ok-rests.ensures }
