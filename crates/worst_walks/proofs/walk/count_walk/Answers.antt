use Rattle.std.proofs.Common.{ℕ, List, refl, subst}
use Rattle.worst_walks.specs.Fitted.{IsWalked}
use Rattle.worst_walks.specs.Owned.{AreTurns, AreWhole}
use Rattle.worst_walks.proofs.WalkLaws.{worst_walk_of}
use Rattle.worst_walks.proofs.walk.count_walk.Goals as goal

pub returns-clause-walk : goal.returns-clause-walk
returns-clause-walk c =
    let walk = rw c.in-Some.is at c.in_ok-taken.ensures in
    let turned = rw c.in-Some-2.is at c.in_ok-turns.ensures in
    let whole = rw c.in-Some-3.is at c.in_ok-own.ensures in
    worst_walk_of c.args.graph.now c.args.tree.now c.requires.tree.0 c.node_count-nodes.ensures.graph c.requires.tree.1
    (record { taken = c.in-Some.taken; calls = c.args.proposal.calls; entries = c.args.proposal.entries; turns = c.in-Some-2.turns; function_own = c.in-Some-3.own.functions; loop_own = c.in-Some-3.own.loops })
    c.in-Some-3.own c.args.weights.now c.args.proposal.worst
    (subst (λ (calls : List ℕ). IsWalked c.args.graph.now c.args.tree.now calls c.args.proposal.entries.items c.in-Some.taken.items) c.deref.ensures.value
    (subst (λ (entries : List ℕ). IsWalked c.args.graph.now c.args.tree.now c.deref.result.now entries c.in-Some.taken.items) c.deref-2.ensures.value walk))
    (subst (λ (taken : List ℕ). AreTurns c.args.graph.now c.args.tree.now taken c.in-Some-2.turns.items) c.deref-3.ensures.value turned)
    (subst (λ (taken : List ℕ). AreWhole c.args.graph.now c.args.tree.now c.args.weights.now taken c.args.proposal.worst c.in-Some-3.own) c.deref-4.ensures.value whole)
    refl refl

pub returns-clause-sizes : goal.returns-clause-sizes
returns-clause-sizes c =
    let walk = rw c.in-Some.is at c.in_ok-taken.ensures in
    let turned = rw c.in-Some-2.is at c.in_ok-turns.ensures in
    let whole = rw c.in-Some-3.is at c.in_ok-own.ensures in
    record {
      taken = walk.size;
      calls = c.requires.calls;
      entries = c.requires.entries;
      turns = turned.tally.size;
      function_own = whole.own_is.functions_are.size;
      loop_own = whole.own_is.loops_are.size;
    }
