use Rattle.std.proofs.Common.{◌≡◌, ◌⊎◌, ◌+◌, ◌<◌, ◌≤◌, true, length, arith, subst, sym}
use Rattle.loop_forest.specs.Tree.{loops}
use Rattle.least_cycles.specs.Functions.{IsFromFirst, IsFromNext}
use Rattle.least_cycles.specs.Passes.{AreKindsIn}
use Rattle.least_cycles.proofs.FunctionLaws.{next_start, next_step, next_end}
use Rattle.least_cycles.proofs.TurnLaws.{kinds_more, kinds_for}
use Rattle.least_cycles.proofs.turns.mark_node.Goals as goal

pub loop-e-init : goal.loop-e-init
loop-e-init c =
    let v = c.args.body.now.graph.now in
    let nodes = c.args.body.now.nodes.now in
    kinds_for c.args.body.now (IsFromFirst v nodes c.args.i) (λ d. IsFromFirst v nodes c.args.i d ⊎ IsFromNext v nodes c.args.i c.edges_of-first.result.0 d) c.args.turns.now.items c.args.stays.now.items c.requires.marked
    (λ e lt done. next_start v nodes c.args.i c.edges_of-first.result.0 e (λ from. ((c.edges_of-first.ensures.edges e lt).0 from).0) done)

pub turn_kind-turn-requires-clause-from : goal.turn_kind-turn-requires-clause-from
turn_kind-turn-requires-clause-from c =
    let body = c.args.body.now in
    let within = c.edges_of-first.ensures.within in
    let low : c.edges_of-first.result.0 ≤ c.loop-e.e = omega arith in
    let lt : c.loop-e.e < length body.graph.now.code.edges = omega arith in
    subst (λ a. (loops body.graph.now body.tree.now).inside body.number a ≡ true) (sym ((c.edges_of-first.ensures.edges c.loop-e.e lt).1 (low, c.loop-e-test.true))) (c.requires.body.nodes.inside c.args.i c.requires.place)

pub loop-e-preserved : goal.loop-e-preserved
loop-e-preserved c =
    let v = c.args.body.now.graph.now in
    let nodes = c.args.body.now.nodes.now in
    let within = c.edges_of-first.ensures.within in
    let lt : c.loop-e.e < length v.code.edges = omega arith in
    kinds_more c.args.body.now (λ d. IsFromFirst v nodes c.args.i d ⊎ IsFromNext v nodes c.args.i c.loop-e.e d) (λ d. IsFromFirst v nodes c.args.i d ⊎ IsFromNext v nodes c.args.i (c.loop-e.e + 1) d)
    c.loop-e.turns.items c.loop-e.stays.items c.loop-e.invariant c.loop-e.e c.turn_kind-turn.result.0 c.turn_kind-turn.result.1 lt c.turn_kind-turn.ensures.turn c.turn_kind-turn.ensures.stay (λ d dl done. next_step v nodes c.args.i c.loop-e.e d done)

pub returns : goal.returns
returns c =
    let v = c.args.body.now.graph.now in
    let nodes = c.args.body.now.nodes.now in
    let last : c.loop-e.e ≡ c.edges_of-first.result.1 = (let within = c.edges_of-first.ensures.within in omega arith) in
    let whole = subst (λ e. AreKindsIn c.args.body.now (λ d. IsFromFirst v nodes c.args.i d ⊎ IsFromNext v nodes c.args.i e d) c.loop-e.turns.items c.loop-e.stays.items) last c.loop-e.invariant in
    kinds_for c.args.body.now (λ d. IsFromFirst v nodes c.args.i d ⊎ IsFromNext v nodes c.args.i c.edges_of-first.result.1 d) (IsFromFirst v nodes (c.args.i + 1)) c.loop-e.turns.items c.loop-e.stays.items whole
    (λ e lt done. next_end v nodes c.args.i c.edges_of-first.result.1 e (λ from. ((c.edges_of-first.ensures.edges e lt).0 from).1) done)
