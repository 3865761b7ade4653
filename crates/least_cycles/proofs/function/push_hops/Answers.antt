use Rattle.std.proofs.Common.{◌≡◌, ◌⊎◌, ◌+◌, ◌<◌, ◌≤◌, length, arith, ap, subst}
use Rattle.graph_algorithms.specs.Arcs.{number_in_place}
use Rattle.flow_graph.specs.FlowGraph.{graph}
use Rattle.loop_forest.specs.Noted.{node_address}
use Rattle.least_cycles.specs.declared.Hop.{Hop}
use Rattle.least_cycles.specs.Functions.{IsFromFirst, IsFromNext}
use Rattle.least_cycles.specs.Passes.{AreHopsIn}
use Rattle.least_cycles.proofs.FunctionLaws.{hops_for, hops_push, hop_of, next_start, next_step, next_end}
use Rattle.least_cycles.proofs.function.push_hops.Goals as goal

pub loop-e-init : goal.loop-e-init
loop-e-init c =
    let v = c.args.runs.now.graph.now in
    let nodes = c.args.runs.now.nodes.now in
    hops_for c.args.runs.now (IsFromFirst v nodes c.args.i) (λ d. IsFromFirst v nodes c.args.i d ⊎ IsFromNext v nodes c.args.i c.edges_of-first.result.0 d) c.args.hops.now.items c.requires.done
    (λ e lt done. next_start v nodes c.args.i c.edges_of-first.result.0 e (λ from. ((c.edges_of-first.ensures.edges e lt).0 from).0) done)

pub way_of-way-requires-clause-from : goal.way_of-way-requires-clause-from
way_of-way-requires-clause-from c =
    let v = c.args.runs.now.graph.now in
    let within = c.edges_of-first.ensures.within in
    let low : c.edges_of-first.result.0 ≤ c.loop-e.e = omega arith in
    let lt : c.loop-e.e < length v.code.edges = omega arith in
    (c.args.i, c.requires.place, (c.edges_of-first.ensures.edges c.loop-e.e lt).1 (low, c.loop-e-test.true))

pub loop-e-preserved : goal.loop-e-preserved
loop-e-preserved c =
    let runs = c.args.runs.now in
    let v = runs.graph.now in
    let nodes = runs.nodes.now in
    let within = c.edges_of-first.ensures.within in
    let low : c.edges_of-first.result.0 ≤ c.loop-e.e = omega arith in
    let lt : c.loop-e.e < length v.code.edges = omega arith in
    let from : (graph v).source c.loop-e.e ≡ node_address v (number_in_place nodes c.args.i) = (c.edges_of-first.ensures.edges c.loop-e.e lt).1 (low, c.loop-e-test.true) in
    let h : Hop = record { tail = c.args.i; way = c.way_of-way.result; cost = number_in_place runs.costs.now c.loop-e.e + c.over-charge.result } in
    rw c.in_ok-push.ensures.items
    (hops_push runs (λ d. IsFromFirst v nodes c.args.i d ⊎ IsFromNext v nodes c.args.i c.loop-e.e d) (λ d. IsFromFirst v nodes c.args.i d ⊎ IsFromNext v nodes c.args.i (c.loop-e.e + 1) d) c.loop-e.hops.items c.loop-e.e h c.loop-e.invariant lt
    (hop_of runs c.args.i c.loop-e.e c.way_of-way.result (number_in_place runs.costs.now c.loop-e.e + c.over-charge.result) c.requires.place from c.way_of-way.ensures (ap (λ x. number_in_place runs.costs.now c.loop-e.e + x) c.over-charge.ensures))
    (λ d dl done. next_step v nodes c.args.i c.loop-e.e d done))

pub returns : goal.returns
returns c =
    let v = c.args.runs.now.graph.now in
    let nodes = c.args.runs.now.nodes.now in
    let last : c.loop-e.e ≡ c.edges_of-first.result.1 = (let within = c.edges_of-first.ensures.within in omega arith) in
    let whole = subst (λ e. AreHopsIn c.args.runs.now (λ d. IsFromFirst v nodes c.args.i d ⊎ IsFromNext v nodes c.args.i e d) c.loop-e.hops.items) last c.loop-e.invariant in
    hops_for c.args.runs.now (λ d. IsFromFirst v nodes c.args.i d ⊎ IsFromNext v nodes c.args.i c.edges_of-first.result.1 d) (IsFromFirst v nodes (c.args.i + 1)) c.loop-e.hops.items whole
    (λ e lt done. next_end v nodes c.args.i c.edges_of-first.result.1 e (λ from. ((c.edges_of-first.ensures.edges e lt).0 from).1) done)
