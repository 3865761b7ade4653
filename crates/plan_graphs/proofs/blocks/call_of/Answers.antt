use Rattle.std.proofs.Common.{◌≡◌, ◌<◌, ◌≤◌, ℕ, List, length, Option, Some, None, option_map, refl, sym, ap, ◌∙◌, arith}
use Rattle.cost_theory.specs.Reached.{number_or_0}
use Rattle.flow_graph.specs.FlowGraph.{graph}
use Rattle.plan_graphs.specs.declared.plan.DrawnCall.{DrawnCall}
use Rattle.plan_graphs.proofs.BlockFacts.{one_called}
use Rattle.plan_graphs.proofs.blocks.call_of.Goals as goal

pub callee-requires : goal.callee-requires
callee-requires c = let a = c.edges_of-e.ensures.within.0 in let b = c.edges_of-e.ensures.within.1 in omega (arith, a, b)

pub function-requires : goal.function-requires
function-requires c =
    let e = c.edges_of-e.result.0 in
    let lt : e < length c.args.graph.now.code.edges = (let a = c.edges_of-e.ensures.within.0 in let b = c.edges_of-e.ensures.within.1 in omega (arith, a, b)) in
    c.node_count-nodes.ensures.graph.program.callee_function e c.in-Some.f lt (sym c.in-Some.ensures)

pub returns-in-None : goal.returns-in-None
returns-in-None c = λ d dl at.
    let v = c.args.graph.now in
    let same : (graph v).callee d ≡ (graph v).callee c.edges_of-e.result.0 =
    one_called v c.node_count-nodes.ensures.graph c.args.k c.edges_of-e.result.0 c.edges_of-e.result.1 c.edges_of-e.ensures.within c.edges_of-e.ensures.edges d dl at in
    ap (λ (o : Option ℕ). option_map (λ (f : ℕ). record { function = f; entry = (graph v).entry f }) o) (c.in-None.ensures ∙ sym same)

pub returns-in-Some : goal.returns-in-Some
returns-in-Some c = λ d dl at.
    let v = c.args.graph.now in
    let same : (graph v).callee d ≡ (graph v).callee c.edges_of-e.result.0 =
    one_called v c.node_count-nodes.ensures.graph c.args.k c.edges_of-e.result.0 c.edges_of-e.result.1 c.edges_of-e.ensures.within c.edges_of-e.ensures.edges d dl at in
    let F : ℕ → DrawnCall = λ f. record { function = f; entry = (graph v).entry f } in
    let entry : c.function.result ≡ (graph v).entry c.in-Some.f = sym (ap number_or_0 c.function.ensures) in
    ap (λ (a : ℕ). Some (let call : DrawnCall = record { function = c.in-Some.f; entry = a } in call)) entry ∙ ap (λ (o : Option ℕ). option_map F o) (c.in-Some.ensures ∙ sym same)
