-- The order of a plan: what stands before a node in it, and the places of nodes.
use Rattle.std.proofs.Common.{◌≡◌, ℕ, ◌<◌, ◌≤◌, true, inl, List, [], ◌∷◌, length, subst, Option, Some, slice_get, refl, sym, ap, ◌∙◌, arith}
use Rattle.std.proofs.lemmas.Option.{slice_get_within}
use Rattle.graph_algorithms.specs.Arcs.{number_in_place}
use Rattle.cost_theory.specs.Graph.{IsPlain, IsPlainPath, end_of}
use Rattle.flow_graph.specs.FlowGraph.{FlowGraph, graph}
use Rattle.loop_forest.specs.Noted.{node_address}
use Rattle.loop_forest.proofs.Laws.{source_number}
use Rattle.loop_forest.specs.Tree.{LoopView, loops}
use Rattle.cost_theory.proofs.Laws.{accepted_entered, plain_from_entry}
use Rattle.worst_cycles.specs.declared.plan.Plan.{Plan}
use Rattle.worst_cycles.specs.Needs.{StartsAtNode}
use Rattle.worst_cycles.specs.Planned.{IsPlannedBy}
use Rattle.worst_cycles.proofs.NeedLaws.{one_place}
use Rattle.worst_cycles.proofs.BodyLaws.{node_here, same_node, by_plain, loop_count, header_address}
use Rattle.worst_cycles.proofs.HeaderLaws.{header_before}

-- the node at the place of a node is this node
pub at_place : {v : FlowGraph} {t : LoopView} {w : List ℕ} {plan : Plan} → IsPlannedBy v t w plan → (k : ℕ) → k < length v.code.nodes →
    (number_in_place plan.places.items k < length plan.order.items) × (number_in_place plan.order.items (number_in_place plan.places.items k) ≡ k)
at_place {v = v} {t = t} {w = w} {plan = plan} is k lt =
    let i = is.plan.order.whole k lt in
    let place : number_in_place plan.places.items k ≡ i.0 = ap (number_in_place plan.places.items) (sym i.2) ∙ is.plan.places i.0 i.1 in
    let within = i.1 in
    ((let r : number_in_place plan.places.items k < length plan.order.items = omega arith in r), ap (number_in_place plan.order.items) place ∙ i.2)

-- one address stands before another, or is it
abbrev pub IsNotBehind : FlowGraph → List ℕ → ℕ → ℕ → Type 0
IsNotBehind v order a b = (i j : ℕ) → i < length order → j < length order → node_address v (number_in_place order i) ≡ a → node_address v (number_in_place order j) ≡ b → j ≤ i

pub not_behind_same : {v : FlowGraph} {t : LoopView} {w : List ℕ} {plan : Plan} → IsPlannedBy v t w plan → (a : ℕ) → IsNotBehind v plan.order.items a a
not_behind_same {v = v} {t = t} {w = w} {plan = plan} is a i j il jl at_i at_j =
    let one : number_in_place plan.order.items j ≡ number_in_place plan.order.items i = same_node v is.flow (number_in_place plan.order.items j) (number_in_place plan.order.items i) (is.plan.order.within j jl) (is.plan.order.within i il) (at_j ∙ sym at_i) in
    let e : j ≡ i = one_place plan.order.items is.plan.order.distinct j i jl il one in
    omega arith

same_some : {x : Option ℕ} {a b : ℕ} → x ≡ Some a → x ≡ Some b → a ≡ b
same_some {x = x} {a = a} {b = b} p q = let e : Some a ≡ Some b = sym p ∙ q in let r : a ≡ b = cc in r

-- an edge leads plainly to a node that stands before its own
pub not_behind_step : {v : FlowGraph} {t : LoopView} {w : List ℕ} {plan : Plan} → IsPlannedBy v t w plan → (a e p : ℕ) → e < (graph v).edges → IsPlain (graph v) (loops v t) e → (graph v).target e ≡ Some p →
    IsNotBehind v plan.order.items a ((graph v).source e) → IsNotBehind v plan.order.items a p
not_behind_step {v = v} {t = t} {w = w} {plan = plan} is a e p lt plain to before i j il jl at_i at_j =
    let k = source_number v is.flow e lt in
    let m = is.plan.order.whole k.0 (slice_get_within v.code.nodes k.0 _ k.1) in
    let here : StartsAtNode v e (number_in_place plan.order.items m.0) = ap (slice_get v.code.nodes) m.2 ∙ k.1 in
    let source : node_address v (number_in_place plan.order.items m.0) ≡ (graph v).source e = same_some (node_here v (number_in_place plan.order.items m.0) (is.plan.order.within m.0 m.1)) here in
    let low : m.0 ≤ i = before i m.0 il m.1 at_i source in
    let target : slice_get v.code.nodes (number_in_place plan.order.items j) ≡ Some p = node_here v (number_in_place plan.order.items j) (is.plan.order.within j jl) ∙ ap Some at_j in
    let r = is.plan.order.ready m.0 e (number_in_place plan.order.items j) m.1 lt here (inl (by_plain v t is.tree.0 is.tree.1 e lt plain, (to ∙ sym target, is.plan.order.within j jl))) in
    let rises = r.1 in
    let within = m.1 in
    let rl : r.0 < length plan.order.items = omega arith in
    let e : r.0 ≡ j = one_place plan.order.items is.plan.order.distinct r.0 j rl jl r.2 in
    omega arith

-- a node of a body stands no later than the loop's header
pub body_before : {v : FlowGraph} {t : LoopView} {w : List ℕ} {plan : Plan} → IsPlannedBy v t w plan →
    (l i j : ℕ) → l < length t.headers → i < length plan.order.items → j < length plan.order.items → number_in_place t.headers l ≡ number_in_place plan.order.items i →
    (loops v t).inside l (node_address v (number_in_place plan.order.items j)) ≡ true → j ≤ i
body_before {v = v} {t = t} {w = w} {plan = plan} is l i j ll il jl header in_l =
    let count = loop_count v t in
    header_before (graph v) (loops v t) is.tree.0 is.flow.program (accepted_entered is.tree.1.accepted) (IsNotBehind v plan.order.items) (not_behind_same is) (not_behind_step is) l (node_address v (number_in_place plan.order.items j)) (let r : l < (loops v t).loops = omega arith in r) in_l
    i j il jl (ap (node_address v) (sym header) ∙ sym (header_address v t l ll)) refl

-- so the nodes of a function stand no later than its entry
not_behind_along : {v : FlowGraph} {t : LoopView} {w : List ℕ} {plan : Plan} → IsPlannedBy v t w plan → (a : ℕ) (es : List ℕ) (o : Option ℕ) (p : ℕ) → IsPlainPath (graph v) (loops v t) o es → end_of (graph v) o es ≡ Some p →
    ((u : ℕ) → o ≡ Some u → IsNotBehind v plan.order.items a u) → IsNotBehind v plan.order.items a p
not_behind_along {v = v} {t = t} {w = w} {plan = plan} is a [] o p path ends before = before p ends
not_behind_along {v = v} {t = t} {w = w} {plan = plan} is a (e ∷ es) o p path ends before =
    not_behind_along is a es ((graph v).target e) p path.3 ends (λ u to. not_behind_step is a e u path.0 path.2 to (before ((graph v).source e) path.1))

pub entry_behind : {v : FlowGraph} {t : LoopView} {w : List ℕ} {plan : Plan} → IsPlannedBy v t w plan → (i j : ℕ) → i < length plan.order.items → j < length plan.order.items →
    node_address v (number_in_place plan.order.items i) ≡ (graph v).entry ((graph v).owner (node_address v (number_in_place plan.order.items j))) → j ≤ i
entry_behind {v = v} {t = t} {w = w} {plan = plan} is i j il jl entry =
    let node = (is.flow.nodes (node_address v (number_in_place plan.order.items j))).0 (number_in_place plan.order.items j, node_here v (number_in_place plan.order.items j) (is.plan.order.within j jl)) in
    let way = plain_from_entry (graph v) (loops v t) is.tree.0 is.flow.program is.tree.1.accepted node.0 node.1 in
    let first = (graph v).entry ((graph v).owner ((graph v).source node.0)) in
    let start : first ≡ (graph v).entry ((graph v).owner (node_address v (number_in_place plan.order.items j))) = ap (λ u. (graph v).entry ((graph v).owner u)) node.2 in
    not_behind_along is first way.0 (Some first) ((graph v).source node.0) way.1 way.2
    (λ u same. subst (IsNotBehind v plan.order.items first) (same_some {x = Some first} refl same) (not_behind_same is first))
    i j il jl (entry ∙ sym start) (sym node.2)
