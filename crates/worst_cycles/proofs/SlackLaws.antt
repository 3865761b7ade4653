-- The slacks of edges and the rests behind them, from the tables.
use Rattle.std.proofs.Common.{◌≡◌, ◌≢◌, ℕ, ◌+◌, ◌-◌, ◌^◌, ◌<◌, ◌≤◌, Bool, true, false, List, length, slice_get, nat_eq, Some, is_some, refl, sym, ap, ◌∙◌, subst, arith, eqb-true}
use Rattle.std.proofs.lemmas.Option.{same_Some, slice_get_within, slice_get-get_or, get_or_from_slice_get}
use Rattle.graph_algorithms.specs.Arcs.{number_in_place}
use Rattle.cost_theory.specs.Graph.{IsPlain, is_back, is_header, only}
use Rattle.cost_theory.specs.Worst.{Numbers, cost, left_at, turn_back, turns_round, slack, rest}
use Rattle.cost_theory.proofs.Laws.{sum-one, sum-none, only_true, only_false, and_right}
use Rattle.flow_graph.specs.FlowGraph.{FlowGraph, graph, IsFlowGraph}
use Rattle.loop_forest.specs.Noted.{node_address}
use Rattle.loop_forest.specs.Tree.{LoopView, loops, IsLoopTree}
use Rattle.worst_cycles.specs.declared.visits.Visit.{Visit}
use Rattle.worst_cycles.specs.declared.parts.LeftParts.{LeftParts}
use Rattle.worst_cycles.specs.Worst.{slack_at, rest_at, HoldsLeft}
use Rattle.worst_cycles.specs.Solved.{charge}
use Rattle.worst_cycles.specs.Visits.{visit_at, IsVisit, AreSolvedBy, AreAllVisited}
use Rattle.worst_cycles.specs.Lefts.{HasSolved, AreLefts, AreTurnsRound, AreContexts, AreParts}
use Rattle.worst_cycles.proofs.BodyLaws.{node_here, loop_count, back_by}
use Rattle.worst_cycles.proofs.OverLaws.{charge_turns}

-- over a back edge one iteration is added and no turns are charged,
pub back_sides : {v : FlowGraph} {t : LoopView} {extent : ℕ → ℕ → Bool} {w : ℕ → ℕ} {visits : List Visit} {n : Numbers} (e k to : ℕ) → IsLoopTree v extent t → AreAllVisited v t w visits → AreSolvedBy v t w n → e < length v.code.edges →
    slice_get t.backs e ≡ Some (Some k) → (graph v).target e ≡ slice_get v.code.nodes to → to < length v.code.nodes →
    (charge (graph v) (loops v t) w n e ≡ cost (graph v) n w e) × (turn_back (graph v) (loops v t) n e ≡ (visit_at visits to).iteration)
back_sides {v = v} {t = t} {extent = extent} {w = w} {visits = visits} {n = n} e k to tree found s lt here leads tl =
    let back = back_by v t extent tree e k here in
    let target : (graph v).target e ≡ Some (node_address v to) = leads ∙ node_here v to tl in
    let at : is_header (loops v t) k ((graph v).target e) ≡ true = and_right ((loops v t).inside k ((graph v).source e)) (is_header (loops v t) k ((graph v).target e)) back.1 in
    let same : nat_eq (node_address v to) ((loops v t).header k) ≡ true = subst (λ o. is_header (loops v t) k o ≡ true) target at in
    let header : (loops v t).header k ≡ node_address v to = sym (eqb-true (node_address v to) ((loops v t).header k) same) in
    let visit : IsVisit (loops v t) n (node_address v to) (visit_at visits to) = found.each n s to (node_address v to) (node_here v to tl) in
    let one : turn_back (graph v) (loops v t) n e ≡ only (is_back (graph v) (loops v t) k e) (n.iteration k) =
    sum-one (loops v t).loops (λ j. only (is_back (graph v) (loops v t) j e) (n.iteration j)) k back.0 (λ j jl other. only_false (is_back (graph v) (loops v t) j e) (n.iteration j) (not_back j jl other (is_back (graph v) (loops v t) j e) refl)) in
    (s.back e k lt back.0 back.1, one ∙ only_true (is_back (graph v) (loops v t) k e) (n.iteration k) back.1 ∙ sym (visit.iteration k back.0 header))
  where
    not_back : (j : ℕ) → j < (loops v t).loops → j ≢ k → (b : Bool) → is_back (graph v) (loops v t) j e ≡ b → is_back (graph v) (loops v t) j e ≡ false
    not_back j jl other false is = is
    not_back j jl other true is =
        let count = loop_count v t in
        let low : j < length t.headers = omega arith in
        let also : slice_get t.backs e ≡ Some (Some j) = (tree.backs e j).1 (lt, low, is) in
        absurd (other (same_Some j k (same_Some (Some j) (Some k) (sym also ∙ here))))

-- and over a plain edge all turns at its end are charged and no iteration is added.
pub plain_sides : {v : FlowGraph} {t : LoopView} {w : ℕ → ℕ} {visits : List Visit} {n : Numbers} (e to : ℕ) → AreAllVisited v t w visits → AreSolvedBy v t w n → e < length v.code.edges →
    IsPlain (graph v) (loops v t) e → (graph v).target e ≡ slice_get v.code.nodes to → to < length v.code.nodes →
    (charge (graph v) (loops v t) w n e ≡ cost (graph v) n w e + (visit_at visits to).turns) × (turn_back (graph v) (loops v t) n e ≡ 0)
plain_sides {v = v} {t = t} {w = w} {visits = visits} {n = n} e to found s lt plain leads tl =
    let target : (graph v).target e ≡ Some (node_address v to) = leads ∙ node_here v to tl in
    let visit : IsVisit (loops v t) n (node_address v to) (visit_at visits to) = found.each n s to (node_address v to) (node_here v to tl) in (
      charge_turns e (node_address v to) (visit_at visits to).turns s lt plain target visit.turns,
      sum-none (loops v t).loops (λ j. only (is_back (graph v) (loops v t) j e) (n.iteration j)) (λ j jl. only_false (is_back (graph v) (loops v t) j e) (n.iteration j) (plain j jl)),
    )

-- what is left at both ends of an edge
pub left_sides : {v : FlowGraph} {t : LoopView} {w : ℕ → ℕ} {left : List ℕ} {n : Numbers} (e from to : ℕ) → AreLefts v t w left → AreSolvedBy v t w n → slice_get v.code.nodes from ≡ Some ((graph v).source e) → (graph v).target e ≡ slice_get v.code.nodes to → to < length v.code.nodes →
    (number_in_place left from ≡ n.left ((graph v).source e)) × (number_in_place left to ≡ left_at n ((graph v).target e))
left_sides {v = v} {t = t} {w = w} {left = left} {n = n} e from to lefts s source leads tl = (
  lefts.each n s from (slice_get_within v.code.nodes from _ source) ∙ ap n.left (get_or_from_slice_get v.code.nodes from _ 0 source),
  lefts.each n s to tl ∙ sym (ap (left_at n) (leads ∙ node_here v to tl)),
)

-- an edge that leads to a node has its slack and its rest,
pub slack_there : (v : FlowGraph) (t : LoopView) (w : ℕ → ℕ) (n : Numbers) (e to : ℕ) → (graph v).target e ≡ slice_get v.code.nodes to → to < length v.code.nodes → slack (graph v) (loops v t) n (cost (graph v) n w) e ≡ slack_at (graph v) (loops v t) w n e
slack_there v t w n e to leads tl = sym (only_true (is_some ((graph v).target e)) _ (ap is_some (leads ∙ node_here v to tl)))

pub rest_there : (v : FlowGraph) (t : LoopView) (n : Numbers) (e to : ℕ) → (graph v).target e ≡ slice_get v.code.nodes to → to < length v.code.nodes → rest (graph v) (loops v t) n e ≡ rest_at (graph v) (loops v t) n e
rest_there v t n e to leads tl = sym (only_true (is_some ((graph v).target e)) _ (ap is_some (leads ∙ node_here v to tl)))

-- and the rest is made of what is left at the node, the turns round it, and the function's context.
pub rest_value : {v : FlowGraph} {t : LoopView} {w : ℕ → ℕ} {left around context : List ℕ} {n : Numbers} (e to owner : ℕ) → AreLefts v t w left → AreTurnsRound v t w around → AreContexts v t w context → AreSolvedBy v t w n → (graph v).target e ≡ slice_get v.code.nodes to → to < length v.code.nodes →
    owner ≡ (graph v).owner ((graph v).source e) → owner < length v.code.functions → number_in_place left to + number_in_place around to + number_in_place context owner ≡ rest (graph v) (loops v t) n e
rest_value {v = v} {t = t} {w = w} {left = left} {around = around} {context = context} {n = n} e to owner lefts rounds contexts s leads tl owner_is ol =
    let target : (graph v).target e ≡ Some (node_address v to) = leads ∙ node_here v to tl in
    let a : number_in_place left to ≡ left_at n ((graph v).target e) = lefts.each n s to tl ∙ sym (ap (left_at n) target) in
    let b : number_in_place around to ≡ turns_round (loops v t) n ((graph v).target e) = rounds.each n s to tl ∙ sym (ap (turns_round (loops v t) n) target) in
    let c : number_in_place context owner ≡ n.context ((graph v).owner ((graph v).source e)) = contexts.each n s owner ol ∙ ap n.context owner_is in
    omega arith

pub context_small : (v : FlowGraph) (t : LoopView) (w : ℕ → ℕ) (context : List ℕ) (f : ℕ) → HasSolved v t w → AreContexts v t w context → f < length v.code.functions → number_in_place context f ≤ 2 ^ 48
context_small v t w context f n contexts fl =
    let a = contexts.each n.0 n.1 f fl in
    let b = n.1.context_within f fl in
    let c : n.0.worst 0 ≤ 2 ^ 48 = n.2 in
    omega arith

-- what stands on both sides of the difference, and the difference, over a back edge
pub back_value : {v : FlowGraph} {t : LoopView} {extent : ℕ → ℕ → Bool} {w : ℕ → ℕ} {visits : List Visit} {left : List ℕ} {n : Numbers} (e k from to price : ℕ) → IsLoopTree v extent t → AreAllVisited v t w visits → AreLefts v t w left → AreSolvedBy v t w n → e < length v.code.edges →
    slice_get t.backs e ≡ Some (Some k) → slice_get v.code.nodes from ≡ Some ((graph v).source e) → (graph v).target e ≡ slice_get v.code.nodes to → to < length v.code.nodes → price ≡ cost (graph v) n w e →
    (price + number_in_place left to ≤ number_in_place left from + (visit_at visits to).iteration) ×
    (number_in_place left from + (visit_at visits to).iteration - (price + number_in_place left to) ≡ slack (graph v) (loops v t) n (cost (graph v) n w) e)
back_value {v = v} {t = t} {extent = extent} {w = w} {visits = visits} {left = left} {n = n} e k from to price tree found lefts s lt here source leads tl priced =
    let sides = back_sides e k to tree found s lt here leads tl in
    let ends = left_sides e from to lefts s source leads tl in
    let over : charge (graph v) (loops v t) w n e + left_at n ((graph v).target e) ≤ n.left ((graph v).source e) + turn_back (graph v) (loops v t) n e = s.over_edge e lt in
    let a : charge (graph v) (loops v t) w n e ≡ cost (graph v) n w e = sides.0 in
    let b : turn_back (graph v) (loops v t) n e ≡ (visit_at visits to).iteration = sides.1 in
    let c : number_in_place left from ≡ n.left ((graph v).source e) = ends.0 in
    let d : number_in_place left to ≡ left_at n ((graph v).target e) = ends.1 in (
      (let r : price + number_in_place left to ≤ number_in_place left from + (visit_at visits to).iteration = omega arith in r),
      (let r : number_in_place left from + (visit_at visits to).iteration - (price + number_in_place left to) ≡ n.left ((graph v).source e) + turn_back (graph v) (loops v t) n e - (charge (graph v) (loops v t) w n e + left_at n ((graph v).target e)) = omega arith in r),
    )

-- and over a plain edge
pub plain_value : {v : FlowGraph} {t : LoopView} {w : ℕ → ℕ} {visits : List Visit} {left : List ℕ} {n : Numbers} (e from to price : ℕ) → AreAllVisited v t w visits → AreLefts v t w left → AreSolvedBy v t w n → e < length v.code.edges →
    IsPlain (graph v) (loops v t) e → slice_get v.code.nodes from ≡ Some ((graph v).source e) → (graph v).target e ≡ slice_get v.code.nodes to → to < length v.code.nodes → price ≡ cost (graph v) n w e →
    ((visit_at visits to).turns + (price + number_in_place left to) ≤ number_in_place left from) ×
    (number_in_place left from - ((visit_at visits to).turns + (price + number_in_place left to)) ≡ slack (graph v) (loops v t) n (cost (graph v) n w) e)
plain_value {v = v} {t = t} {w = w} {visits = visits} {left = left} {n = n} e from to price found lefts s lt plain source leads tl priced =
    let sides = plain_sides e to found s lt plain leads tl in
    let ends = left_sides e from to lefts s source leads tl in
    let over : charge (graph v) (loops v t) w n e + left_at n ((graph v).target e) ≤ n.left ((graph v).source e) + turn_back (graph v) (loops v t) n e = s.over_edge e lt in
    let a : charge (graph v) (loops v t) w n e ≡ cost (graph v) n w e + (visit_at visits to).turns = sides.0 in
    let b : turn_back (graph v) (loops v t) n e ≡ 0 = sides.1 in
    let c : number_in_place left from ≡ n.left ((graph v).source e) = ends.0 in
    let d : number_in_place left to ≡ left_at n ((graph v).target e) = ends.1 in (
      (let r : (visit_at visits to).turns + (price + number_in_place left to) ≤ number_in_place left from = omega arith in r),
      (let r : number_in_place left from - ((visit_at visits to).turns + (price + number_in_place left to)) ≡ n.left ((graph v).source e) + turn_back (graph v) (loops v t) n e - (charge (graph v) (loops v t) w n e + left_at n ((graph v).target e)) = omega arith in r),
    )

pub lefts_small : (v : FlowGraph) (t : LoopView) (w : ℕ → ℕ) (left : List ℕ) (k : ℕ) → IsFlowGraph v → HasSolved v t w → AreLefts v t w left → k < length v.code.nodes → number_in_place left k ≤ 2 ^ 48
lefts_small v t w left k flow n lefts kl =
    let within = n.1.left_within (node_address v k) ((flow.nodes (node_address v k)).0 (k, node_here v k kl)) in
    let a = lefts.each n.0 n.1 k kl in
    let small : n.0.worst 0 ≤ 2 ^ 48 = n.2 in
    omega arith

-- ---- the whole

pub holds_left : {v : FlowGraph} {t : LoopView} {w : ℕ → ℕ} {parts : LeftParts} {n : Numbers} (worst iteration : List ℕ) → AreParts v t w parts → AreSolvedBy v t w n →
    HoldsLeft v (loops v t) w n (record { worst = worst; iteration = iteration; left = parts.left.items; context = parts.context.items; slacks = parts.slacks.items; rests = parts.rests.items })
holds_left {v = v} {t = t} {w = w} {parts = parts} {n = n} worst iteration are s = record {
  left = λ k at node.
      let kl : k < length v.code.nodes = slice_get_within v.code.nodes k at node in
      let size = are.left.size in
      slice_get-get_or parts.left.items k 0 (let r : k < length parts.left.items = omega arith in r) ∙ ap Some (are.left.each n s k kl ∙ ap n.left (get_or_from_slice_get v.code.nodes k at 0 node));
  context = λ f fl. let size = are.context.size in slice_get-get_or parts.context.items f 0 (let r : f < length parts.context.items = omega arith in r) ∙ ap Some (are.context.each n s f fl);
  slack = λ e el. let size = are.slacks.size in slice_get-get_or parts.slacks.items e 0 (let r : e < length parts.slacks.items = omega arith in r) ∙ ap Some (are.slacks.each n s e el);
  rest = λ e el. let size = are.rests.size in slice_get-get_or parts.rests.items e 0 (let r : e < length parts.rests.items = omega arith in r) ∙ ap Some (are.rests.each n s e el);
}
