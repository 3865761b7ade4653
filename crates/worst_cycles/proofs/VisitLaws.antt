-- A pass over the nodes in an order in which each stands behind what is needed for it.
use Rattle.std.proofs.Common.{◌≡◌, ◌≢◌, ℕ, ◌+◌, ◌*◌, ◌^◌, ◌<◌, ◌≤◌, inl, inr, List, length, set, slice_get, slice_index, get_or, Option, Some, None, refl, sym, ap, ◌∙◌, subst, arith, ⊎_elim, get_or-set_same, get_or-set_other}
use Rattle.std.proofs.lemmas.Bool.{cases_eq, cases_lt}
use Rattle.std.proofs.lemmas.Option.{slice_get-get_or, slice_get_within, get_or_from_slice_get}
use Rattle.graph_algorithms.specs.Arcs.{number_in_place}
use Rattle.cost_theory.specs.Graph.{Graph, Loops}
use Rattle.cost_theory.specs.Worst.{Numbers, all_of}
use Rattle.flow_graph.specs.FlowGraph.{FlowGraph, graph, IsFlowGraph}
use Rattle.loop_forest.specs.Noted.{node_address}
use Rattle.loop_forest.specs.Tree.{LoopView, loops}
use Rattle.worst_cycles.specs.declared.plan.Plan.{Plan}
use Rattle.worst_cycles.specs.declared.visits.Visit.{Visit}
use Rattle.worst_cycles.specs.Worst.{by_edge}
use Rattle.worst_cycles.specs.Needs.{StartsAtNode}
use Rattle.worst_cycles.specs.Solved.{AreSolved}
use Rattle.worst_cycles.specs.Visits.{headed_at, visit_at, IsTurnsAt, IsVisit, IsSmallVisit, AreVisits, AreKnownAt, AreSolvedBy, IsOverLimit, AreVisitedTo, AreAllVisited}
use Rattle.worst_cycles.specs.Planned.{IsPlannedBy}
use Rattle.worst_cycles.proofs.SearchLaws.{value_at}
use Rattle.worst_cycles.proofs.BodyLaws.{node_here, same_node, by_plain, loop_count, header_number, header_address}

-- worst cycles are a plain path and all turns at the entry
pub worst_at : {g : Graph} {l : Loops} {w : ℕ → ℕ} {n : Numbers} {x : Visit} (f : ℕ) → AreSolved g l w n → f < g.functions → IsVisit l n (g.entry f) x → x.plain + x.turns ≡ n.worst f
worst_at {g = g} {l = l} {w = w} {n = n} {x = x} f s fl visit =
    let plain = visit.plain in ⊎_elim
    (λ (some : (k : ℕ) × (k < l.loops) × (l.header k ≡ g.entry f) × (x.turns ≡ all_of l n k)).
    let is : n.worst f ≡ n.plain (g.entry f) + all_of l n some.0 = (s.worst f fl).1 some.0 some.1 some.2 in
    let turns : x.turns ≡ all_of l n some.0 = some.3 in
    let r : x.plain + x.turns ≡ n.worst f = omega arith in r)
    (λ (none : ((k : ℕ) → k < l.loops → l.header k ≢ g.entry f) × (x.turns ≡ 0)).
    let is : n.worst f ≡ n.plain (g.entry f) = (s.worst f fl).0 none.0 in
    let turns : x.turns ≡ 0 = none.1 in
    let r : x.plain + x.turns ≡ n.worst f = omega arith in r)
    visit.turns

-- what is needed for the edges of a node is known, once the nodes before it are visited
pub known_before : {v : FlowGraph} {t : LoopView} {w : List ℕ} {plan : Plan} {n : Numbers} → IsPlannedBy v t w plan → (visits : List Visit) (i m : ℕ) → AreVisitedTo v t (by_edge w) plan.order.items i visits → AreSolvedBy v t (by_edge w) n →
    m ≤ i → m < length plan.order.items → AreKnownAt v t plan visits n (node_address v (number_in_place plan.order.items m))
known_before {v = v} {t = t} {w = w} {plan = plan} {n = n} is visits i m visited s le ml e lt from =
    let here : StartsAtNode v e (number_in_place plan.order.items m) = node_here v (number_in_place plan.order.items m) (is.plan.order.within m ml) ∙ ap Some (sym from) in
    record {
      called = λ f callee.
          let fl = is.flow.program.callee_function e f lt callee in
          let j = is.plan.order.ready m e (number_in_place plan.entries.items f) ml lt here (inr (f, callee, refl)) in
          let low = j.1 in
          let before : j.0 < i = omega arith in
          let node : slice_get v.code.nodes (number_in_place plan.order.items j.0) ≡ Some ((graph v).entry f) = ap (slice_get v.code.nodes) j.2 ∙ is.plan.entries.each f fl in
          let visit : IsVisit (loops v t) n ((graph v).entry f) (visit_at visits (number_in_place plan.entries.items f)) =
          subst (λ q. IsVisit (loops v t) n ((graph v).entry f) (visit_at visits q)) j.2 (visited n s j.0 ((graph v).entry f) before node) in
          worst_at f s fl visit;
      led = λ k at node to plain.
          let j = is.plan.order.ready m e k ml lt here (inl (by_plain v t is.tree.0 is.tree.1 e lt plain, (to ∙ sym node, slice_get_within v.code.nodes k at node))) in
          let low = j.1 in
          let before : j.0 < i = omega arith in
          let node_j : slice_get v.code.nodes (number_in_place plan.order.items j.0) ≡ Some at = ap (slice_get v.code.nodes) j.2 ∙ node in
          subst (λ q. IsVisit (loops v t) n at (visit_at visits q)) j.2 (visited n s j.0 at before node_j);
    }

-- ---- all turns at a node

-- a node that is the header of no loop
pub no_turns : {v : FlowGraph} {t : LoopView} {w : List ℕ} {plan : Plan} → IsPlannedBy v t w plan → (n : Numbers) (k : ℕ) → k < length v.code.nodes → headed_at plan.headed.items k ≡ None → (j : ℕ) → j < (loops v t).loops → (loops v t).header j ≢ node_address v k
no_turns {v = v} {t = t} {w = w} {plan = plan} is n k kl none j jl same =
    let count = loop_count v t in
    let low : j < length t.headers = omega arith in
    let address : (loops v t).header j ≡ node_address v (number_in_place t.headers j) = header_address v t j low in
    let one : number_in_place t.headers j ≡ k = same_node v is.flow (number_in_place t.headers j) k (header_number v t is.tree.0 is.tree.1 j low) kl (sym address ∙ same) in
    is.plan.headed.none k j none (slice_get-get_or t.headers j 0 low ∙ ap Some one)

-- the loop that a plan has for a node of the order
pub headed_is : {v : FlowGraph} {t : LoopView} {w : List ℕ} {plan : Plan} → IsPlannedBy v t w plan → (i k : ℕ) (o : Option ℕ) → i < length plan.order.items → k ≡ get_or plan.order.items i k → o ≡ get_or plan.headed.items k o → headed_at plan.headed.items (number_in_place plan.order.items i) ≡ o
headed_is {v = v} {t = t} {w = w} {plan = plan} is i k o il node has =
    let here : number_in_place plan.order.items i ≡ k = value_at plan.order.items i k 0 il node in
    let size = is.plan.headed_size in
    let within : number_in_place plan.order.items i < length v.code.nodes = is.plan.order.within i il in
    let low : k < length plan.headed.items = omega arith in
    ap (headed_at plan.headed.items) here ∙ value_at plan.headed.items k o None low has

bound_at : (v : FlowGraph) (t : LoopView) (l b : ℕ) → slice_get t.bounds l ≡ Some b → (loops v t).bound l ≡ b
bound_at v t l b has = get_or_from_slice_get t.bounds l b 0 has

-- all turns of loop l, from its bound and its iteration, at its header
pub turns_found : {w : ℕ → ℕ} (v : FlowGraph) (t : LoopView) (l k b x turns : ℕ) → slice_get t.headers l ≡ Some k → slice_get t.bounds l ≡ Some b → turns ≡ b * x → ((n : Numbers) → AreSolvedBy v t w n → x ≡ n.iteration l) → (n : Numbers) → AreSolvedBy v t w n →
    IsTurnsAt (loops v t) n (node_address v k) turns × ((j : ℕ) → j < (loops v t).loops → (loops v t).header j ≡ node_address v k → x ≡ n.iteration j)
turns_found {w = w} v t l k b x turns has bounded is found n s =
    let count = loop_count v t in
    let low : l < length t.headers = slice_get_within t.headers l k has in
    let within : l < (loops v t).loops = omega arith in
    let address : (loops v t).header l ≡ node_address v k = header_address v t l low ∙ ap (node_address v) (get_or_from_slice_get t.headers l k 0 has) in
    let product : turns ≡ (loops v t).bound l * n.iteration l = is ∙ ap (λ y. b * y) (found n s) ∙ ap (λ y. y * n.iteration l) (sym (bound_at v t l b bounded)) in (
      inl (l, within, address, product),
      λ j jl same. found n s ∙ ap n.iteration (s.different l j within jl (address ∙ sym same)),
    )

pub turns_too_long : (v : FlowGraph) (t : LoopView) (w : ℕ → ℕ) (l b x : ℕ) → l < length t.headers → slice_get t.bounds l ≡ Some b → ((n : Numbers) → AreSolvedBy v t w n → x ≡ n.iteration l) → 2 ^ 48 < b * x → IsOverLimit v t w
turns_too_long v t w l b x ll bounded found more n s =
    let count = loop_count v t in
    let lt : l < (loops v t).loops = omega arith in
    let within : (loops v t).bound l * n.iteration l ≤ n.worst 0 = s.turns_within l lt in
    let product : b * x ≡ (loops v t).bound l * n.iteration l = ap (λ y. b * y) (found n s) ∙ ap (λ y. y * n.iteration l) (sym (bound_at v t l b bounded)) in
    omega arith

-- ---- plain paths

-- what is found at the next node is the greatest cost of a plain path from there
pub next_plain : {v : FlowGraph} {t : LoopView} {w : List ℕ} {plan : Plan} → IsPlannedBy v t w plan → (visits : List Visit) (i k x : ℕ) → AreVisitedTo v t (by_edge w) plan.order.items i visits → i < length plan.order.items → k ≡ get_or plan.order.items i k →
    ((n : Numbers) → AreSolvedBy v t (by_edge w) n → AreKnownAt v t plan visits n (slice_index v.code.nodes k) → x ≡ n.plain (slice_index v.code.nodes k)) → (n : Numbers) → AreSolvedBy v t (by_edge w) n → x ≡ n.plain (node_address v (number_in_place plan.order.items i))
next_plain {v = v} {t = t} {w = w} {plan = plan} is visits i k x visited il node found n s =
    let here : k ≡ number_in_place plan.order.items i = sym (value_at plan.order.items i k 0 il node) in
    let there = subst (λ y. AreKnownAt v t plan visits n (slice_index v.code.nodes y) → x ≡ n.plain (slice_index v.code.nodes y)) here (found n s) in
    there (known_before is visits i i visited s (let r : i ≤ i = omega arith in r) il)

pub plain_too_long : (v : FlowGraph) (t : LoopView) (w : ℕ → ℕ) (k x : ℕ) → IsFlowGraph v → k < length v.code.nodes → ((n : Numbers) → AreSolvedBy v t w n → x ≡ n.plain (node_address v k)) → 2 ^ 48 < x → IsOverLimit v t w
plain_too_long v t w k x flow kl found more n s =
    let within : n.plain (node_address v k) ≤ n.worst 0 = s.plain_within (node_address v k) ((flow.nodes (node_address v k)).0 (k, node_here v k kl)) in
    let same : x ≡ n.plain (node_address v k) = found n s in
    omega arith

-- ---- the table

-- the next node's numbers are put into the table
pub visited_more : (v : FlowGraph) (t : LoopView) (w : ℕ → ℕ) (order : List ℕ) (visits : List Visit) (i k : ℕ) (x : Visit) → number_in_place order i ≡ k → k < length visits → AreVisitedTo v t w order i visits →
    ((n : Numbers) → AreSolvedBy v t w n → IsVisit (loops v t) n (slice_index v.code.nodes k) x) → AreVisitedTo v t w order (i + 1) (set visits k x)
visited_more v t w order visits i k x here low visited found n s j at lt node = ⊎_elim
    (λ (same : number_in_place order j ≡ k).
    let at_is : slice_index v.code.nodes k ≡ at = ap (slice_index v.code.nodes) (sym same) ∙ get_or_from_slice_get v.code.nodes (number_in_place order j) at 0 node in
    let value : x ≡ visit_at (set visits k x) (number_in_place order j) = sym (ap (visit_at (set visits k x)) same ∙ get_or-set_same visits k x _ low) in
    subst (IsVisit (loops v t) n at) value (subst (λ a. IsVisit (loops v t) n a x) at_is (found n s)))
    (λ (other : number_in_place order j ≡ k → ⊥).
    ⊎_elim
    (λ (before : j < i). subst (IsVisit (loops v t) n at) (sym (get_or-set_other visits k (number_in_place order j) x _ other)) (visited n s j at before node))
    (λ (last : i ≤ j). let one : j ≡ i = omega arith in absurd (other (ap (number_in_place order) one ∙ here)))
    (cases_lt j i))
    (cases_eq (number_in_place order j) k)

pub small_more : (visits : List Visit) (k : ℕ) (x : Visit) → k < length visits → ((j : ℕ) → IsSmallVisit (visit_at visits j)) → IsSmallVisit x → (j : ℕ) → IsSmallVisit (visit_at (set visits k x) j)
small_more visits k x low small is j = ⊎_elim
    (λ (same : j ≡ k). subst IsSmallVisit (sym (ap (visit_at (set visits k x)) same ∙ get_or-set_same visits k x _ low)) is)
    (λ (other : j ≡ k → ⊥). subst IsSmallVisit (sym (get_or-set_other visits k j x _ other)) (small j))
    (cases_eq j k)

pub all_visited : {v : FlowGraph} {t : LoopView} {w : List ℕ} {plan : Plan} {visits : List Visit} → IsPlannedBy v t w plan → AreVisits v visits → AreVisitedTo v t (by_edge w) plan.order.items (length plan.order.items) visits → AreAllVisited v t (by_edge w) visits
all_visited {v = v} {t = t} {w = w} {plan = plan} {visits = visits} is table visited = record {
  table = table;
  each = λ n s k at node.
      let i = is.plan.order.whole k (slice_get_within v.code.nodes k at node) in
      subst (λ q. IsVisit (loops v t) n at (visit_at visits q)) i.2 (visited n s i.0 at i.1 (ap (slice_get v.code.nodes) i.2 ∙ node));
}
