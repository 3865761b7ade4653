-- What is needed for an edge lies below its node: so the arcs of needs have no cycle.
use Rattle.std.proofs.lemmas.List.{length-map}
use Rattle.std.proofs.Common.{Bool, true, false, map, slice_get, ◌≡◌, ℕ, ◌+◌, ◌-◌, ◌*◌, ◌<◌, ◌≤◌, List, length, slice_index, Some, refl, sym, ap, ◌∙◌, subst, arith, ⊎_elim, mul-le-mul_right}
use Rattle.std.proofs.lemmas.Option.{slice_get-get_or, get_or_from_slice_get}
use Rattle.graph_algorithms.specs.declared.orders.Arc.{Arc}
use Rattle.graph_algorithms.specs.Arcs.{arc_at, number_in_place, HasArc, Leads, HasNoCycle}
use Rattle.graph_algorithms.specs.Arcs.Leads.{along, onward}
use Rattle.cost_theory.specs.Graph.{Graph, Loops, IsPlain, is_back}
use Rattle.cost_theory.specs.Accepted.{IsProgram, IsCallOrder, IsPlainOrder}
use Rattle.cost_theory.proofs.Laws as theory
use Rattle.flow_graph.specs.FlowGraph.{FlowGraph, graph, IsFlowGraph}
use Rattle.loop_forest.specs.Noted.{node_address}
use Rattle.loop_forest.specs.Arcs.{IsPlainBy}
use Rattle.loop_forest.specs.Tree.{LoopView, loops, IsLoopTree}
use Rattle.worst_cycles.specs.Needs.{AreEntries, LeadsPlainly, CallsNode, IsNeeded, AreNeeds, HasTree}

-- by the place of its function first, and by its own place then
abbrev height : Graph → (ℕ → ℕ) → ℕ → (ℕ → ℕ) → ℕ → ℕ
height g rank count place at = rank (g.owner at) * count + (count - place at)

led_falls : (g : Graph) (l : Loops) (rank : ℕ → ℕ) (count : ℕ) (place : ℕ → ℕ) → IsProgram g → IsPlainOrder g l count place →
    (e to : ℕ) → e < g.edges → IsPlain g l e → g.target e ≡ Some to → height g rank count place to < height g rank count place (g.source e)
led_falls g l rank count place prog is e to lt plain leads =
    let stays = prog.stays e to lt leads in
    let rises : place (g.source e) < place to = is.rises e to lt (plain) leads in
    let below : place to < count = is.below to stays.0 in
    let same : rank (g.owner to) * count ≡ rank (g.owner (g.source e)) * count = ap (λ f. rank f * count) stays.1 in
    omega arith

called_falls : (g : Graph) (l : Loops) (rank : ℕ → ℕ) (count : ℕ) (place : ℕ → ℕ) → IsProgram g → IsPlainOrder g l count place → IsCallOrder g rank →
    (e f : ℕ) → e < g.edges → g.callee e ≡ Some f → height g rank count place (g.entry f) < height g rank count place (g.source e)
called_falls g l rank count place prog is calls e f lt callee =
    let falls : rank f < rank (g.owner (g.source e)) = calls.falls (g.source e) f (e, lt, refl, callee) in
    let below : place (g.source e) < count = is.below (g.source e) (e, lt, refl) in
    let same : rank (g.owner (g.entry f)) * count ≡ rank f * count = ap (λ h. rank h * count) (prog.entry_owner f (prog.callee_function e f lt callee)) in
    let more : (rank f + 1) * count ≤ rank (g.owner (g.source e)) * count = mul-le-mul_right count (let h : rank f + 1 ≤ rank (g.owner (g.source e)) = omega arith in h) in
    omega arith

leads_falls : (arcs : List Arc) (at : ℕ → ℕ) → ((a b : ℕ) → HasArc arcs a b → at b < at a) → (a b : ℕ) → Leads arcs a b → at b < at a
leads_falls arcs at falls a b (along h) = falls a b h
leads_falls arcs at falls a c (onward b h leads) = let low : at b < at a = falls a b h in let more : at c < at b = leads_falls arcs at falls b c leads in omega arith

-- an edge that a list has as no back edge is plain
pub plain_by : (v : FlowGraph) (t : LoopView) (extent : ℕ → ℕ → Bool) → IsLoopTree v extent t → (e : ℕ) → e < length v.code.edges → IsPlainBy t.backs e → IsPlain (graph v) (loops v t) e
plain_by v t extent is e lt plain k kl = go (is_back (graph v) (loops v t) k e) refl
  where
    go : (b : Bool) → is_back (graph v) (loops v t) k e ≡ b → is_back (graph v) (loops v t) k e ≡ false
    go true back = let size : length (map (node_address v) t.headers) ≡ length t.headers = length-map t.headers (node_address v) in
        let low : k < length t.headers = omega arith in
        let here : slice_get t.backs e ≡ Some (Some k) = (is.backs e k).1 (lt, low, back) in
        let bad : ⊥ = cc in absurd bad
    go false back = back

need_falls : {v : FlowGraph} {t : LoopView} {extent : ℕ → ℕ → Bool} {entries : List ℕ} {count : ℕ} {place : ℕ → ℕ} (rank : ℕ → ℕ) → IsFlowGraph v → AreEntries v entries → IsLoopTree v extent t → IsPlainOrder (graph v) (loops v t) count place → IsCallOrder (graph v) rank →
    (e n : ℕ) → e < length v.code.edges → IsNeeded v t.backs entries e n → height (graph v) rank count place (slice_index v.code.nodes n) < height (graph v) rank count place ((graph v).source e)
need_falls {v = v} {t = t} {extent = extent} {entries = entries} {count = count} {place = place} rank flow are tree is calls e n lt need = ⊎_elim
    (λ (led : LeadsPlainly v t.backs e n). led_falls (graph v) (loops v t) rank count place flow.program is e (slice_index v.code.nodes n) lt (plain_by v t extent tree e lt led.0) (led.1.0 ∙ slice_get-get_or v.code.nodes n 0 led.1.1))
    (λ (called : CallsNode v entries e n).
    let at : (graph v).entry called.0 ≡ slice_index v.code.nodes n =
    sym (get_or_from_slice_get v.code.nodes (number_in_place entries called.0) _ 0 (are.each called.0 (flow.program.callee_function e called.0 lt called.1))) ∙ ap (slice_index v.code.nodes) (sym called.2) in
    subst (λ x. height (graph v) rank count place x < height (graph v) rank count place ((graph v).source e)) at
    (called_falls (graph v) (loops v t) rank count place flow.program is calls e called.0 lt called.1))
    need

pub no_needs_round : (v : FlowGraph) (t : LoopView) (entries : List ℕ) (n : ℕ) (arcs : List Arc) → IsFlowGraph v → AreEntries v entries → HasTree v t → AreNeeds v t.backs entries n arcs → HasNoCycle arcs
no_needs_round v t entries n arcs flow are tree needs a leads =
    let plain = theory.plain_order (graph v) flow.program (loops v t) tree.0 tree.1.accepted in
    let calls = theory.call_order (graph v) flow.program in
    let at : ℕ → ℕ = λ k. height (graph v) calls.0 plain.0 plain.1.0 (slice_index v.code.nodes k) in
    let falls : (a b : ℕ) → HasArc arcs a b → at b < at a = λ a b h.
    let s = needs.each h.0 h.1 in
    let from_is : (graph v).source s.0 ≡ slice_index v.code.nodes a = sym (get_or_from_slice_get v.code.nodes (arc_at arcs h.0).from _ 0 s.2) ∙ ap (slice_index v.code.nodes) h.2 in
    let low : at (arc_at arcs h.0).to < height (graph v) calls.0 plain.0 plain.1.0 ((graph v).source s.0) = need_falls calls.0 flow are tree.1 plain.1.1 calls.1 s.0 (arc_at arcs h.0).to s.1 s.3 in
    subst (λ x. at b < height (graph v) calls.0 plain.0 plain.1.0 x) from_is (subst (λ y. at y < height (graph v) calls.0 plain.0 plain.1.0 ((graph v).source s.0)) h.3 low) in
    let bad : at a < at a = leads_falls arcs at falls a a leads in
    let no_way : ⊥ = omega arith in no_way
