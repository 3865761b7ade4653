-- The contexts of functions, as what is left behind their calls raises them.
use Rattle.std.proofs.Common.{◌≡◌, ◌≢◌, ℕ, ◌+◌, ◌-◌, ◌^◌, ◌<◌, ◌≤◌, ◌⊎◌, inl, inr, List, length, slice_get, Option, Some, None, unwrap_or, refl, sym, ap, ◌∙◌, subst, arith, ⊎_elim}
use Rattle.std.proofs.lemmas.Bool.{cases_lt, cases_eq}
use Rattle.std.proofs.lemmas.Option.{slice_get_within, get_or_from_slice_get}
use Rattle.graph_algorithms.specs.Arcs.{number_in_place}
use Rattle.cost_theory.specs.Graph.{Graph, Loops}
use Rattle.cost_theory.specs.Worst.{Numbers, cost, turns_round, IsReturningCall, context_of, IsContext, IsGreatestIfAny}
use Rattle.flow_graph.specs.FlowGraph.{FlowGraph, graph, IsFlowGraph}
use Rattle.loop_forest.specs.Noted.{node_address}
use Rattle.loop_forest.proofs.Laws.{source_number, one_number}
use Rattle.loop_forest.specs.Tree.{LoopView, loops}
use Rattle.worst_cycles.specs.declared.plan.Plan.{Plan}
use Rattle.worst_cycles.specs.Worst.{by_edge}
use Rattle.worst_cycles.specs.Needs.{StartsAtNode}
use Rattle.worst_cycles.specs.Visits.{AreSolvedBy}
use Rattle.worst_cycles.specs.Lefts.{HasSolved, AreLefts, AreTurnsRound, IsContextTo, IsFromPlace, AreContextsTo, AreContexts, AreContextsRaised}
use Rattle.worst_cycles.specs.Planned.{IsPlannedBy}
use Rattle.worst_cycles.proofs.BodyLaws.{node_here}
use Rattle.worst_cycles.proofs.PlanLaws.{at_place, entry_behind}

-- what is left behind a call is at most the context of the called function
pub context_most : {g : Graph} {f e : ℕ} (l : Loops) (w : ℕ → ℕ) (n : Numbers) → IsContext g l w n f → f ≢ 0 → IsReturningCall g f e → context_of g l w n e ≤ n.context f
context_most {g = g} {f = f} {e = e} l w n is some call = ⊎_elim
    (λ (first : (f ≡ 0) × (n.context f ≡ 0)). absurd (some first.0))
    (λ (other : (f ≢ 0) × ((o : Option ℕ) × IsGreatestIfAny (IsReturningCall g f) (context_of g l w n) o × (n.context f ≡ unwrap_or o 0))). pick other.1.0 other.1.1 other.1.2)
    is
  where
    pick : (o : Option ℕ) → IsGreatestIfAny (IsReturningCall g f) (context_of g l w n) o → n.context f ≡ unwrap_or o 0 → context_of g l w n e ≤ n.context f
    pick None greatest is = absurd (greatest e call)
    pick (Some m) greatest is = let low : context_of g l w n e ≤ m = greatest.most e call in let r : context_of g l w n e ≤ n.context f = omega arith in r

-- where all calls of a function are done, its context is whole
pub context_whole : {g : Graph} {l : Loops} {w : ℕ → ℕ} {n : Numbers} {Done : ℕ → Type 0} {f x : ℕ} → IsContext g l w n f → IsContextTo g l w n Done f x → ((e : ℕ) → IsReturningCall g f e → Done e) → x ≡ n.context f
context_whole {g = g} {l = l} {w = w} {n = n} {Done = Done} {f = f} {x = x} is to done = ⊎_elim
    (λ (first : (f ≡ 0) × (n.context f ≡ 0)). let low : x ≤ n.context f = to.under in let zero : n.context f ≡ 0 = first.1 in let r : x ≡ n.context f = omega arith in r)
    (λ (other : (f ≢ 0) × ((o : Option ℕ) × IsGreatestIfAny (IsReturningCall g f) (context_of g l w n) o × (n.context f ≡ unwrap_or o 0))). pick other.1.0 other.1.1 other.1.2)
    is
  where
    pick : (o : Option ℕ) → IsGreatestIfAny (IsReturningCall g f) (context_of g l w n) o → n.context f ≡ unwrap_or o 0 → x ≡ n.context f
    pick None greatest is = let low : x ≤ n.context f = to.under in let r : x ≡ n.context f = omega arith in r
    pick (Some m) greatest is =
        let e = greatest.reached in
        let over : context_of g l w n e.0 ≤ x = to.over e.0 (done e.0 e.1) e.1 in
        let value : context_of g l w n e.0 ≡ m = e.2 in
        let low : x ≤ n.context f = to.under in
        let r : x ≡ n.context f = omega arith in r

-- no edge starts behind the order
pub contexts_first : {v : FlowGraph} {t : LoopView} {w : List ℕ} {plan : Plan} → IsPlannedBy v t w plan → (context : List ℕ) → ((f : ℕ) → f < length v.code.functions → number_in_place context f ≡ 0) → AreContextsTo v t (by_edge w) plan (length plan.order.items) context
contexts_first {v = v} {t = t} {w = w} {plan = plan} is context zero n s f fl =
    let none : number_in_place context f ≡ 0 = zero f fl in
    record {
      under = let r : number_in_place context f ≤ n.context f = omega arith in r;
      over = λ e from call.
          let k = source_number v is.flow e call.edge in
          let place = at_place is k.0 (slice_get_within v.code.nodes k.0 _ k.1) in
          let high : length plan.order.items ≤ number_in_place plan.places.items k.0 = from k.0 k.1 in
          let low = place.0 in
          let bad : ⊥ = omega arith in absurd bad;
    }

-- the calls of a function stand behind its nodes
calls_behind : {v : FlowGraph} {t : LoopView} {w : List ℕ} {plan : Plan} {e : ℕ} → IsPlannedBy v t w plan → (i : ℕ) → i < length plan.order.items → IsReturningCall (graph v) ((graph v).owner (node_address v (number_in_place plan.order.items i))) e → IsFromPlace v plan (i + 1) e
calls_behind {v = v} {t = t} {w = w} {plan = plan} {e = e} is i il call k node =
    let f = (graph v).owner (node_address v (number_in_place plan.order.items i)) in
    let fl : f < (graph v).functions = is.flow.program.callee_function e f call.edge call.calls in
    let place = at_place is k (slice_get_within v.code.nodes k _ node) in
    let starts : StartsAtNode v e (number_in_place plan.order.items (number_in_place plan.places.items k)) = ap (slice_get v.code.nodes) place.1 ∙ node in
    let j = is.plan.order.ready (number_in_place plan.places.items k) e (number_in_place plan.entries.items f) place.0 call.edge starts (inr (f, call.calls, refl)) in
    let low : j.0 < number_in_place plan.places.items k = j.1 in
    let within = place.0 in
    let jl : j.0 < length plan.order.items = omega arith in
    let entry : node_address v (number_in_place plan.order.items j.0) ≡ (graph v).entry f = ap (node_address v) j.2 ∙ get_or_from_slice_get v.code.nodes (number_in_place plan.entries.items f) _ 0 (is.plan.entries.each f fl) in
    let behind : i ≤ j.0 = entry_behind is j.0 i jl il entry in
    let r : i + 1 ≤ number_in_place plan.places.items k = omega arith in r

-- so the context of the function of the next node is whole
pub own_context : {v : FlowGraph} {t : LoopView} {w : List ℕ} {plan : Plan} {n : Numbers} → IsPlannedBy v t w plan → (context : List ℕ) (i : ℕ) → i < length plan.order.items → AreContextsTo v t (by_edge w) plan (i + 1) context → AreSolvedBy v t (by_edge w) n →
    number_in_place context ((graph v).owner (node_address v (number_in_place plan.order.items i))) ≡ n.context ((graph v).owner (node_address v (number_in_place plan.order.items i)))
own_context {v = v} {t = t} {w = w} {plan = plan} {n = n} is context i il to s =
    let node = (is.flow.nodes (node_address v (number_in_place plan.order.items i))).0 (number_in_place plan.order.items i, node_here v (number_in_place plan.order.items i) (is.plan.order.within i il)) in
    let f = (graph v).owner (node_address v (number_in_place plan.order.items i)) in
    let fl : f < (graph v).functions = subst (λ u. (graph v).owner u < (graph v).functions) node.2 (is.flow.program.owner_function node.0 node.1) in
    context_whole (s.context f fl) (to n s f fl) (λ e call. calls_behind is i il call)

pub contexts_more : {v : FlowGraph} {t : LoopView} {w : List ℕ} {plan : Plan} → IsPlannedBy v t w plan → (old new : List ℕ) (i : ℕ) → i < length plan.order.items →
    ((n : Numbers) → AreSolvedBy v t (by_edge w) n → AreContextsRaised (graph v) (loops v t) (by_edge w) n (node_address v (number_in_place plan.order.items i)) old new) → AreContextsTo v t (by_edge w) plan (i + 1) old → AreContextsTo v t (by_edge w) plan i new
contexts_more {v = v} {t = t} {w = w} {plan = plan} is old new i il raised to n s f fl =
    let before = to n s f fl in
    let now = raised n s in
    record {
      under = ⊎_elim
          (λ (same : number_in_place new f ≡ number_in_place old f). let low = before.under in let r : number_in_place new f ≤ n.context f = omega arith in r)
          (λ (some : (e : ℕ) × ((graph v).source e ≡ node_address v (number_in_place plan.order.items i)) × IsReturningCall (graph v) f e × (number_in_place new f ≡ context_of (graph v) (loops v t) (by_edge w) n e)).
          let most : context_of (graph v) (loops v t) (by_edge w) n some.0 ≤ n.context f = context_most (loops v t) (by_edge w) n (s.context f fl) (s.uncalled some.0 f some.2.edge some.2.calls) some.2 in
          let same : number_in_place new f ≡ context_of (graph v) (loops v t) (by_edge w) n some.0 = some.3 in
          let r : number_in_place new f ≤ n.context f = omega arith in r)
          (now.either f);
      over = λ e from call.
          let k = source_number v is.flow e call.edge in
          let kl = slice_get_within v.code.nodes k.0 _ k.1 in
          let place = at_place is k.0 kl in
          let high : i ≤ number_in_place plan.places.items k.0 = from k.0 k.1 in
          ⊎_elim
          (λ (behind : i < number_in_place plan.places.items k.0).
          let old_over : context_of (graph v) (loops v t) (by_edge w) n e ≤ number_in_place old f = before.over e
          (λ j node. let one : j ≡ k.0 = one_number v is.flow j k.0 _ node k.1 in subst (λ x. i + 1 ≤ number_in_place plan.places.items x) (sym one) (let r : i + 1 ≤ number_in_place plan.places.items k.0 = omega arith in r)) call in
          let more = now.higher f in
          let r : context_of (graph v) (loops v t) (by_edge w) n e ≤ number_in_place new f = omega arith in r)
          (λ (here : number_in_place plan.places.items k.0 ≤ i).
          let same : number_in_place plan.places.items k.0 ≡ i = omega arith in
          let node : k.0 ≡ number_in_place plan.order.items i = sym place.1 ∙ ap (number_in_place plan.order.items) same in
          now.over e f (sym (get_or_from_slice_get v.code.nodes k.0 _ 0 k.1) ∙ ap (node_address v) node) call)
          (cases_lt i (number_in_place plan.places.items k.0));
    }

pub contexts_last : (v : FlowGraph) (t : LoopView) (w : ℕ → ℕ) (plan : Plan) (context : List ℕ) → length context ≡ length v.code.functions → AreContextsTo v t w plan 0 context → AreContexts v t w context
contexts_last v t w plan context size to = record {
  size = size;
  each = λ n s f fl. context_whole (s.context f fl) (to n s f fl) (λ e call k node. let r : 0 ≤ number_in_place plan.places.items k = omega arith in r);
}

-- ---- the edges of one node

pub record AreRaisedTo (g : Graph) (l : Loops) (w : ℕ → ℕ) (n : Numbers) (at first end : ℕ) (old new : List ℕ) : Type 0 where
  pub higher : (f : ℕ) → number_in_place old f ≤ number_in_place new f
  pub over : (e f : ℕ) → first ≤ e → e < end → IsReturningCall g f e → context_of g l w n e ≤ number_in_place new f
  pub either : (f : ℕ) → (number_in_place new f ≡ number_in_place old f) ⊎ ((e : ℕ) × (g.source e ≡ at) × IsReturningCall g f e × (number_in_place new f ≡ context_of g l w n e))

-- an entry is raised to what is left behind a call
pub raised_more : {g : Graph} {l : Loops} {w : ℕ → ℕ} {n : Numbers} {at first e f : ℕ} {old now : List ℕ} (cycles : ℕ) (new : List ℕ) → g.source e ≡ at → IsReturningCall g f e → cycles ≡ context_of g l w n e →
    number_in_place now f ≤ number_in_place new f → cycles ≤ number_in_place new f → (number_in_place new f ≡ number_in_place now f) ⊎ (number_in_place new f ≡ cycles) → ((h : ℕ) → h ≢ f → number_in_place new h ≡ number_in_place now h) →
    AreRaisedTo g l w n at first e old now → AreRaisedTo g l w n at first (e + 1) old new
raised_more {g = g} {l = l} {w = w} {n = n} {at = at} {first = first} {e = e} {f = f} {old = old} {now = now} cycles new from call is higher over either others to = record {
  higher = λ h. let low = to.higher h in let more = rises h in let r : number_in_place old h ≤ number_in_place new h = omega arith in r;
  over = λ d h low high other. ⊎_elim
      (λ (before : d < e). let less = to.over d h low before other in let more = rises h in let r : context_of g l w n d ≤ number_in_place new h = omega arith in r)
      (λ (last : e ≤ d).
      let same : d ≡ e = omega arith in
      let calls : g.callee e ≡ Some h = ap g.callee (sym same) ∙ other.calls in
      let one : f ≡ h = (let eq : Some f ≡ Some h = sym call.calls ∙ calls in let r : f ≡ h = cc in r) in
      let reached : context_of g l w n e ≤ number_in_place new f = omega arith in
      subst (λ x. context_of g l w n x ≤ number_in_place new h) (sym same) (subst (λ x. context_of g l w n e ≤ number_in_place new x) one reached))
      (cases_lt d e);
  either = λ h. ⊎_elim
      (λ (same : h ≡ f). ⊎_elim
      (λ (kept : number_in_place new f ≡ number_in_place now f). keep h (ap (number_in_place new) same ∙ kept ∙ ap (number_in_place now) (sym same)))
      (λ (raised : number_in_place new f ≡ cycles).
      let r : (number_in_place new h ≡ number_in_place old h) ⊎ ((d : ℕ) × (g.source d ≡ at) × IsReturningCall g h d × (number_in_place new h ≡ context_of g l w n d)) =
      inr (e, from, subst (λ x. IsReturningCall g x e) (sym same) call, ap (number_in_place new) same ∙ raised ∙ is) in r)
      either)
      (λ (other : h ≢ f). keep h (others h other))
      (cases_eq h f);
}
  where
    rises : (h : ℕ) → number_in_place now h ≤ number_in_place new h
    rises h = ⊎_elim
        (λ (same : h ≡ f). subst (λ x. number_in_place now x ≤ number_in_place new x) (sym same) higher)
        (λ (other : h ≢ f). let e = others h other in let r : number_in_place now h ≤ number_in_place new h = omega arith in r)
        (cases_eq h f)

    keep : (h : ℕ) → number_in_place new h ≡ number_in_place now h → (number_in_place new h ≡ number_in_place old h) ⊎ ((d : ℕ) × (g.source d ≡ at) × IsReturningCall g h d × (number_in_place new h ≡ context_of g l w n d))
    keep h same = ⊎_elim
        (λ (old_is : number_in_place now h ≡ number_in_place old h). inl (same ∙ old_is))
        (λ (some : (d : ℕ) × (g.source d ≡ at) × IsReturningCall g h d × (number_in_place now h ≡ context_of g l w n d)). inr (some.0, some.1, some.2, same ∙ some.3))
        (to.either h)

-- an edge that is no call's way back raises nothing
pub raised_on : {g : Graph} {l : Loops} {w : ℕ → ℕ} {n : Numbers} {at first e : ℕ} {old now : List ℕ} → ((f : ℕ) → IsReturningCall g f e → ⊥) → AreRaisedTo g l w n at first e old now → AreRaisedTo g l w n at first (e + 1) old now
raised_on {g = g} {l = l} {w = w} {n = n} {at = at} {first = first} {e = e} {old = old} {now = now} none to = record {
  higher = to.higher;
  over = λ d h low high call. ⊎_elim
      (λ (before : d < e). to.over d h low before call)
      (λ (last : e ≤ d). let same : d ≡ e = omega arith in absurd (none h (subst (IsReturningCall g h) same call)))
      (cases_lt d e);
  either = to.either;
}

-- a call's way back leads to a node
pub returning_call : (v : FlowGraph) (e f k : ℕ) → e < length v.code.edges → (graph v).callee e ≡ Some f → (graph v).target e ≡ slice_get v.code.nodes k → k < length v.code.nodes → IsReturningCall (graph v) f e
returning_call v e f k lt calls to kl = record { edge = lt; calls = calls; returns = (node_address v k, to ∙ node_here v k kl) }

-- what is left behind a call, from the tables
pub context_value : (g : Graph) (l : Loops) (w : ℕ → ℕ) (n : Numbers) (e at left price around own x : ℕ) → g.source e ≡ at → left ≡ n.left at → price ≡ cost g n w e → around ≡ turns_round l n (Some at) → own ≡ n.context (g.owner at) → x ≡ left - price + around + own →
    x ≡ context_of g l w n e
context_value g l w n e at left price around own x from left_is price_is around_is own_is is =
    let a : n.left (g.source e) ≡ left = ap n.left from ∙ sym left_is in
    let b : turns_round l n (Some (g.source e)) ≡ around = ap (λ u. turns_round l n (Some u)) from ∙ sym around_is in
    let c : n.context (g.owner (g.source e)) ≡ own = ap (λ u. n.context (g.owner u)) from ∙ sym own_is in
    omega arith

-- what is left at a node with all turns round it, and a context, are in range
pub left_around_small : {v : FlowGraph} {t : LoopView} {w : ℕ → ℕ} {left around : List ℕ} (k : ℕ) → IsFlowGraph v → HasSolved v t w → AreLefts v t w left → AreTurnsRound v t w around → k < length v.code.nodes → number_in_place left k + number_in_place around k ≤ 2 ^ 48
left_around_small {v = v} {t = t} {w = w} {left = left} {around = around} k flow n lefts rounds kl =
    let within = n.1.left_within (node_address v k) ((flow.nodes (node_address v k)).0 (k, node_here v k kl)) in
    let a = lefts.each n.0 n.1 k kl in
    let b = rounds.each n.0 n.1 k kl in
    let small : n.0.worst 0 ≤ 2 ^ 48 = n.2 in
    omega arith

pub owner_function : (v : FlowGraph) (k : ℕ) → IsFlowGraph v → k < length v.code.nodes → (graph v).owner (node_address v k) < length v.code.functions
owner_function v k flow kl =
    let node = (flow.nodes (node_address v k)).0 (k, node_here v k kl) in
    subst (λ u. (graph v).owner u < (graph v).functions) node.2 (flow.program.owner_function node.0 node.1)

-- all edges of the node are taken
pub raised_last : {w : ℕ → ℕ} {n : Numbers} {first end : ℕ} {old new : List ℕ} (v : FlowGraph) (t : LoopView) (k : ℕ) → ((e : ℕ) → e < length v.code.edges → (graph v).source e ≡ node_address v k → (first ≤ e) × (e < end)) →
    AreRaisedTo (graph v) (loops v t) w n (node_address v k) first end old new → AreContextsRaised (graph v) (loops v t) w n (node_address v k) old new
raised_last {w = w} {n = n} {first = first} {end = end} {old = old} {new = new} v t k edges to = record {
  higher = to.higher;
  over = λ e f from call. let within = edges e call.edge from in to.over e f within.0 within.1 call;
  either = to.either;
}
