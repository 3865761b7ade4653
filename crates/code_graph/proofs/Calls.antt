-- The calls among the functions of the reached code: their order, or their cycle.
use Rattle.std.proofs.Common.{◌≡◌, ℕ, ◌+◌, ◌<◌, Bool, List, [], ◌∷◌, length, get_or, map, Option, Some, refl, sym, ap, ◌∙◌, subst, arith, ◌⊎◌, ⊎_elim}
use Rattle.std.specs.Prelude.{slice_get, slice_index}
use Rattle.std.proofs.lemmas.List.{length-map}
use Rattle.std.proofs.lemmas.Option.{slice_get_within, slice_get-get_or, get_or_from_slice_get, slice_get-map}
use Rattle.scale_base.specs.declared.edges.Edge.{Edge}
use Rattle.cost_theory.specs.declared.flow.Flow.{Flow}
use Rattle.cost_theory.specs.declared.flow.Flow.TheVariants as flow
use Rattle.cost_theory.specs.Accepted.{IsCall, AreCalls, HasNoRecursion, IsProgram}
use Rattle.cost_theory.specs.Reached.{Reached, graph_of, callee_of, owner_of, edge_at}
use Rattle.cost_theory.proofs.Laws.{some_get, callee_word, is_program, edge_node}
use Rattle.graph_algorithms.specs.declared.orders.Arc.{Arc}
use Rattle.graph_algorithms.specs.Arcs.{HasArc, HasNoCycle, Leads, AreDistinct, IsSorted, IsCycle}
use Rattle.graph_algorithms.specs.Arcs.Leads.{along, onward}
use Rattle.graph_algorithms.specs.Cycles.{IsCycleBy}
use Rattle.graph_algorithms.proofs.Laws.{IsRound, cycle_turned}
use Rattle.code_text.specs.Text.{Text, kind_at}
use Rattle.code_graph.specs.Reach.{Reach}
use Rattle.flow_graph.specs.FlowGraph.{AreCalleesFirst}
use Rattle.flow_graph.specs.Refused.{Calls}
use Rattle.code_graph.specs.Assembling.{AreEdgesOf, HasCall, AreCallArcs, AreCallsWithin, IsTurned}
use Rattle.flow_graph.proofs.Laws.{some_is, less_same_more}
use Rattle.code_graph.proofs.Parts.{AreParts, number_reached, node_kind, node_owner, callee_entry, entries_once, is_code}

-- distinct numbers stand at one place each
one_place : (numbers : List ℕ) → AreDistinct numbers → (i j : ℕ) → i < length numbers → j < length numbers → get_or numbers i 0 ≡ get_or numbers j 0 → i ≡ j
one_place numbers distinct i j il jl same = ⊎_elim
    (λ (lt : i < j). absurd (distinct i j lt jl same))
    (λ (r : (i ≡ j) ⊎ (j < i)). ⊎_elim (λ (e : i ≡ j). e) (λ (gt : j < i). absurd (distinct j i gt il (sym same))) r)
    (less_same_more i j)

-- a call of function h at a node of function f
pub record IsCallOf (t : Text) (entries : List ℕ) (f h : ℕ) : Type 0 where
  pub from : ℕ
  pub to : ℕ
  pub site : ℕ
  pub caller : slice_get entries f ≡ Some from
  pub callee : slice_get entries h ≡ Some to
  pub reached : Reached (kind_at t) t.entry from site
  pub calls : kind_at t site ≡ flow.Call to

module _ (t : Text) (r : Reach) (nodes : List ℕ) (kinds : List Flow) (owners entries : List ℕ) (returning : List Bool) (callees : List (Option ℕ)) (are : AreParts t r nodes kinds owners entries returning callees) where
  callee_stands : (k : ℕ) (w : Flow) → slice_get kinds k ≡ Some w → slice_get callees k ≡ Some (callee_of entries w)
  callee_stands k w at =
      ap (λ xs. slice_get xs k) (are.callees_are ∙ ap (λ xs. map (callee_of xs) kinds) (sym are.entries_are)) ∙ slice_get-map (callee_of entries) kinds k ∙ rw at refl

  pub call_of : (f h : ℕ) → HasCall (length owners) owners callees f h → IsCallOf t entries f h
  call_of f h call =
      let size = are.nodes_are.owners_size in
      let lt = call.1 in
      let node = some_get nodes call.0 (omega arith) in
      let e = are.nodes_are.each call.0 node.0 node.1 in
      let owner : e.owner ≡ f = some_is e.owner f (sym e.owner_beside ∙ call.2) in
      let n = number_reached t r nodes kinds owners entries returning callees are e.k node.0 e.owner e.address e.number in
      let called : callee_of entries e.kind ≡ Some h = some_is (callee_of entries e.kind) (Some h) (sym (callee_stands call.0 e.kind e.kind_beside) ∙ call.3) in
      let c = callee_entry t r nodes kinds owners entries returning callees are e.kind h called in
      record {
        from = n.0;
        to = c.0;
        site = node.0;
        caller = ap (slice_get entries) (sym owner) ∙ n.1;
        callee = c.2;
        reached = n.2;
        calls = sym (node_kind t r nodes kinds owners entries returning callees are call.0 node.0 e) ∙ c.1;
      }

  pub calls_within : AreCallsWithin (length entries) owners callees
  calls_within f h call = let c = call_of f h call in (slice_get_within entries f c.from c.caller, slice_get_within entries h c.to c.callee)

  -- ---- the cycle that is refused
  module _ (arcs : List Arc) (arcs_are : AreCallArcs (length owners) owners callees arcs) where
    entry_at : (f a : ℕ) → slice_get entries f ≡ Some a → get_or entries f 0 ≡ a
    entry_at f a at = get_or_from_slice_get entries f a 0 at

    arc_calls : (f h : ℕ) → HasArc arcs f h → Calls t (get_or entries f 0) (get_or entries h 0)
    arc_calls f h arc =
        let c = call_of f h (arcs_are.called f h arc) in
        subst (λ x. Calls t x (get_or entries h 0)) (sym (entry_at f c.from c.caller)) (subst (λ y. Calls t c.from y) (sym (entry_at h c.to c.callee)) (c.site, c.reached, c.calls))

    module _ (cycle : List ℕ) (is : IsCycle arcs cycle) (within : (i : ℕ) → i < length cycle → get_or cycle i 0 < length entries) where
      size : length (map (slice_index entries) cycle) ≡ length cycle
      size = length-map cycle (slice_index entries)

      named_at : (i : ℕ) → i < length cycle → get_or (map (slice_index entries) cycle) i 0 ≡ get_or entries (get_or cycle i 0) 0
      named_at i lt = get_or_from_slice_get (map (slice_index entries) cycle) i (get_or entries (get_or cycle i 0) 0) 0 (slice_get-map (slice_index entries) cycle i ∙ rw (slice_get-get_or cycle i 0 lt) refl)

      named_calls : (i j : ℕ) → i < length cycle → j < length cycle → HasArc arcs (get_or cycle i 0) (get_or cycle j 0) → Calls t (get_or (map (slice_index entries) cycle) i 0) (get_or (map (slice_index entries) cycle) j 0)
      named_calls i j il jl arc =
          subst (λ x. Calls t x (get_or (map (slice_index entries) cycle) j 0)) (sym (named_at i il)) (subst (λ y. Calls t (get_or entries (get_or cycle i 0) 0) y) (sym (named_at j jl)) (arc_calls (get_or cycle i 0) (get_or cycle j 0) arc))

      named_round : IsRound (Calls t) (map (slice_index entries) cycle)
      named_round = record {
        distinct = λ i j ij jl same.
            let long = size in
            let a : i < length cycle = omega arith in
            let b : j < length cycle = omega arith in
            let e : get_or entries (get_or cycle i 0) 0 ≡ get_or entries (get_or cycle j 0) 0 = sym (named_at i a) ∙ same ∙ named_at j b in
            is.distinct i j ij b
            (entries_once t r nodes kinds owners entries returning callees are (get_or cycle i 0) (get_or cycle j 0) (get_or entries (get_or cycle j 0) 0)
            (slice_get-get_or entries (get_or cycle i 0) 0 (within i a) ∙ ap Some e) (slice_get-get_or entries (get_or cycle j 0) 0 (within j b)));
        onward = λ i lt. (let long = size in named_calls i (i + 1) (omega arith) (omega arith) (is.onward i (omega arith)));
        round = λ i last. (let long = size in let some = is.some in named_calls i 0 (omega arith) some (is.round i (omega arith)));
      }

      pub named_cycle : (named : List ℕ) → IsTurned (map (slice_index entries) cycle) named → IsCycleBy (Calls t) named
      named_cycle named turned = cycle_turned (Calls t) (map (slice_index entries) cycle) named turned.at named_round turned.within turned.turned_is turned.least

    -- ---- the order
    module _ (edges : List Edge) (edges_are : AreEdgesOf (length nodes) nodes kinds callees returning edges) where
      call_arc : (u h : ℕ) → IsCall (graph_of (kind_at t) (record { nodes = nodes; edges = edges; functions = entries; owners = owners; returning = returning })) u h →
          HasArc arcs (owner_of (record { nodes = nodes; edges = edges; functions = entries; owners = owners; returning = returning }) u) h
      call_arc u h call =
          let x = some_get edges call.0 call.1 in
          let code_is = is_code t r nodes kinds owners entries returning callees are edges edges_are in
          let node : (k : ℕ) × (slice_get nodes k ≡ Some x.0.at) = edge_node (kind_at t) t.entry (record { nodes = nodes; edges = edges; functions = entries; owners = owners; returning = returning }) code_is call.0 x.0 x.1 in
          let at : x.0.at ≡ u = sym (ap edge_at x.1) ∙ call.2 in
          let here : slice_get nodes node.0 ≡ Some u = node.1 ∙ ap Some at in
          let e = are.nodes_are.each node.0 u here in
          let kind = node_kind t r nodes kinds owners entries returning callees are node.0 u e in
          let called : callee_of entries e.kind ≡ Some h = ap (callee_of entries) (kind ∙ sym (ap (kind_at t) call.2)) ∙ sym (callee_word (kind_at t) entries edges call.0 call.1) ∙ call.3 in
          let owner = node_owner t r nodes kinds owners entries returning callees are edges node.0 u e here in
          arcs_are.arc (owner_of (record { nodes = nodes; edges = edges; functions = entries; owners = owners; returning = returning }) u) h (
            node.0,
            slice_get_within owners node.0 e.owner e.owner_beside,
            e.owner_beside ∙ ap Some (sym owner),
            callee_stands node.0 e.kind e.kind_beside ∙ ap Some called,
          )

      calls_lead : (fs : List ℕ) (f next last : ℕ) → AreCalls (graph_of (kind_at t) (record { nodes = nodes; edges = edges; functions = entries; owners = owners; returning = returning })) f (next ∷ fs) last → Leads arcs f last
      calls_lead [] f next last calls = subst (Leads arcs f) calls.1 (along (subst (λ x. HasArc arcs x next) calls.0.1 (call_arc calls.0.0 next calls.0.2)))
      calls_lead (n ∷ fs) f next last calls = onward next (subst (λ x. HasArc arcs x next) calls.0.1 (call_arc calls.0.0 next calls.0.2)) (calls_lead fs next n last calls.1)

      pub no_recursion : HasNoCycle arcs → HasNoRecursion (graph_of (kind_at t) (record { nodes = nodes; edges = edges; functions = entries; owners = owners; returning = returning }))
      no_recursion none f next fs calls = none f (calls_lead fs f next f calls)

      pub program : HasNoCycle arcs → IsProgram (graph_of (kind_at t) (record { nodes = nodes; edges = edges; functions = entries; owners = owners; returning = returning }))
      program none = is_program (kind_at t) t.entry (record { nodes = nodes; edges = edges; functions = entries; owners = owners; returning = returning })
          (is_code t r nodes kinds owners entries returning callees are edges edges_are) are.fine (no_recursion none)

      pub callees_first : (order : List ℕ) → IsSorted (length entries) arcs order → AreCalleesFirst (graph_of (kind_at t) (record { nodes = nodes; edges = edges; functions = entries; owners = owners; returning = returning })) order
      callees_first order sorted = record {
        within = λ i f at. subst (λ x. x < length entries) (get_or_from_slice_get order i f 0 at) (sorted.within i (slice_get_within order i f at));
        whole = λ f lt. (let w = sorted.whole f lt in (w.0, slice_get-get_or order w.0 0 w.1 ∙ ap Some w.2));
        once = λ i j f at_i at_j. one_place order sorted.distinct i j (slice_get_within order i f at_i) (slice_get_within order j f at_j) (get_or_from_slice_get order i f 0 at_i ∙ sym (get_or_from_slice_get order j f 0 at_j));
        before = λ u h i j call at_h at_u.
            let a = call_arc u h call in
            let b = sorted.before a.0 a.1 in
            let il : b.0 < length order = (let p = b.2 in let q = b.3 in omega arith) in
            let first : b.0 ≡ i = one_place order sorted.distinct b.0 i il (slice_get_within order i h at_h) (b.4 ∙ a.3 ∙ sym (get_or_from_slice_get order i h 0 at_h)) in
            let second : b.1 ≡ j = one_place order sorted.distinct b.1 j b.3 (slice_get_within order j _ at_u) (b.5 ∙ a.2 ∙ sym (get_or_from_slice_get order j _ 0 at_u)) in
            let less = b.2 in
            omega arith;
      }
