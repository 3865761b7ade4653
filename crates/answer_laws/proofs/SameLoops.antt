-- What is so of the loops of notes over a graph is so of them over the graph that is numbered anew.
use Rattle.std.proofs.Common.{◌≡◌, ℕ, ◌<◌, List, Some, refl, ⊎_elim, inl, inr}
use Rattle.scale_base.specs.declared.refusal.Refusal.{Refusal}
use Rattle.flow_graph.specs.FlowGraph.{FlowGraph, graph}
use Rattle.loop_file.specs.declared.notes.LoopNote.{LoopNote}
use Rattle.loop_file.specs.Kept.{noted_loops, in_extent, note_at}
use Rattle.loop_forest.specs.Noted.{header_address, IsBodyNode, HasBackEdge, IsNotedSideEntry}
use Rattle.loop_forest.specs.Refused.{AreHeaders}
use Rattle.loop_forest.specs.Tree.{LoopView, loops, IsTreeOf, IsTreeRefusal}
use Rattle.answer_laws.specs.Renumbered.{IsRenumberedGraph, IsRenumbered}
use Rattle.answer_laws.proofs.SameEdges.{with_lists, by_lists, body_from, body_to, entry_from, entry_to, entered_from, accepted_from}

module _ (v x : FlowGraph) (r : IsRenumberedGraph (graph v) (graph (with_lists v x))) (notes : List LoopNote) where
  -- ---- trees

  tree_from : (t : LoopView) → IsTreeOf (with_lists v x) notes t → IsTreeOf v notes t
  tree_from t is = record {
    tree = record {
      accepted = accepted_from (graph v) (graph (with_lists v x)) r (loops v t) (noted_loops notes).inside is.tree.accepted;
      whole = is.tree.whole;
      order = record { within = is.tree.order.within; whole = is.tree.order.whole; once = is.tree.order.once; before = is.tree.order.before };
      bounds_size = is.tree.bounds_size;
      counted_size = is.tree.counted_size;
      trips_size = is.tree.trips_size;
      bodies_size = is.tree.bodies_size;
      parent_size = is.tree.parent_size;
      header = is.tree.header;
      bound = is.tree.bound;
      trips = is.tree.trips;
      body = is.tree.body;
      parents = is.tree.parents;
      backs_size = is.tree.backs_size;
      backs = is.tree.backs;
      innermost_size = is.tree.innermost_size;
      innermost = is.tree.innermost;
    };
    headers = is.headers;
    bounds = is.bounds;
    counted = is.counted;
    trips = λ k kl. let here = is.trips k kl in record { whole = here.whole; more = here.more; turns = here.turns };
  }

  -- ---- refusals

  in_body : (k at : ℕ) → IsBodyNode (with_lists v x) notes k at → IsBodyNode v notes k at
  in_body k at b = body_from (graph v) (graph (with_lists v x)) r (header_address notes k) (in_extent (note_at notes k)) at b

  body_in : (k at : ℕ) → IsBodyNode v notes k at → IsBodyNode (with_lists v x) notes k at
  body_in k at b = body_to (graph v) (graph (with_lists v x)) r (header_address notes k) (in_extent (note_at notes k)) at b

  back_from : (k : ℕ) → HasBackEdge (with_lists v x) notes k → HasBackEdge v notes k
  back_from k b = (b.0, b.1, in_body k _ b.2, b.3)

  back_to : (k : ℕ) → HasBackEdge v notes k → HasBackEdge (with_lists v x) notes k
  back_to k b = (b.0, b.1, body_in k _ b.2, b.3)

  side_from : (k from to : ℕ) → IsNotedSideEntry (with_lists v x) notes k from to → IsNotedSideEntry v notes k from to
  side_from k from to s = (
    in_body k to s.0,
    s.1,
    ⊎_elim
        (λ (edge : (e : ℕ) × (e < (graph v).edges) × ((graph v).source e ≡ from) × ((graph v).target e ≡ Some to) × (IsBodyNode (with_lists v x) notes k from → ⊥)).
        inl (edge.0, edge.1, edge.2, edge.3, λ b. edge.4 (body_in k from b)))
        (λ (entry : (from ≡ to) × ((f : ℕ) × (f < (graph x).functions) × ((graph x).entry f ≡ to))). inr (entry.0, entry_from (graph v) (graph (with_lists v x)) r to entry.1)) s.2,
  )

  side_to : (k from to : ℕ) → IsNotedSideEntry v notes k from to → IsNotedSideEntry (with_lists v x) notes k from to
  side_to k from to s = (
    body_in k to s.0,
    s.1,
    ⊎_elim
        (λ (edge : (e : ℕ) × (e < (graph v).edges) × ((graph v).source e ≡ from) × ((graph v).target e ≡ Some to) × (IsBodyNode v notes k from → ⊥)).
        inl (edge.0, edge.1, edge.2, edge.3, λ b. edge.4 (in_body k from b)))
        (λ (entry : (from ≡ to) × ((f : ℕ) × (f < (graph v).functions) × ((graph v).entry f ≡ to))). inr (entry.0, entry_to (graph v) (graph (with_lists v x)) r to entry.1)) s.2,
  )

  heads_from : AreHeaders (with_lists v x) notes → AreHeaders v notes
  heads_from h = record { reached = h.reached; distinct = h.distinct }

  refusal_from : (refusal : Refusal) → IsTreeRefusal (with_lists v x) notes refusal → IsTreeRefusal v notes refusal
  refusal_from refusal (inl (inl c)) = inl (inl (record { k = c.k; within = c.within; unreached = c.unreached; first = c.first; refusal_is = c.refusal_is }))
  refusal_from refusal (inl (inr (inl c))) =
      inl (inr (inl (record { reached = c.reached; one = c.one; two = c.two; within = c.within; same = c.same; first = c.first; refusal_is = c.refusal_is })))
  refusal_from refusal (inl (inr (inr (inl c)))) = inl (inr (inr (inl (record {
    headers = heads_from c.headers;
    k = c.k;
    within = c.within;
    none = λ b. c.none (back_to c.k b);
    first = λ j jl. back_from j (c.first j jl);
    refusal_is = c.refusal_is;
  }))))
  refusal_from refusal (inl (inr (inr (inr (inl c))))) = inl (inr (inr (inr (inl (record {
    headers = heads_from c.headers;
    back_edges = λ j jl. back_from j (c.back_edges j jl);
    k = c.k;
    from = c.from;
    to = c.to;
    within = c.within;
    entered = side_from c.k c.from c.to c.entered;
    least = λ a b s. c.least a b (side_to c.k a b s);
    first = λ j a b jl s. c.first j a b jl (side_to j a b s);
    refusal_is = c.refusal_is;
  })))))
  refusal_from refusal (inl (inr (inr (inr (inr c))))) = inl (inr (inr (inr (inr (record {
    loops = c.loops;
    noted = c.noted;
    entered = entered_from (graph v) (graph (with_lists v x)) r c.loops (noted_loops notes).inside c.entered;
    k = c.k;
    within = c.within;
    deep = c.deep;
    first = c.first;
    refusal_is = c.refusal_is;
  })))))
  refusal_from refusal (inr c) = inr (record {
    loops = c.loops;
    noted = c.noted;
    entered = entered_from (graph v) (graph (with_lists v x)) r c.loops (noted_loops notes).inside c.entered;
    not_deep = c.not_deep;
    cycle = c.cycle;
    is_cycle = record { some = c.is_cycle.some; distinct = c.is_cycle.distinct; onward = c.is_cycle.onward; round = c.is_cycle.round; least = c.is_cycle.least };
    refusal_is = c.refusal_is;
  })

pub tree_moved : (v v' : FlowGraph) (notes : List LoopNote) (t : LoopView) → IsRenumbered v v' → IsTreeOf v' notes t → IsTreeOf v notes t
tree_moved v v' notes t r = by_lists v v' (λ y. IsTreeOf y notes t → IsTreeOf v notes t) (λ x s. tree_from v x s notes t) r

pub refusal_moved : (v v' : FlowGraph) (notes : List LoopNote) (refusal : Refusal) → IsRenumbered v v' → IsTreeRefusal v' notes refusal → IsTreeRefusal v notes refusal
refusal_moved v v' notes refusal r = by_lists v v' (λ y. IsTreeRefusal y notes refusal → IsTreeRefusal v notes refusal) (λ x s. refusal_from v x s notes refusal) r

pub loops_moved : (v v' : FlowGraph) (t : LoopView) → IsRenumbered v v' → loops v t ≡ loops v' t
loops_moved v v' t r = by_lists v v' (λ y. loops v t ≡ loops y t) (λ x s. refl) r
