-- What is so of the loops of notes over a graph is so of notes with the same headers and ranges.
use Rattle.std.proofs.Common.{◌≡◌, ℕ, ◌<◌, ◌||◌, ◌==◌, Bool, true, false, List, [], Some, get_or, length, refl, sym, ap, ◌∙◌, subst, ◌↔◌, ⊎_elim, inl, inr}
use Rattle.std.specs.List.{list_any}
use Rattle.std.proofs.Math.ListN.{get_or-map}
use Rattle.std.proofs.lemmas.List.{length-map}
use Rattle.scale_base.specs.declared.ranges.Range.{Range}
use Rattle.scale_base.specs.declared.refusal.Refusal.{Refusal}
use Rattle.scale_base.specs.Image.{is_in}
use Rattle.cost_theory.specs.Graph.{Loops}
use Rattle.cost_theory.specs.Accepted.{IsNode, IsInBody, AreEntered}
use Rattle.flow_graph.specs.FlowGraph.{FlowGraph, graph}
use Rattle.loop_file.specs.declared.notes.LoopNote.{LoopNote}
use Rattle.loop_file.specs.Kept.{noted_loops, in_extent, note_at}
use Rattle.loop_forest.specs.Noted.{header_address, IsBodyNode, IsHeaderReached, HaveOneHeader, HasBackEdge, IsNotedSideEntry}
use Rattle.loop_forest.specs.Refused.{AreHeaders, AreNoted}
use Rattle.loop_forest.specs.Tree.{IsTreeRefusal}
use Rattle.answer_laws.proofs.Laws.{graphs_renumbered, tree_is_not_refused}
use Rattle.loop_drafts.specs.Shapes.{shape, HaveOneShape, BoundsAreFree}

pub same_at : (notes notes' : List LoopNote) → HaveOneShape notes notes' → (k : ℕ) → shape (note_at notes k) ≡ shape (note_at notes' k)
same_at notes notes' same k =
    let none : LoopNote = record { header = 0; ranges = []; bound = 0; counted = false; at_least = 0 } in
    sym (get_or-map shape notes k none) ∙ ap (λ (shapes : List (ℕ × List Range)). get_or shapes k (shape none)) same ∙ get_or-map shape notes' k none

-- the extent of a header and ranges
extent_by : ℕ × List Range → ℕ → Bool
extent_by p v = (v == p.0) || list_any (is_in v) p.1

module _ (v : FlowGraph) (notes notes' : List LoopNote) (same : HaveOneShape notes notes') where
  pub one_size : length notes' ≡ length notes
  one_size = sym (length-map notes' shape) ∙ sym (ap length same) ∙ length-map notes shape

  pub one_header : (k : ℕ) → header_address notes' k ≡ header_address notes k
  one_header k = sym (ap (λ (p : ℕ × List Range). p.0) (same_at notes notes' same k))

  pub one_extent : (k : ℕ) → in_extent (note_at notes' k) ≡ in_extent (note_at notes k)
  unfolding extent_by
  one_extent k = sym (ap extent_by (same_at notes notes' same k))

  body_from : (k at : ℕ) → IsBodyNode v notes' k at → IsBodyNode v notes k at
  body_from k at b =
      subst (λ (extent : ℕ → Bool). IsInBody (graph v) (header_address notes k) extent at) (one_extent k)
      (subst (λ (h : ℕ). IsInBody (graph v) h (in_extent (note_at notes' k)) at) (one_header k) b)

  body_to : (k at : ℕ) → IsBodyNode v notes k at → IsBodyNode v notes' k at
  body_to k at b =
      subst (λ (extent : ℕ → Bool). IsInBody (graph v) (header_address notes' k) extent at) (sym (one_extent k))
      (subst (λ (h : ℕ). IsInBody (graph v) h (in_extent (note_at notes k)) at) (sym (one_header k)) b)

  reached_from : (k : ℕ) → IsHeaderReached v notes' k → IsHeaderReached v notes k
  reached_from k r = subst (λ (h : ℕ). IsNode (graph v) h) (one_header k) r

  reached_to : (k : ℕ) → IsHeaderReached v notes k → IsHeaderReached v notes' k
  reached_to k r = subst (λ (h : ℕ). IsNode (graph v) h) (sym (one_header k)) r

  pair_from : (j k : ℕ) → HaveOneHeader notes' j k → HaveOneHeader notes j k
  pair_from j k h = (h.0, sym (one_header j) ∙ h.1 ∙ one_header k)

  pair_to : (j k : ℕ) → HaveOneHeader notes j k → HaveOneHeader notes' j k
  pair_to j k h = (h.0, one_header j ∙ h.1 ∙ sym (one_header k))

  back_from : (k : ℕ) → HasBackEdge v notes' k → HasBackEdge v notes k
  back_from k b = (b.0, b.1, body_from k _ b.2, b.3 ∙ ap (λ (h : ℕ). Some h) (one_header k))

  back_to : (k : ℕ) → HasBackEdge v notes k → HasBackEdge v notes' k
  back_to k b = (b.0, b.1, body_to k _ b.2, b.3 ∙ ap (λ (h : ℕ). Some h) (sym (one_header k)))

  side_from : (k from to : ℕ) → IsNotedSideEntry v notes' k from to → IsNotedSideEntry v notes k from to
  side_from k from to s = (
    body_from k to s.0,
    (λ e. s.1 (e ∙ sym (one_header k))),
    ⊎_elim
        (λ (edge : (e : ℕ) × (e < (graph v).edges) × ((graph v).source e ≡ from) × ((graph v).target e ≡ Some to) × (IsBodyNode v notes' k from → ⊥)).
        inl (edge.0, edge.1, edge.2, edge.3, λ b. edge.4 (body_to k from b)))
        (λ (entry : (from ≡ to) × ((f : ℕ) × (f < (graph v).functions) × ((graph v).entry f ≡ to))). inr entry) s.2,
  )

  side_to : (k from to : ℕ) → IsNotedSideEntry v notes k from to → IsNotedSideEntry v notes' k from to
  side_to k from to s = (
    body_to k to s.0,
    (λ e. s.1 (e ∙ one_header k)),
    ⊎_elim
        (λ (edge : (e : ℕ) × (e < (graph v).edges) × ((graph v).source e ≡ from) × ((graph v).target e ≡ Some to) × (IsBodyNode v notes k from → ⊥)).
        inl (edge.0, edge.1, edge.2, edge.3, λ b. edge.4 (body_from k from b)))
        (λ (entry : (from ≡ to) × ((f : ℕ) × (f < (graph v).functions) × ((graph v).entry f ≡ to))). inr entry) s.2,
  )

  fewer : (k : ℕ) → k < length notes' → k < length notes
  fewer k h = subst (λ (n : ℕ). k < n) one_size h

  more : (k : ℕ) → k < length notes → k < length notes'
  more k h = subst (λ (n : ℕ). k < n) (sym one_size) h

  heads_from : AreHeaders v notes' → AreHeaders v notes
  heads_from h = record {
    reached = λ k kl. reached_from k (h.reached k (more k kl));
    distinct = λ j k kl p. h.distinct j k (more k kl) (pair_to j k p);
  }

  -- the loops with the bounds of the other notes
  rebound : Loops → Loops
  rebound l = record l { bound = (noted_loops notes).bound }

  noted_from : (l : Loops) → AreNoted notes' l → AreNoted notes (rebound l)
  unfolding rebound
  noted_from l n = record {
    count = n.count ∙ one_size;
    header = λ k kl. n.header k (more k kl) ∙ one_header k;
    bound = λ k kl. refl;
  }

  entered_from : (l : Loops) → AreEntered (graph v) l (noted_loops notes').inside → AreEntered (graph v) (rebound l) (noted_loops notes).inside
  unfolding rebound
  entered_from l e = record {
    bodies = λ k at kl. subst (λ (extent : ℕ → Bool). (l.inside k at ≡ true) ↔ IsInBody (graph v) (l.header k) extent at) (one_extent k) (e.bodies k at kl);
    header_reached = e.header_reached;
    distinct = e.distinct;
    back_edge = e.back_edge;
    no_side = e.no_side;
  }

  pub refusal_shaped : (refusal : Refusal) → IsTreeRefusal v notes' refusal → IsTreeRefusal v notes refusal
  unfolding rebound
  refusal_shaped refusal (inl (inl c)) =
      inl (inl (record { k = c.k; within = fewer c.k c.within; unreached = λ r. c.unreached (reached_to c.k r); first = λ j jl. reached_from j (c.first j jl); refusal_is = c.refusal_is }))
  refusal_shaped refusal (inl (inr (inl c))) = inl (inr (inl (record {
    reached = λ k kl. reached_from k (c.reached k (more k kl));
    one = c.one;
    two = c.two;
    within = fewer c.two c.within;
    same = pair_from c.one c.two c.same;
    first = λ j k kl p. c.first j k (more k kl) (pair_to j k p);
    refusal_is = c.refusal_is;
  })))
  refusal_shaped refusal (inl (inr (inr (inl c)))) = inl (inr (inr (inl (record {
    headers = heads_from c.headers;
    k = c.k;
    within = fewer c.k c.within;
    none = λ b. c.none (back_to c.k b);
    first = λ j jl. back_from j (c.first j jl);
    refusal_is = c.refusal_is;
  }))))
  refusal_shaped refusal (inl (inr (inr (inr (inl c))))) = inl (inr (inr (inr (inl (record {
    headers = heads_from c.headers;
    back_edges = λ j jl. back_from j (c.back_edges j (more j jl));
    k = c.k;
    from = c.from;
    to = c.to;
    within = fewer c.k c.within;
    entered = side_from c.k c.from c.to c.entered;
    least = λ a b s. c.least a b (side_to c.k a b s);
    first = λ j a b jl s. c.first j a b jl (side_to j a b s);
    refusal_is = c.refusal_is;
  })))))
  refusal_shaped refusal (inl (inr (inr (inr (inr c))))) = inl (inr (inr (inr (inr (record {
    loops = rebound c.loops;
    noted = noted_from c.loops c.noted;
    entered = entered_from c.loops c.entered;
    k = c.k;
    within = fewer c.k c.within;
    deep = c.deep;
    first = c.first;
    refusal_is = c.refusal_is;
  })))))
  refusal_shaped refusal (inr c) = inr (record {
    loops = rebound c.loops;
    noted = noted_from c.loops c.noted;
    entered = entered_from c.loops c.entered;
    not_deep = λ k kl. c.not_deep k (more k kl);
    cycle = c.cycle;
    is_cycle = record { some = c.is_cycle.some; distinct = c.is_cycle.distinct; onward = c.is_cycle.onward; round = c.is_cycle.round; least = c.is_cycle.least };
    refusal_is = c.refusal_is;
  })

pub bounds_free : BoundsAreFree
bounds_free t v v' notes notes' tree refusal is is' same taken refused =
    tree_is_not_refused v v' notes tree refusal (graphs_renumbered t v v' is is') is.flow taken (refusal_shaped v' notes notes' same refusal refused)
