-- Walks to a loop's header, by addresses and by the numbers of nodes.
use Rattle.std.proofs.Common.{◌≡◌, ℕ, ◌<◌, ◌↔◌, ◌==◌, true, List, [], ◌∷◌, length, get_or, refl, sym, ap, ◌∙◌, subst, arith, Option, Some, None}
use Rattle.std.specs.Prelude.{slice_get}
use Rattle.std.specs.List.{list_any}
use Rattle.std.proofs.lemmas.Bool.{or_left, eq-eqb}
use Rattle.std.proofs.lemmas.Option.{slice_get-get_or, slice_get_within}
use Rattle.scale_base.specs.Image as image
use Rattle.cost_theory.specs.Graph.{IsWalk, end_of}
use Rattle.cost_theory.specs.Accepted.{StaysWithin}
use Rattle.flow_graph.specs.FlowGraph.{FlowGraph, graph, IsFlowGraph}
use Rattle.graph_algorithms.specs.declared.bodies.extent.NodeRange.{NodeRange}
use Rattle.graph_algorithms.specs.Bodies as bodies
use Rattle.graph_algorithms.specs.Bodies.{HasEdge, LeadsWithin, HasEdgeBack, IsBody, IsIn}
use Rattle.graph_algorithms.specs.Bodies.LeadsWithin.{at_once, onward}
use Rattle.graph_algorithms.specs.Edges.{EdgeView, AreEdges}
use Rattle.loop_file.specs.declared.notes.LoopNote.{LoopNote}
use Rattle.loop_file.specs.Kept as kept
use Rattle.loop_tree.specs.Passes.{AreGraphEdges, IsExtent, IsBodyNodeOf, GoesBack, IsNumberedBody}
use Rattle.loop_forest.proofs.Laws.{one_number, source_number}

pub some_same : {A : Type 0} (a b : A) (o : Option A) → o ≡ Some a → o ≡ Some b → a ≡ b
some_same a b o p q = cc

-- ---- edges
pub ends_edges : (v : FlowGraph) (edges : EdgeView) → AreGraphEdges v edges → AreEdges edges.sources edges.targets edges.count
ends_edges v edges is = record {
  paired = is.ends.sources_size ∙ sym is.ends.targets_size;
  from = λ e u h. (let lt = slice_get_within v.code.nodes u ((graph v).source e) (is.ends.source e u h) in let c = is.count in omega arith);
  to = λ e u h. (let lt = (is.ends.target e u h).1 in let c = is.count in omega arith);
}

module _ (v : FlowGraph) (edges : EdgeView) (is : AreGraphEdges v edges) where
  flow : IsFlowGraph v
  flow = is.graph.flow

  -- an edge of the graph, by numbers
  pub has_edge : (e k u a b : ℕ) → e < (graph v).edges → (graph v).source e ≡ a → (graph v).target e ≡ Some b → slice_get v.code.nodes k ≡ Some a → slice_get v.code.nodes u ≡ Some b → HasEdge edges.sources edges.targets k u
  has_edge e k u a b lt from to at_k at_u = (e, start, goal (get_or edges.targets e None) refl)
    where
      source : ℕ
      source = get_or edges.sources e 0

      read : slice_get edges.sources e ≡ Some (get_or edges.sources e 0)
      read = slice_get-get_or edges.sources e 0 (let s = is.ends.sources_size in omega arith)

      start : slice_get edges.sources e ≡ Some k
      start = read ∙ ap Some (one_number v flow (get_or edges.sources e 0) k a (is.ends.source e (get_or edges.sources e 0) read ∙ ap Some from) at_k)

      target : slice_get edges.targets e ≡ Some (get_or edges.targets e None)
      target = slice_get-get_or edges.targets e None (let s = is.ends.targets_size in omega arith)

      goal : (o : Option ℕ) → get_or edges.targets e None ≡ o → slice_get edges.targets e ≡ Some (Some u)
      goal None h = let none : (graph v).target e ≡ None = is.ends.end e (target ∙ ap Some h) in let bad : ⊥ = cc in absurd bad
      goal (Some w) h =
          let here : slice_get edges.targets e ≡ Some (Some w) = target ∙ ap Some h in
          here ∙ ap (λ x. Some (Some x)) (one_number v flow w u b (sym (is.ends.target e w here).0 ∙ to) at_u)

  -- what an edge by numbers is in the graph
  pub edge_within : (e k : ℕ) → slice_get edges.sources e ≡ Some k → e < (graph v).edges
  edge_within e k h = let lt = slice_get_within edges.sources e k h in let s = is.ends.sources_size in omega arith

  pub edge_from : (e k a : ℕ) → slice_get edges.sources e ≡ Some k → slice_get v.code.nodes k ≡ Some a → (graph v).source e ≡ a
  edge_from e k a h at = some_same ((graph v).source e) a (slice_get v.code.nodes k) (is.ends.source e k h) at

  pub edge_to : (e u b : ℕ) → slice_get edges.targets e ≡ Some (Some u) → slice_get v.code.nodes u ≡ Some b → (graph v).target e ≡ Some b
  edge_to e u b h at = (is.ends.target e u h).0 ∙ at

  -- ---- walks to the header
  module _ (note : LoopNote) (header : ℕ) (ranges : List NodeRange) (at_header : slice_get v.code.nodes header ≡ Some note.header) (extent : IsExtent v note ranges) where
    -- a nonempty walk leads to the header within the extent
    pub record IsLed (a : ℕ) : Type 0 where
      pub owner : (graph v).owner a ≡ (graph v).owner note.header
      pub edge : ℕ
      pub rest : List ℕ
      pub walk : IsWalk (graph v) (Some a) (edge ∷ rest)
      pub end : end_of (graph v) ((graph v).target edge) rest ≡ Some note.header
      pub within : StaysWithin (graph v) (kept.in_extent note) (edge ∷ rest)

    inside_at : (k a : ℕ) → slice_get v.code.nodes k ≡ Some a → bodies.in_node_ranges ranges k ≡ true → kept.in_extent note a ≡ true
    inside_at k a at h = sym (extent k a at) ∙ h

    led : (k a : ℕ) → slice_get v.code.nodes k ≡ Some a → LeadsWithin edges.sources edges.targets (bodies.in_node_ranges ranges) header k → IsLed a
    led k a at (at_once edge inside) =
        let e = edge.0 in
        let from : (graph v).source edge.0 ≡ a = edge_from edge.0 k a edge.1 at in
        let to : (graph v).target edge.0 ≡ Some note.header = edge_to edge.0 header note.header edge.2 at_header in
        record {
          owner = ap (graph v).owner (sym from) ∙ sym (flow.program.stays e note.header (edge_within e k edge.1) to).1;
          edge = e;
          rest = [];
          walk = (edge_within e k edge.1, ap Some (sym from), tt);
          end = to;
          within = (ap (kept.in_extent note) from ∙ inside_at k a at inside, tt);
        }
    led k a at (onward u edge inside leads) =
        let e = edge.0 in
        let from : (graph v).source edge.0 ≡ a = edge_from edge.0 k a edge.1 at in
        let b = get_or v.code.nodes u 0 in
        let at_u : slice_get v.code.nodes u ≡ Some (get_or v.code.nodes u 0) = slice_get-get_or v.code.nodes u 0 (is.ends.target edge.0 u edge.2).1 in
        let to : (graph v).target edge.0 ≡ Some (get_or v.code.nodes u 0) = edge_to edge.0 u (get_or v.code.nodes u 0) edge.2 at_u in
        let next = led u (get_or v.code.nodes u 0) at_u leads in
        record {
          owner = ap (graph v).owner (sym from) ∙ (sym (flow.program.stays e b (edge_within e k edge.1) to).1 ∙ next.owner);
          edge = e;
          rest = next.edge ∷ next.rest;
          walk = (edge_within e k edge.1, ap Some (sym from), subst (λ p. IsWalk (graph v) p (next.edge ∷ next.rest)) (sym to) next.walk);
          end = next.end;
          within = (ap (kept.in_extent note) from ∙ inside_at k a at inside, next.within);
        }

    leads_on : (es : List ℕ) (e k a : ℕ) → slice_get v.code.nodes k ≡ Some a → IsWalk (graph v) (Some a) (e ∷ es) → end_of (graph v) ((graph v).target e) es ≡ Some note.header →
        StaysWithin (graph v) (kept.in_extent note) (e ∷ es) → LeadsWithin edges.sources edges.targets (bodies.in_node_ranges ranges) header k
    leads_on [] e k a at walk end stays =
        let from : (graph v).source e ≡ a = (let h = walk.1 in cc) in
        at_once (has_edge e k header a note.header walk.0 from end at at_header) (extent k a at ∙ (ap (kept.in_extent note) (sym from) ∙ stays.0))
    leads_on (d ∷ es) e k a at walk end stays =
        let from : (graph v).source e ≡ a = (let h = walk.1 in cc) in
        let next = source_number v flow d walk.2.0 in
        onward next.0 (has_edge e k next.0 a ((graph v).source d) walk.0 from walk.2.1 at next.1) (extent k a at ∙ (ap (kept.in_extent note) (sym from) ∙ stays.0))
        (leads_on es d next.0 ((graph v).source d) next.1 (walk.2.0, refl, walk.2.2) end stays.1)

    header_inside : bodies.in_node_ranges ranges header ≡ true → kept.in_extent note note.header ≡ true
    header_inside h = inside_at header note.header at_header h

    -- the body of the search is that of the note's loop
    pub numbered : (body : List ℕ) → IsBody edges.sources edges.targets (bodies.in_node_ranges ranges) header body → IsNumberedBody v note body
    numbered body was = record {
      nodes = record {
        within = λ p k h. let lead = ((was.nodes k).0 (p, h)).1 in lead_within k lead;
        once = was.once;
      };
      exact = λ k a at. (
        λ h. let w = (was.nodes k).0 h in let l = led k a at w.1 in (l.owner, header_inside w.0, (l.edge, l.rest, l.walk, l.end, l.within)),
        λ h. (was.nodes k).1 (extent header note.header at_header ∙ h.1, leads_on h.2.1 h.2.0 k a at h.2.2 h.2.3 h.2.4),
      );
    }
      where
        edge_node : (k u : ℕ) → HasEdge edges.sources edges.targets k u → k < length v.code.nodes
        edge_node k u edge = slice_get_within v.code.nodes k ((graph v).source edge.0) (is.ends.source edge.0 k edge.1)

        lead_within : (k : ℕ) → LeadsWithin edges.sources edges.targets (bodies.in_node_ranges ranges) header k → k < length v.code.nodes
        lead_within k (at_once edge inside) = edge_node k header edge
        lead_within k (onward u edge inside leads) = edge_node k u edge

    header_is : kept.in_extent note note.header ≡ true
    header_is = or_left (note.header == note.header) (list_any (image.is_in note.header) note.ranges) (eq-eqb note.header note.header refl)

    -- the nodes that lead to the header are those of the note's loop
    pub led_node : (k a : ℕ) → slice_get v.code.nodes k ≡ Some a → LeadsWithin edges.sources edges.targets (bodies.in_node_ranges ranges) header k ↔ IsBodyNodeOf v note a
    led_node k a at = (
      λ w. let l = led k a at w in (l.owner, header_is, (l.edge, l.rest, l.walk, l.end, l.within)),
      λ h. leads_on h.2.1 h.2.0 k a at h.2.2 h.2.3 h.2.4,
    )

    pub header_in : bodies.in_node_ranges ranges header ≡ true
    header_in = extent header note.header at_header ∙ header_is

    -- an edge from the extent to the header turns the loop back
    pub turn : HasEdgeBack edges.sources edges.targets (bodies.in_node_ranges ranges) header ↔ GoesBack v note
    turn = (
      λ h.
          let edge = h.1 in
          let read = is.ends.source edge.0 h.0 edge.1 in
          let l = led h.0 ((graph v).source edge.0) read (at_once edge h.2) in
          (edge.0, edge_within edge.0 h.0 edge.1, (l.owner, header_is, (l.edge, l.rest, l.walk, l.end, l.within)), edge_to edge.0 header note.header edge.2 at_header),
      λ h.
          let from = source_number v flow h.0 h.1 in
          let same : (graph v).source h.2.2.0 ≡ (graph v).source h.0 = (let w = h.2.2.2.1 in cc) in (
            from.0,
            has_edge h.0 from.0 header ((graph v).source h.0) note.header h.1 refl h.3 from.1 at_header,
            extent from.0 ((graph v).source h.0) from.1 ∙ (ap (kept.in_extent note) (sym same) ∙ h.2.2.4.0),
          ),
    )
