-- The tree of the loops of notes.
use Rattle.std.proofs.Common.{◌≡◌, ℕ, zero, suc, ◌<◌, ◌≤◌, Bool, false, List, [], ◌∷◌, map, length, slice_get, slice_index, Option, Some, None, option_map, refl, sym, ap, ◌∙◌, subst, arith, ⊎_elim}
use Rattle.std.specs.Prelude.{slice_index_or}
use Rattle.std.proofs.lemmas.Bool.{cases_lt}
use Rattle.std.proofs.lemmas.List.{length-map, get_or-map}
use Rattle.std.proofs.lemmas.Option.{slice_get_within, slice_get-get_or, get_or_from_slice_get, slice_get-map}
use Rattle.cost_theory.specs.Lists.{body_of}
use Rattle.cost_theory.proofs.Laws.{accepted_with, entered-accepted}
use Rattle.flow_graph.specs.FlowGraph.{FlowGraph, graph, IsFlowGraph}
use Rattle.flow_graph.proofs.Laws.{map_is}
use Rattle.loop_file.specs.declared.notes.LoopNote.{LoopNote}
use Rattle.loop_file.specs.Kept.{noted_loops, note_at}
use Rattle.loop_file.specs.Notes.{IsLoopNote, AreLoopNotes}
use Rattle.loop_forest.specs.Noted.{node_address, header_address}
use Rattle.loop_forest.specs.Found.{LoopsView, AreNaturalLoops, loops_seen}
use Rattle.loop_forest.specs.Refused.{AreNoted}
use Rattle.graph_algorithms.specs.Nesting.{IsNesting, IsNextAtHeader, IsInnermostBody as IsShortest}
use Rattle.loop_tree.proofs.Lists.{image_some}
use Rattle.loop_forest.specs.Tree.{LoopView, ArePlainOrdered, HasWholeExtent, IsTreeOf, IsPlainStep, IsCycleRefused}
use Rattle.loop_forest.specs.Stored.{IsStoredTree}
use Rattle.loop_tree.specs.Backs.{AreLoopLists, AreBacks, IsStepBy}
use Rattle.loop_tree.specs.Trips.{IsWholeBody, AreTrips}
use Rattle.graph_algorithms.specs.declared.orders.Arc.{Arc}
use Rattle.graph_algorithms.specs.Arcs.{IsSorted}
use Rattle.graph_algorithms.specs.Cycles.{IsCycleBy}
use Rattle.scale_base.specs.declared.refusal.Refusal.TheVariants.{UnboundedCycle}
use Rattle.loop_forest.specs.Arcs.{ArePlainArcs}
use Rattle.loop_tree.proofs.BackLaws.{inside_at, inside_here, back_as, back_from, by_plain, step_as}
use Rattle.loop_tree.proofs.RoundLaws.{cycle_as}
use Rattle.loop_tree.proofs.TripLaws.{trips_le}
use Rattle.loop_tree.proofs.OrderLaws.{IsTurned, ordered, plain_order, place_of}
use Rattle.loop_tree.proofs.NestLaws.{AreSeen, innermost_as, parent_as, headers_outer}

abbrev pub bounds_in : List LoopNote → List ℕ
bounds_in notes = map (λ (note : LoopNote). note.bound) notes

-- the lists of natural loops
pub lists_of : (v : FlowGraph) (notes : List LoopNote) (t : LoopsView) → AreNaturalLoops v notes t → AreLoopLists v t.headers t.bodies
lists_of v notes t are = record {
  size = are.bodies_size ∙ sym are.headers_size;
  headers_are = record {
    within = λ k kl. slice_get_within v.code.nodes (slice_index t.headers k) _ (are.header k (of_notes k kl));
    distinct = λ i j ij jl same.
        are.entered.distinct i j (subst (λ n. j < n) (sym (length-map t.headers (node_address v))) jl)
        (ij, get_or-map (node_address v) t.headers i 0 0 (omega arith) ∙ ap (node_address v) same ∙ sym (get_or-map (node_address v) t.headers j 0 0 jl));
  };
  body = λ k kl. are.body k (of_notes k kl);
}
  where
    of_notes : (k : ℕ) → k < length t.headers → k < length notes
    of_notes k kl = subst (λ n. k < n) are.headers_size kl

pub seen : (v : FlowGraph) (notes : List LoopNote) (t : LoopsView) → IsFlowGraph v → AreNaturalLoops v notes t → AreSeen v t.headers (bounds_in notes) t.bodies (noted_loops notes).inside
seen v notes t flow are = record { flow = flow; lists = lists_of v notes t are; entered = are.entered }

-- they are the loops of the notes
pub noted : (v : FlowGraph) (notes : List LoopNote) (t : LoopsView) → AreNaturalLoops v notes t → AreNoted notes (loops_seen v notes t)
noted v notes t are = record {
  count = length-map t.headers (node_address v) ∙ are.headers_size;
  header = λ k kl.
      get_or-map (node_address v) t.headers k 0 0 (subst (λ n. k < n) (sym are.headers_size) kl) ∙ get_or_from_slice_get v.code.nodes (slice_index t.headers k) (header_address notes k) 0 (are.header k kl);
  bound = λ k kl. get_or-map (λ (note : LoopNote). note.bound) notes k (record { header = 0; ranges = []; bound = 0; counted = false; at_least = 0 }) 0 kl;
}

-- ---- how often loops turn at least

-- never more often than their bounds allow
trips_fit : (v : FlowGraph) (notes : List LoopNote) (bodies : List (List ℕ)) (trips : List ℕ) → AreLoopNotes notes → AreTrips v notes bodies (length notes) trips → (k : ℕ) → slice_index trips k ≤ slice_index (bounds_in notes) k
trips_fit v notes bodies trips in_range are k = ⊎_elim
    (λ (low : k < length notes).
    let is : IsLoopNote (note_at notes k) = in_range.each k (record { header = 0; ranges = []; bound = 0; counted = false; at_least = 0 }) low in
    let least : (note_at notes k).at_least ≤ (note_at notes k).bound = is.least in
    let up : slice_index trips k ≤ (note_at notes k).at_least = trips_le v (note_at notes k) (body_of bodies k) (slice_index trips k) (are.each k low) in
    let bound : slice_index (bounds_in notes) k ≡ (note_at notes k).bound = get_or-map (λ (note : LoopNote). note.bound) notes k (record { header = 0; ranges = []; bound = 0; counted = false; at_least = 0 }) 0 low in
    omega arith)
    (λ (high : length notes ≤ k).
    let z : slice_index trips k ≡ 0 = beyond trips k (subst (λ n. n ≤ k) (sym are.size) high) in
    omega arith)
    (cases_lt k (length notes))
  where
    beyond : (xs : List ℕ) (k : ℕ) → length xs ≤ k → slice_index xs k ≡ 0
    beyond [] k le = refl
    beyond (x ∷ xs) zero le = let bad : ⊥ = omega arith in absurd bad
    beyond (x ∷ xs) (suc k) le = beyond xs k (omega arith)

-- a body has the nodes of its extent, by their numbers and by their addresses
module _ (v : FlowGraph) (notes : List LoopNote) (t : LoopsView) (flow : IsFlowGraph v) (are : AreNaturalLoops v notes t) (k : ℕ) (kl : k < length notes) where
  whole_here : IsWholeBody v (note_at notes k) (body_of t.bodies k) → HasWholeExtent v (loops_seen v notes t) (noted_loops notes).inside k
  whole_here w at node held =
      let x = (flow.nodes at).1 node in
      inside_at v t.headers (bounds_in notes) t.bodies k x.0 at x.1 (w x.0 at x.1 held)

  whole_back : HasWholeExtent v (loops_seen v notes t) (noted_loops notes).inside k → IsWholeBody v (note_at notes k) (body_of t.bodies k)
  whole_back w i at g held =
      inside_here v t.headers (bounds_in notes) t.bodies k i at flow (lists_of v notes t are) (subst (λ n. k < n) (sym are.headers_size) kl) g (w at ((flow.nodes at).0 (i, g)) held)

-- what a tree of these parts keeps
pub stored : (v : FlowGraph) (notes : List LoopNote) (t : LoopsView) (trips : List ℕ) (backs innermost parent : List (Option ℕ)) (order : List ℕ) → AreLoopNotes notes → AreNaturalLoops v notes t → AreTrips v notes t.bodies (length notes) trips →
    length parent ≡ length t.bodies →
    IsStoredTree (record { headers = t.headers; bounds = bounds_in notes; counted = map (λ (note : LoopNote). note.counted) notes; least_trips = trips; bodies = t.bodies; backs = backs; innermost = innermost; parent = parent; order = order })
stored v notes t trips backs innermost parent order in_range are turn size = record {
  few = subst (λ n. n ≤ 4096) (sym are.headers_size) in_range.few;
  bounds = length-map notes (λ (note : LoopNote). note.bound) ∙ sym are.headers_size;
  counted = length-map notes (λ (note : LoopNote). note.counted) ∙ sym are.headers_size;
  trips = turn.size ∙ sym are.headers_size;
  trips_fit = trips_fit v notes t.bodies trips in_range turn;
  bodies = are.bodies_size ∙ sym are.headers_size;
  parent = size ∙ are.bodies_size ∙ sym are.headers_size;
  ascending = λ k i j x y ij at_i at_j. ⊎_elim
      (λ (low : k < length notes). (are.body k low).ascending i j x y ij at_i at_j)
      (λ (high : length notes ≤ k).
      let none : body_of t.bodies k ≡ [] = no_body t.bodies k (subst (λ n. n ≤ k) (sym are.bodies_size) high) in
      let clash : None ≡ Some x = sym (ap (λ xs. slice_get xs i) none) ∙ at_i in
      let bad : ⊥ = cc in absurd bad)
      (cases_lt k (length notes));
}
  where
    no_body : (bodies : List (List ℕ)) (k : ℕ) → length bodies ≤ k → body_of bodies k ≡ []
    no_body [] k le = refl
    no_body (b ∷ bs) zero le = let bad : ⊥ = omega arith in absurd bad
    no_body (b ∷ bs) (suc k) le = no_body bs k (omega arith)

-- the parts are the tree of the notes
pub tree_of : (v : FlowGraph) (notes : List LoopNote) (t : LoopsView) (trips : List ℕ) (backs innermost parent : List (Option ℕ)) (order : List ℕ) → IsFlowGraph v → AreLoopNotes notes → AreNaturalLoops v notes t → AreTrips v notes t.bodies (length notes) trips →
    AreBacks v t.headers t.bodies (length v.code.edges) backs → ArePlainOrdered v (loops_seen v notes t) order → IsNesting t.bodies t.headers (length v.code.nodes) (record { innermost = innermost; parent = parent }) →
    IsTreeOf v notes (record { headers = t.headers; bounds = bounds_in notes; counted = map (λ (note : LoopNote). note.counted) notes; least_trips = trips; bodies = t.bodies; backs = backs; innermost = innermost; parent = parent; order = order })
tree_of v notes t trips backs innermost parent order flow in_range are turn all along nesting =
    let lists = lists_of v notes t are in
    let see : AreSeen v t.headers (bounds_in notes) t.bodies (noted_loops notes).inside = seen v notes t flow are in
    let parent_size : length parent ≡ length t.headers = nesting.loops ∙ lists.size in
    record {
      tree = record {
        accepted = accepted_with (λ k. slice_index trips k) (entered-accepted (graph v) (loops_seen v notes t) (noted_loops notes).inside flow.program are.entered
            (λ k kl. are.not_deep k (subst (λ n. k < n) (length-map t.headers (node_address v) ∙ are.headers_size) kl))
            (length order) (place_of v order) (plain_order v (loops_seen v notes t) order flow along));
        whole = λ k at kl some node held.
            let low : k < length notes = subst (λ n. k < n) (length-map t.headers (node_address v) ∙ are.headers_size) kl in
            whole_here v notes t flow are k low ((turn.each k low).turns some) at node held;
        order = record { within = along.within; whole = along.whole; once = along.once; before = along.before };
        bounds_size = length-map notes (λ (note : LoopNote). note.bound) ∙ sym are.headers_size;
        counted_size = length-map notes (λ (note : LoopNote). note.counted) ∙ sym are.headers_size;
        trips_size = turn.size ∙ sym are.headers_size;
        trips = trips_fit v notes t.bodies trips in_range turn;
        bodies_size = lists.size;
        parent_size = parent_size;
        header = λ k h at. subst (λ x. x < length v.code.nodes) (get_or_from_slice_get t.headers k h 0 at) (lists.headers_are.within k (slice_get_within t.headers k h at));
        bound = λ k n at.
            let note = image_some (λ (note : LoopNote). note.bound) (slice_get notes k) n (sym (slice_get-map (λ (note : LoopNote). note.bound) notes k) ∙ at) in
            let is : IsLoopNote note.0 = subst IsLoopNote (get_or_from_slice_get notes k note.0 note.0 note.1) (in_range.each k note.0 (slice_get_within notes k note.0 note.1)) in
            subst (λ x. x ≤ 1000000000) note.2 is.bound;
        body = lists.body;
        parents = λ k o at.
            let kl : k < length t.headers = subst (λ n. k < n) parent_size (slice_get_within parent k o at) in
            let found : slice_index_or parent k None ≡ o = get_or_from_slice_get parent k o None at in
            parent_as v t.headers (bounds_in notes) t.bodies (noted_loops notes).inside see k kl o
            (subst (IsNextAtHeader t.bodies t.headers k) found (nesting.at_header (headers_outer v t.headers (bounds_in notes) t.bodies (noted_loops notes).inside see) k (subst (λ n. k < n) (sym lists.size) kl)));
        backs_size = all.size;
        backs = λ e k. (
          λ at.
              let el : e < length v.code.edges = subst (λ n. e < n) all.size (slice_get_within backs e (Some k) at) in
              let is = (all.back e k el).0 at in
              (el, is.within, back_as v t.headers (bounds_in notes) t.bodies e k lists is),
          λ h. (all.back e k h.0).1 (back_from v t.headers (bounds_in notes) t.bodies e k lists h.1 h.2),
        );
        innermost_size = nesting.nodes;
        innermost = λ k o at.
            let kl : k < length v.code.nodes = subst (λ n. k < n) nesting.nodes (slice_get_within innermost k o at) in
            let found : slice_index_or innermost k None ≡ o = get_or_from_slice_get innermost k o None at in
            innermost_as v t.headers (bounds_in notes) t.bodies (noted_loops notes).inside see k kl o (subst (IsShortest t.bodies k) found (nesting.innermost k kl));
      };
      headers = map_is (λ (note : LoopNote). note.header) notes (map (node_address v) t.headers) (length-map t.headers (node_address v) ∙ are.headers_size)
          (λ j note at.
          let jl : j < length notes = slice_get_within notes j note at in
          let low : j < length t.headers = subst (λ n. j < n) (sym are.headers_size) jl in
          let is : header_address notes j ≡ note.header = ap (λ (n : LoopNote). n.header) (get_or_from_slice_get notes j note (record { header = 0; ranges = []; bound = 0; counted = false; at_least = 0 }) at) in
          slice_get-map (node_address v) t.headers j ∙ ap (option_map (node_address v)) (slice_get-get_or t.headers j 0 low) ∙
          ap Some (get_or_from_slice_get v.code.nodes (slice_index t.headers j) (header_address notes j) 0 (are.header j jl) ∙ is));
      bounds = refl;
      counted = refl;
      trips = λ k kl.
          let here = turn.each k kl in
          record {
            whole = λ w. here.whole (whole_back v notes t flow are k kl w);
            more = λ no. here.more (λ w. no (whole_here v notes t flow are k kl w));
            turns = λ some. whole_here v notes t flow are k kl (here.turns some);
          };
    }

-- an order of arcs for the plain edges, turned round
pub plain_ordered : (v : FlowGraph) (notes : List LoopNote) (t : LoopsView) (backs : List (Option ℕ)) (arcs : List Arc) (order turned : List ℕ) → IsFlowGraph v → AreNaturalLoops v notes t →
    AreBacks v t.headers t.bodies (length v.code.edges) backs → ArePlainArcs v backs (length v.code.edges) arcs → IsSorted (length v.code.nodes) arcs order → IsTurned order turned → ArePlainOrdered v (loops_seen v notes t) turned
plain_ordered v notes t backs arcs order turned flow are all arcs_are sorted is =
    ordered v (loops_seen v notes t) backs arcs order turned flow (by_plain v t.headers (bounds_in notes) t.bodies backs (lists_of v notes t are) all) arcs_are sorted is

-- a cycle of plain edges
pub cycle_refused : (v : FlowGraph) (notes : List LoopNote) (t : LoopsView) (backs : List (Option ℕ)) (cycle : List ℕ) → AreNaturalLoops v notes t → AreBacks v t.headers t.bodies (length v.code.edges) backs →
    IsCycleBy (IsStepBy v backs) cycle → IsCycleRefused v notes (UnboundedCycle cycle)
cycle_refused v notes t backs cycle are all is = record {
  loops = loops_seen v notes t;
  noted = noted v notes t are;
  entered = are.entered;
  not_deep = are.not_deep;
  cycle = cycle;
  is_cycle = cycle_as (IsStepBy v backs) (IsPlainStep v (loops_seen v notes t)) cycle (step_as v t.headers (bounds_in notes) t.bodies backs (lists_of v notes t are) all) is;
  refusal_is = refl;
}

-- parts that are the same make the same tree
pub same_view : (backs : List (Option ℕ)) (order trips : List ℕ) (headers headers' bounds bounds' : List ℕ) (counted counted' : List Bool) (bodies bodies' : List (List ℕ)) (innermost innermost' parent parent' : List (Option ℕ)) →
    headers ≡ headers' → bounds ≡ bounds' → counted ≡ counted' → bodies ≡ bodies' → innermost ≡ innermost' → parent ≡ parent' →
    ◌≡◌ {A = LoopView} (record { headers = headers; bounds = bounds; counted = counted; least_trips = trips; bodies = bodies; backs = backs; innermost = innermost; parent = parent; order = order })
    (record { headers = headers'; bounds = bounds'; counted = counted'; least_trips = trips; bodies = bodies'; backs = backs; innermost = innermost'; parent = parent'; order = order })
same_view backs order trips headers headers' bounds bounds' counted counted' bodies bodies' innermost innermost' parent parent' p q r s t u = cc
