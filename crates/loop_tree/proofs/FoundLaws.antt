-- What the passes found, put together.
use Rattle.std.proofs.Common.{◌≡◌, ℕ, zero, suc, ◌+◌, ◌<◌, ◌≤◌, ◌↔◌, Bool, true, false, ◌&&◌, nat_eq, List, [], ◌∷◌, length, get_or, map, refl, sym, ap, ◌∙◌, subst, arith, Option, Some, None, inl, inr, ⊎_elim}
use Rattle.std.specs.Prelude.{slice_get, slice_index, Result, Ok, Err}
use Rattle.std.proofs.lemmas.Bool.{both_ways, eq-eqb, eqb-true}
use Rattle.std.proofs.lemmas.List.{length-map}
use Rattle.std.proofs.lemmas.Option.{slice_get-get_or, get_or_from_slice_get}
use Rattle.std.specs.Result.{IsErrAnd}
use Rattle.scale_base.specs.Answer.{AnswersBy}
use Rattle.scale_base.specs.declared.refusal.Stop.{Stop}
use Rattle.scale_base.specs.declared.refusal.Stop.TheVariants.{Refused, Memory}
use Rattle.scale_base.specs.declared.refusal.Refusal.{Refusal}
use Rattle.scale_base.specs.declared.refusal.Refusal.TheVariants.{SameHeader}
use Rattle.cost_theory.specs.Graph.{Loops, sum_below, only, is_back, is_header}
use Rattle.cost_theory.specs.Accepted.{AreEntered, IsNode, IsInBody, IsSideEntry}
use Rattle.cost_theory.specs.Lists.{is_among, or_true, body_of}
use Rattle.cost_theory.proofs.Laws.{sum-same}
use Rattle.flow_graph.specs.FlowGraph.{FlowGraph, graph, IsFlowGraph}
use Rattle.graph_algorithms.specs.Edges.{EdgeView}
use Rattle.graph_algorithms.specs.Bodies.{IsIn, IsLeastPair}
use Rattle.loop_file.specs.declared.notes.LoopNote.{LoopNote}
use Rattle.loop_file.specs.Kept.{note_at, noted_loops}
use Rattle.flow_graph.specs.Ends.{AreEdgeEnds}
use Rattle.loop_forest.specs.Noted.{header_address, IsBodyNode, HasBackEdge, HaveOneHeader, IsNotedSideEntry, node_address}
use Rattle.loop_forest.specs.Found.{loops_seen, AreNaturalLoops}
use Rattle.loop_forest.specs.Refused.{AreHeaders, AreNoted, IsPairRefused, IsDepthRefused, AreHeadersReached}
use Rattle.loop_tree.specs.Passes.{AreGraphEdges, IsReady, AreHeaderNumbers, HaveOneNumber, IsNumberedBody, AreDepths, AreEntriesFound, AreBodies, IsDeepest, depth_at}
use Rattle.loop_forest.proofs.Laws.{one_number, source_number}

-- ---- headers
module _ (v : FlowGraph) (is : IsFlowGraph v) (notes : List LoopNote) (headers : List ℕ) (numbers : AreHeaderNumbers v notes headers) where
  pub reached : AreHeadersReached v notes
  reached k lt = (is.nodes (header_address notes k)).0 (get_or headers k 0, numbers.at k lt)

  -- one header, by address and by number
  to_number : (j k : ℕ) → k < length notes → HaveOneHeader notes j k → HaveOneNumber headers j k
  to_number j k lt h =
      let below = h.0 in
      let at_j = numbers.at j (let q : j < length notes = omega arith in q) in (
        h.0,
        (let s = numbers.size in let q : k < length headers = omega arith in q),
        one_number v is (get_or headers j 0) (get_or headers k 0) (header_address notes j) at_j (numbers.at k lt ∙ ap Some (sym h.1)),
      )

  to_header : (j k : ℕ) → HaveOneNumber headers j k → HaveOneHeader notes j k
  to_header j k h =
      let below = h.0 in
      let within = h.1 in
      let s = numbers.size in
      let at_j = numbers.at j (let q : j < length notes = omega arith in q) in
      let at_k = numbers.at k (let q : k < length notes = omega arith in q) in
      let e : slice_get v.code.nodes (get_or headers j 0) ≡ slice_get v.code.nodes (get_or headers k 0) = ap (slice_get v.code.nodes) h.2 in
      let same : header_address notes j ≡ header_address notes k = cc in
      (h.0, same)

  pub headers_apart : IsLeastPair (HaveOneNumber headers) None → AreHeaders v notes
  headers_apart none = record { reached = reached; distinct = λ j k lt h. none j k (to_number j k lt h) }

  pub pair_refused : (one two : ℕ) (refusal : Refusal) → IsLeastPair (HaveOneNumber headers) (Some (one, two)) → refusal ≡ SameHeader (one + 1) (two + 1) → IsPairRefused v notes refusal
  pair_refused one two refusal least e = record {
    reached = reached;
    one = one;
    two = two;
    within = (let a = least.0.1 in let s = numbers.size in omega arith);
    same = to_header one two least.0;
    first = λ j k lt h. least.1 j k (to_number j k lt h);
    refusal_is = e;
  }

-- both loops of the least pair are among the notes
pub pair_low : (v : FlowGraph) (notes : List LoopNote) (headers firsts : List ℕ) (least : Option (ℕ × ℕ)) (one two : ℕ) → AreHeaderNumbers v notes headers → firsts ≡ headers → IsLeastPair (HaveOneNumber firsts) least → least ≡ Some (one, two) →
    IsLeastPair (HaveOneNumber headers) (Some (one, two)) × (one < 4096) × (two < 4096)
pair_low v notes headers firsts least one two numbers same pairs is =
    let found = subst (IsLeastPair (HaveOneNumber headers)) is (subst (λ xs. IsLeastPair (HaveOneNumber xs) least) same pairs) in
    let a = found.0.0 in
    let b = found.0.1 in
    let n = numbers.size in
    let few = numbers.few in
    (found, (let q : one < 4096 = omega arith in q), (let q : two < 4096 = omega arith in q))

-- the ends of the edges, with the graph that has them
pub edges_at : (v : FlowGraph) (sources : List ℕ) (targets : List (Option ℕ)) (count : ℕ) (search : EdgeView) → IsFlowGraph v → count ≡ length v.code.nodes → count ≤ 131072 → AreEdgeEnds v sources targets →
    search ≡ record { sources = sources; targets = targets; count = count } → AreGraphEdges v search
edges_at v sources targets count search flow size few are e = subst (AreGraphEdges v) (sym e) (record {
  graph = record { flow = flow; few = omega arith };
  ends = are;
  count = size;
})

-- with notes whose headers differ
pub ready_at : (v : FlowGraph) (search : EdgeView) (notes : List LoopNote) (headers firsts seen : List ℕ) (least : Option (ℕ × ℕ)) → AreGraphEdges v search → AreHeaderNumbers v notes headers → firsts ≡ headers → IsLeastPair (HaveOneNumber firsts) least → least ≡ None → seen ≡ headers →
    IsReady v search notes seen
ready_at v search notes headers firsts seen least edges numbers same pairs none now = subst (IsReady v search notes) (sym now) (record {
  edges = edges;
  few = numbers.few;
  numbers = numbers;
  apart = headers_apart v edges.graph.flow notes headers numbers (subst (IsLeastPair (HaveOneNumber headers)) none (subst (λ xs. IsLeastPair (HaveOneNumber xs) least) same pairs));
})

-- ---- a refusal that is passed on
stopped : {X Y : Type 0} (view : X → Y) (s : Stop) (P : Result Unit Refusal → Type 0) (Q : Result Y Refusal → Type 0) → ((e : Refusal) → P (Err e) → Q (Err e)) → AnswersBy {X = Unit {0}} {Y = Unit {0}} (λ x. x) (Err s) P → AnswersBy view (Err s) Q
stopped view (Refused e) P Q onward was = onward e was
stopped view Memory P Q onward was = tt

pub passed_on : {X Y : Type 0} (view : X → Y) (r : Result X Stop) (s : Stop) (P : Result Unit Refusal → Type 0) (Q : Result Y Refusal → Type 0) → ((e : Refusal) → P (Err e) → Q (Err e)) → IsErrAnd r (λ t. t ≡ s) → AnswersBy {X = Unit {0}} {Y = Unit {0}} (λ x. x) (Err s) P → AnswersBy view r Q
passed_on view (Ok x) s P Q onward is was = absurd is
passed_on view (Err t) s P Q onward is was = subst (λ u. AnswersBy view (Err u) Q) (sym is) (stopped view s P Q onward was)

-- ---- loops with these bodies
abbrev pub AreBodiesOf : FlowGraph → List LoopNote → Loops → Type 0
AreBodiesOf v notes l = (k at : ℕ) → k < length notes → (l.inside k at ≡ true) ↔ IsBodyNode v notes k at

back_edge : (v : FlowGraph) (l : Loops) (k e at : ℕ) → l.inside k ((graph v).source e) ≡ true → (graph v).target e ≡ Some at → at ≡ l.header k → is_back (graph v) l k e ≡ true
back_edge v l k e at inside to same =
    ap (λ b. b && is_header l k ((graph v).target e)) inside ∙ (ap (is_header l k) to ∙ eq-eqb at (l.header k) same)

pub entered : (v : FlowGraph) (notes : List LoopNote) (l : Loops) → AreHeaders v notes → ((k : ℕ) → k < length notes → HasBackEdge v notes k) → ((k a b : ℕ) → k < length notes → IsNotedSideEntry v notes k a b → ⊥) →
    AreNoted notes l → AreBodiesOf v notes l → AreEntered (graph v) l (noted_loops notes).inside
entered v notes l headers back_edges none noted bodies = record {
  bodies = λ k at lt. subst (λ h. (l.inside k at ≡ true) ↔ IsInBody (graph v) h ((noted_loops notes).inside k) at) (sym (noted.header k (low k lt))) (bodies k at (low k lt));
  header_reached = λ k lt un. un (subst (IsNode (graph v)) (sym (noted.header k (low k lt))) (headers.reached k (low k lt)));
  distinct = λ j k lt same.
      let below = same.0 in
      headers.distinct j k (low k lt) (same.0, sym (noted.header j (let q = low k lt in let r : j < length notes = omega arith in r)) ∙ (same.1 ∙ noted.header k (low k lt)));
  back_edge = λ k lt no.
      let t = back_edges k (low k lt) in
      both_ways (is_back (graph v) l k t.0) (no t.0 t.1) (back_edge v l k t.0 (header_address notes k) ((bodies k ((graph v).source t.0) (low k lt)).1 t.2) t.3 (sym (noted.header k (low k lt))));
  no_side = λ k from to lt side. none k from to (low k lt) (aside k from to (low k lt) side);
}
  where
    low : (k : ℕ) → k < l.loops → k < length notes
    low k lt = let c = noted.count in omega arith

    aside : (k from to : ℕ) → k < length notes → IsSideEntry (graph v) l k from to → IsNotedSideEntry v notes k from to
    aside k from to lt side = (
      (bodies k to lt).0 side.0,
      λ e. side.1 (e ∙ sym (noted.header k lt)),
      ⊎_elim
          (λ (s : (e : ℕ) × (e < (graph v).edges) × ((graph v).source e ≡ from) × ((graph v).target e ≡ Some to) × (l.inside k from ≡ false)).
          inl (s.0, s.1, s.2, s.3, λ h. both_ways (l.inside k from) s.4 ((bodies k from lt).1 h)))
          (λ (s : (from ≡ to) × ((f : ℕ) × (f < (graph v).functions) × ((graph v).entry f ≡ to))). inr s)
          side.2,
    )

-- ---- depths
same_test : (a b : Bool) (P : Type 0) → (a ≡ true) ↔ P → (b ≡ true) ↔ P → a ≡ b
same_test true b P p q = sym (q.1 (p.0 refl))
same_test false true P p q = p.1 (q.0 refl)
same_test false false P p q = refl

-- the depth that was counted is the number of bodies round a header
pub depth_is : (v : FlowGraph) (search : EdgeView) (notes : List LoopNote) (headers depths : List ℕ) → IsReady v search notes headers → AreDepths v notes (length notes) depths → (l : Loops) → AreNoted notes l → AreBodiesOf v notes l →
    (k : ℕ) → k < length notes → depth_at headers depths k ≡ sum_below l.loops (λ j. only (l.inside j (l.header k)) 1)
depth_is v search notes headers depths is counts l noted bodies k lt =
    counts.counted (get_or headers k 0) (header_address notes k) (is.numbers.at k lt) ∙
    (sum-same (length notes) (λ j. only (counts.inside j (header_address notes k)) 1) (λ j. only (l.inside j (l.header k)) 1)
    (λ j jl. ap (λ b. only b 1) (same_test (counts.inside j (header_address notes k)) (l.inside j (header_address notes k)) (IsBodyNode v notes j (header_address notes k)) (counts.bodies j (header_address notes k) jl) (bodies j (header_address notes k) jl) ∙
    ap (l.inside j) (sym (noted.header k lt)))) ∙
    ap (λ n. sum_below n (λ j. only (l.inside j (l.header k)) 1)) (sym noted.count))

pub depth_refused : (v : FlowGraph) (search : EdgeView) (notes : List LoopNote) (headers depths : List ℕ) (refusal : Refusal) → IsReady v search notes headers → ((k : ℕ) → k < length notes → HasBackEdge v notes k) → AreEntriesFound v notes depths → IsDeepest headers depths refusal → IsDepthRefused v notes refusal
depth_refused v search notes headers depths refusal is back_edges entries deep = record {
  loops = l;
  noted = noted;
  entered = entered v notes l is.apart back_edges (λ k a b lt h. entries.none k a b lt h) noted bodies;
  k = deep.k;
  within = within;
  deep = (let d = depth_is v search notes headers depths is entries.counts l noted bodies deep.k within in let h = deep.deep in omega arith);
  first = λ j jl h. (let d = depth_is v search notes headers depths is entries.counts l noted bodies j (let q : j < length notes = omega arith in q) in let u = deep.first j jl in let bad : ⊥ = omega arith in bad);
  refusal_is = deep.refusal_is;
}
  where
    l : Loops
    l = record { loops = length notes; header = λ k. (note_at notes k).header; bound = λ k. (note_at notes k).bound; least_trips = λ k. 0; inside = entries.counts.inside }

    noted : AreNoted notes l
    noted = record { count = refl; header = λ k lt. refl; bound = λ k lt. refl }

    bodies : AreBodiesOf v notes l
    bodies k at lt = entries.counts.bodies k at lt

    within : deep.k < length notes
    within = let w = deep.within in let s = is.numbers.size in omega arith

-- ---- the loops that are kept
map_at : (f : ℕ → ℕ) (xs : List ℕ) (k : ℕ) → k < length xs → slice_index (map f xs) k ≡ f (slice_index xs k)
map_at f [] k lt = let bad : ⊥ = omega arith in absurd bad
map_at f (x ∷ xs) zero lt = refl
map_at f (x ∷ xs) (suc k) lt = map_at f xs k (omega arith)

bound_at : (notes : List LoopNote) (k : ℕ) → k < length notes → slice_index (map (λ note. note.bound) notes) k ≡ (note_at notes k).bound
bound_at [] k lt = let bad : ⊥ = omega arith in absurd bad
bound_at (x ∷ xs) zero lt = refl
bound_at (x ∷ xs) (suc k) lt = bound_at xs k (omega arith)

body_map : (f : ℕ → ℕ) (bodies : List (List ℕ)) (k : ℕ) → body_of (map (λ body. map f body) bodies) k ≡ map f (body_of bodies k)
body_map f [] k = refl
body_map f (b ∷ bs) zero = refl
body_map f (b ∷ bs) (suc k) = body_map f bs k

among_in : (f : ℕ → ℕ) (xs : List ℕ) (at : ℕ) → is_among at (map f xs) ≡ true → (i : ℕ) × IsIn xs i × (f i ≡ at)
among_in f [] at h = let bad : ⊥ = cc in absurd bad
among_in f (x ∷ xs) at h = go (λ k. among_in f xs at k) (nat_eq (f x) at) refl
  where
    go : (is_among at (map f xs) ≡ true → (i : ℕ) × IsIn xs i × (f i ≡ at)) → (b : Bool) → nat_eq (f x) at ≡ b → (i : ℕ) × IsIn (x ∷ xs) i × (f i ≡ at)
    go rest true e = (x, (0, refl), eqb-true (f x) at e)
    go rest false e = let w = rest (sym (ap (λ b. or_true b (is_among at (map f xs))) e) ∙ h) in (w.0, (suc w.1.0, w.1.1), w.2)

or_right : (a b : Bool) → b ≡ true → or_true a b ≡ true
or_right true b h = refl
or_right false b h = h

in_among : (f : ℕ → ℕ) (xs : List ℕ) (at p i : ℕ) → slice_get xs p ≡ Some i → f i ≡ at → is_among at (map f xs) ≡ true
in_among f [] at p i h e = let bad : ⊥ = cc in absurd bad
in_among f (x ∷ xs) at zero i h e = let same : x ≡ i = cc in ap (λ b. or_true b (is_among at (map f xs))) (eq-eqb (f x) at (ap f same ∙ e))
in_among f (x ∷ xs) at (suc p) i h e = or_right (nat_eq (f x) at) (is_among at (map f xs)) (in_among f xs at p i h e)

module _ (v : FlowGraph) (search : EdgeView) (notes : List LoopNote) (headers : List ℕ) (bodies : List (List ℕ)) (is : IsReady v search notes headers) (kept : AreBodies v notes (length notes) bodies) where
  flow : IsFlowGraph v
  flow = is.edges.graph.flow

  abbrev seen : Loops
  seen = loops_seen v notes (record { headers = headers; bodies = bodies })

  noted : AreNoted notes seen
  noted = record {
    count = length-map headers (node_address v) ∙ is.numbers.size;
    header = λ k lt. map_at (node_address v) headers k (let s = is.numbers.size in omega arith) ∙ get_or_from_slice_get v.code.nodes (get_or headers k 0) (header_address notes k) 0 (is.numbers.at k lt);
    bound = λ k lt. bound_at notes k lt;
  }

  seen_bodies : AreBodiesOf v notes seen
  seen_bodies k at lt =
      let is_body : IsNumberedBody v (note_at notes k) (body_of bodies k) = (kept.body k lt).0 in
      let e : is_among at (body_of (map (λ body. map (node_address v) body) bodies) k) ≡ is_among at (map (node_address v) (body_of bodies k)) = ap (is_among at) (body_map (node_address v) bodies k) in (
        λ h.
            let w = among_in (node_address v) (body_of bodies k) at (sym e ∙ h) in
            let g : slice_get v.code.nodes w.0 ≡ Some at = slice_get-get_or v.code.nodes w.0 0 (is_body.nodes.within w.1.0 w.0 w.1.1) ∙ ap Some w.2 in
            (is_body.exact w.0 at g).0 w.1,
        λ h.
            let from = source_number v flow h.2.0 h.2.2.0 in
            let same : (graph v).source h.2.0 ≡ at = (let w = h.2.2.1 in cc) in
            let g : slice_get v.code.nodes from.0 ≡ Some at = from.1 ∙ ap Some same in
            let here = (is_body.exact from.0 at g).1 h in
            e ∙ in_among (node_address v) (body_of bodies k) at here.0 from.0 here.1 (get_or_from_slice_get v.code.nodes from.0 at 0 g),
      )

  pub natural : (depths : List ℕ) → ((k : ℕ) → k < length notes → HasBackEdge v notes k) → AreEntriesFound v notes depths → ((k : ℕ) → k < length headers → depth_at headers depths k ≤ 16) → AreNaturalLoops v notes (record { headers = headers; bodies = bodies })
  natural depths back_edges entries shallow = record {
    headers_size = is.numbers.size;
    bodies_size = kept.size;
    header = is.numbers.at;
    body = λ k lt. (kept.body k lt).1;
    entered = entered v notes seen is.apart back_edges (λ k a b lt h. entries.none k a b lt h) noted seen_bodies;
    not_deep = λ k lt deep.
        let d = depth_is v search notes headers depths is entries.counts seen noted seen_bodies k lt in
        let u = shallow k (let s = is.numbers.size in omega arith) in
        let bad : ⊥ = omega arith in bad;
  }
