-- Back edges of loops by the numbers of nodes, and by their addresses.
use Rattle.std.proofs.Common.{◌≡◌, ◌↔◌, ℕ, ◌+◌, ◌-◌, ◌<◌, ◌≤◌, Bool, true, false, List, [], ◌∷◌, ◌++◌, map, length, length-append, slice_get, slice_index, slice_set, get_or, Option, Some, None, option_map, refl, sym, ap, ◌∙◌, subst, arith, ⊎_elim, eqb-true, eq-eqb}
use Rattle.std.proofs.lemmas.Bool.{cases_lt, cases_eq}
use Rattle.std.proofs.lemmas.List.{get_or_append_left, get_or-append_right, length-map, get_or-map, length-set, get_or-set_same, get_or-set_other}
use Rattle.std.proofs.lemmas.Option.{slice_get-get_or, get_or_from_slice_get, slice_get-map, same_Some}
use Rattle.cost_theory.specs.Graph.{Loops, IsPlain, is_back, is_header}
use Rattle.cost_theory.specs.Lists.{body_of, is_among}
use Rattle.cost_theory.proofs.Laws.{and_left, and_right, and_both}
use Rattle.flow_graph.specs.FlowGraph.{FlowGraph, graph, IsFlowGraph}
use Rattle.loop_forest.specs.Noted.{node_address, loops_by}
use Rattle.loop_forest.proofs.Laws.{one_number}
use Rattle.loop_forest.specs.Tree.{IsPlainStep}
use Rattle.loop_forest.specs.Arcs.{IsPlainBy}
use Rattle.loop_tree.specs.Backs.{AreDistinctHeaders, ArePlacedHeaders, AreLoopLists, IsBackBetween, AreBacks, IsStepBy, loop_at}
use Rattle.loop_forest.proofs.Laws.{among_at, at_among}
use Rattle.loop_tree.proofs.Lists.{body_of-map, image_some}

-- ---- headers by node

pub placed_more : (headers : List ℕ) (n count : ℕ) (heads : List (Option ℕ)) → AreDistinctHeaders headers count → n < length headers → ArePlacedHeaders headers n count heads →
    ArePlacedHeaders headers (n + 1) count (slice_set heads (slice_index headers n) (Some n))
placed_more headers n count heads are lt placed =
    let size = placed.size in
    let low : slice_index headers n < count = are.within n lt in
    let room : slice_index headers n < length heads = omega arith in
    record {
      size = length-set heads (slice_index headers n) (Some n) ∙ placed.size;
      headed = λ k l e. ⊎_elim
          (λ (same : k ≡ slice_index headers n).
          let here : loop_at (slice_set heads (slice_index headers n) (Some n)) k ≡ Some n = subst (λ j. loop_at (slice_set heads (slice_index headers n) (Some n)) j ≡ Some n) (sym same) (get_or-set_same heads (slice_index headers n) (Some n) None room) in
          let is : n ≡ l = same_Some n l (sym here ∙ e) in
          (omega arith, ap (slice_index headers) (sym is) ∙ sym same))
          (λ (other : k ≡ slice_index headers n → ⊥).
          let h = placed.headed k l (sym (get_or-set_other heads (slice_index headers n) k (Some n) None other) ∙ e) in
          let below : l < n = h.0 in
          (omega arith, h.1))
          (cases_eq k (slice_index headers n));
      whole = λ l ln. ⊎_elim
          (λ (below : l < n).
          get_or-set_other heads (slice_index headers n) (slice_index headers l) (Some n) None (are.distinct l n below lt) ∙ placed.whole l below)
          (λ (high : n ≤ l). let same : n ≡ l = omega arith in
          subst (λ j. loop_at (slice_set heads (slice_index headers n) (Some n)) (slice_index headers j) ≡ Some j) same (get_or-set_same heads (slice_index headers n) (Some n) None room))
          (cases_lt l n);
    }

-- ---- one edge

-- the node to which a back edge of loop k leads is its header
pub back_header : (v : FlowGraph) (headers : List ℕ) (bodies : List (List ℕ)) (e k to : ℕ) → IsFlowGraph v → AreLoopLists v headers bodies → (graph v).target e ≡ slice_get v.code.nodes to → to < length v.code.nodes →
    IsBackBetween v headers bodies e k → slice_index headers k ≡ to
back_header v headers bodies e k to flow are target lt is =
    let at : slice_get v.code.nodes to ≡ Some (get_or v.code.nodes to 0) = slice_get-get_or v.code.nodes to 0 lt in
    one_number v flow (slice_index headers k) to (get_or v.code.nodes to 0) (sym is.target ∙ target ∙ at) at

-- the loop of which an edge may be a back edge is that of the header
pub back_headed : (v : FlowGraph) (headers : List ℕ) (bodies : List (List ℕ)) (heads : List (Option ℕ)) (e k to : ℕ) → IsFlowGraph v → AreLoopLists v headers bodies → ArePlacedHeaders headers (length headers) (length v.code.nodes) heads →
    (graph v).target e ≡ slice_get v.code.nodes to → to < length v.code.nodes → IsBackBetween v headers bodies e k → loop_at heads to ≡ Some k
back_headed v headers bodies heads e k to flow are placed target lt is =
    subst (λ j. loop_at heads j ≡ Some k) (back_header v headers bodies e k to flow are target lt is) (placed.whole k is.within)

-- its source is in the body
pub back_source : (v : FlowGraph) (headers : List ℕ) (bodies : List (List ℕ)) (e k from : ℕ) → IsFlowGraph v → slice_get v.code.nodes from ≡ Some ((graph v).source e) → IsBackBetween v headers bodies e k → is_among from (body_of bodies k) ≡ true
back_source v headers bodies e k from flow source is =
    subst (λ j. is_among j (body_of bodies k) ≡ true) (one_number v flow is.from from ((graph v).source e) is.source source) is.body

-- an edge from the body of the loop to whose header it leads
pub back_is : (v : FlowGraph) (headers : List ℕ) (bodies : List (List ℕ)) (heads : List (Option ℕ)) (e to number from : ℕ) → IsFlowGraph v → AreLoopLists v headers bodies → ArePlacedHeaders headers (length headers) (length v.code.nodes) heads →
    (graph v).target e ≡ slice_get v.code.nodes to → to < length v.code.nodes → loop_at heads to ≡ Some number → slice_get v.code.nodes from ≡ Some ((graph v).source e) → is_among from (body_of bodies number) ≡ true →
    (k : ℕ) → (number ≡ k) ↔ IsBackBetween v headers bodies e k
back_is v headers bodies heads e to number from flow are placed target lt headed source among k = (
  λ same. subst (IsBackBetween v headers bodies e) same (record {
    within = (placed.headed to number headed).0;
    from = from;
    source = source;
    body = among;
    target = target ∙ ap (slice_get v.code.nodes) (sym (placed.headed to number headed).1);
  }),
  λ is. same_Some number k (sym headed ∙ back_headed v headers bodies heads e k to flow are placed target lt is),
)

-- and one from elsewhere
pub back_is_none : (v : FlowGraph) (headers : List ℕ) (bodies : List (List ℕ)) (heads : List (Option ℕ)) (e to number from : ℕ) → IsFlowGraph v → AreLoopLists v headers bodies → ArePlacedHeaders headers (length headers) (length v.code.nodes) heads →
    (graph v).target e ≡ slice_get v.code.nodes to → to < length v.code.nodes → loop_at heads to ≡ Some number → slice_get v.code.nodes from ≡ Some ((graph v).source e) → is_among from (body_of bodies number) ≡ false →
    (k : ℕ) → IsBackBetween v headers bodies e k → ⊥
back_is_none v headers bodies heads e to number from flow are placed target lt headed source none k is =
    let same : k ≡ number = sym (same_Some number k (sym headed ∙ back_headed v headers bodies heads e k to flow are placed target lt is)) in
    let clash : true ≡ false = sym (back_source v headers bodies e k from flow source is) ∙ ap (λ j. is_among from (body_of bodies j)) same ∙ none in
    let bad : ⊥ = cc in bad

-- ---- bodies by addresses

pub inside_at : (v : FlowGraph) (headers bounds : List ℕ) (bodies : List (List ℕ)) (k x at : ℕ) → slice_get v.code.nodes x ≡ Some at → is_among x (body_of bodies k) ≡ true → (loops_by v headers bounds bodies).inside k at ≡ true
inside_at v headers bounds bodies k x at node among =
    let i = at_among (body_of bodies k) x among in
    ap (is_among at) (body_of-map (node_address v) bodies k) ∙
    among_at (map (node_address v) (body_of bodies k)) i.0 at
    (slice_get-map (node_address v) (body_of bodies k) i.0 ∙ ap (option_map (node_address v)) i.1 ∙ ap Some (get_or_from_slice_get v.code.nodes x at 0 node))

-- the node of a body at an address
pub inside_number : (v : FlowGraph) (headers bounds : List ℕ) (bodies : List (List ℕ)) (k at : ℕ) → AreLoopLists v headers bodies → k < length headers → (loops_by v headers bounds bodies).inside k at ≡ true →
    (x : ℕ) × (slice_get v.code.nodes x ≡ Some at) × (is_among x (body_of bodies k) ≡ true)
inside_number v headers bounds bodies k at are kl e =
    let i = at_among (map (node_address v) (body_of bodies k)) at (sym (ap (is_among at) (body_of-map (node_address v) bodies k)) ∙ e) in
    let x = image_some (node_address v) (slice_get (body_of bodies k) i.0) at (sym (slice_get-map (node_address v) (body_of bodies k) i.0) ∙ i.1) in
    let low : x.0 < length v.code.nodes = (are.body k kl).within i.0 x.0 x.1 in
    (x.0, slice_get-get_or v.code.nodes x.0 0 low ∙ ap Some x.2, among_at (body_of bodies k) i.0 x.0 x.1)

pub inside_here : (v : FlowGraph) (headers bounds : List ℕ) (bodies : List (List ℕ)) (k x at : ℕ) → IsFlowGraph v → AreLoopLists v headers bodies → k < length headers → slice_get v.code.nodes x ≡ Some at →
    (loops_by v headers bounds bodies).inside k at ≡ true → is_among x (body_of bodies k) ≡ true
inside_here v headers bounds bodies k x at flow are kl node e =
    let y = inside_number v headers bounds bodies k at are kl e in
    subst (λ j. is_among j (body_of bodies k) ≡ true) (one_number v flow y.0 x at y.1 node) y.2

-- the address of a header
pub header_at : (v : FlowGraph) (headers bounds : List ℕ) (bodies : List (List ℕ)) (k : ℕ) → AreLoopLists v headers bodies → k < length headers → slice_get v.code.nodes (slice_index headers k) ≡ Some ((loops_by v headers bounds bodies).header k)
header_at v headers bounds bodies k are kl =
    slice_get-get_or v.code.nodes (slice_index headers k) 0 (are.headers_are.within k kl) ∙ ap Some (sym (get_or-map (node_address v) headers k 0 0 kl))

-- ---- back edges by addresses

heads_to : (l : Loops) (k : ℕ) (o : Option ℕ) → is_header l k o ≡ true → o ≡ Some (l.header k)
heads_to l k None e = let bad : ⊥ = cc in absurd bad
heads_to l k (Some u) e = ap Some (eqb-true u (l.header k) e)

pub back_as : (v : FlowGraph) (headers bounds : List ℕ) (bodies : List (List ℕ)) (e k : ℕ) → AreLoopLists v headers bodies → IsBackBetween v headers bodies e k → is_back (graph v) (loops_by v headers bounds bodies) k e ≡ true
back_as v headers bounds bodies e k are is =
    let l : Loops = loops_by v headers bounds bodies in
    and_both _ _ (inside_at v headers bounds bodies k is.from ((graph v).source e) is.source is.body)
    (ap (is_header l k) (is.target ∙ header_at v headers bounds bodies k are is.within) ∙ eq-eqb (l.header k) (l.header k) refl)

pub back_from : (v : FlowGraph) (headers bounds : List ℕ) (bodies : List (List ℕ)) (e k : ℕ) → AreLoopLists v headers bodies → k < length headers → is_back (graph v) (loops_by v headers bounds bodies) k e ≡ true → IsBackBetween v headers bodies e k
back_from v headers bounds bodies e k are kl back =
    let l : Loops = loops_by v headers bounds bodies in
    let x = inside_number v headers bounds bodies k ((graph v).source e) are kl (and_left (l.inside k ((graph v).source e)) (is_header l k ((graph v).target e)) back) in
    record {
      within = kl;
      from = x.0;
      source = x.1;
      body = x.2;
      target = heads_to l k ((graph v).target e) (and_right (l.inside k ((graph v).source e)) (is_header l k ((graph v).target e)) back) ∙ sym (header_at v headers bounds bodies k are kl);
    }

-- ---- all edges

-- edge n is a back edge of a loop, or of none
pub backs_more : (v : FlowGraph) (headers : List ℕ) (bodies : List (List ℕ)) (n : ℕ) (backs : List (Option ℕ)) (back : Option ℕ) → AreBacks v headers bodies n backs → ((k : ℕ) → (back ≡ Some k) ↔ IsBackBetween v headers bodies n k) →
    AreBacks v headers bodies (n + 1) (backs ++ back ∷ [])
backs_more v headers bodies n backs back are is =
    let size = are.size in
    let total : length (backs ++ back ∷ []) ≡ length backs + 1 = length-append backs (back ∷ []) in
    let first : (e : ℕ) → e < n → slice_get (backs ++ back ∷ []) e ≡ slice_get backs e = λ e lt.
    slice_get-get_or (backs ++ back ∷ []) e None (omega arith) ∙ ap Some (get_or_append_left backs (back ∷ []) None e (omega arith)) ∙ sym (slice_get-get_or backs e None (omega arith)) in
    let last : slice_get (backs ++ back ∷ []) n ≡ Some back =
    slice_get-get_or (backs ++ back ∷ []) n None (omega arith) ∙ ap Some (get_or-append_right backs (back ∷ []) n n None size (omega arith) ∙ ap (loop_at (back ∷ [])) (let z : n - n ≡ 0 = omega arith in z)) in
    record {
      size = omega arith;
      back = λ e k lt. ⊎_elim
          (λ (low : e < n). ((λ h. (are.back e k low).0 (sym (first e low) ∙ h)), (λ h. first e low ∙ (are.back e k low).1 h)))
          (λ (high : n ≤ e). let same : n ≡ e = omega arith in
          subst (λ d. (slice_get (backs ++ back ∷ []) d ≡ Some (Some k)) ↔ IsBackBetween v headers bodies d k) same
          ((λ h. (is k).0 (same_Some back (Some k) (sym last ∙ h))), (λ h. last ∙ ap Some ((is k).1 h))))
          (cases_lt e n);
    }

pub plain_by : (v : FlowGraph) (headers bounds : List ℕ) (bodies : List (List ℕ)) (backs : List (Option ℕ)) → AreLoopLists v headers bodies → AreBacks v headers bodies (length v.code.edges) backs →
    (e : ℕ) → e < length v.code.edges → IsPlainBy backs e → IsPlain (graph v) (loops_by v headers bounds bodies) e
plain_by v headers bounds bodies backs are all e lt plain k kl = go (is_back (graph v) (loops_by v headers bounds bodies) k e) refl
  where
    go : (b : Bool) → is_back (graph v) (loops_by v headers bounds bodies) k e ≡ b → b ≡ false
    go false h = refl
    go true h =
        let low : k < length headers = subst (λ n. k < n) (length-map headers (node_address v)) kl in
        let clash = sym plain ∙ (all.back e k lt).1 (back_from v headers bounds bodies e k are low h) in
        let bad : ⊥ = cc in absurd bad

pub by_plain : (v : FlowGraph) (headers bounds : List ℕ) (bodies : List (List ℕ)) (backs : List (Option ℕ)) → AreLoopLists v headers bodies → AreBacks v headers bodies (length v.code.edges) backs →
    (e : ℕ) → e < length v.code.edges → IsPlain (graph v) (loops_by v headers bounds bodies) e → IsPlainBy backs e
by_plain v headers bounds bodies backs are all e lt plain =
    let size = all.size in
    go (get_or backs e None) (slice_get-get_or backs e None (omega arith))
  where
    go : (o : Option ℕ) → slice_get backs e ≡ Some o → IsPlainBy backs e
    go None h = h
    go (Some k) h =
        let is = (all.back e k lt).0 h in
        let low : k < length (map (node_address v) headers) = subst (λ n. k < n) (sym (length-map headers (node_address v))) is.within in
        let clash : true ≡ false = sym (back_as v headers bounds bodies e k are is) ∙ plain k low in
        let bad : ⊥ = cc in absurd bad

-- a step over a plain edge
pub step_as : (v : FlowGraph) (headers bounds : List ℕ) (bodies : List (List ℕ)) (backs : List (Option ℕ)) → AreLoopLists v headers bodies → AreBacks v headers bodies (length v.code.edges) backs →
    (a b : ℕ) → IsStepBy v backs a b → IsPlainStep v (loops_by v headers bounds bodies) a b
step_as v headers bounds bodies backs are all a b step = (step.0, step.1, plain_by v headers bounds bodies backs are all step.0 step.1 step.2, step.3, step.4)
