-- The ways out of a loop, by the numbers of nodes.
use Rattle.std.proofs.Common.{◌≡◌, ℕ, zero, suc, ◌+◌, ◌<◌, ◌≤◌, Bool, true, false, not, ◌&&◌, nat_eq, List, [], ◌∷◌, map, length, slice_get, slice_index, ◌↔◌, option_map, Option, Some, None, ◌⊎◌, ⊎_elim, inl, inr, refl, sym, ap, ◌∙◌, subst, arith}
use Rattle.std.proofs.lemmas.Bool.{eqb-true, eq-eqb, and_parts, cases_lt}
use Rattle.std.proofs.lemmas.List.{length-map}
use Rattle.std.proofs.lemmas.Option.{slice_get_within, slice_get-get_or, slice_get-map, same_Some}
use Rattle.graph_algorithms.specs.Arcs.{number_in_place}
use Rattle.cost_theory.specs.Graph.{leaves}
use Rattle.cost_theory.specs.Reached.{edge_at}
use Rattle.cost_theory.specs.Lists.{or_true, is_among, body_of}
use Rattle.flow_graph.specs.FlowGraph.{FlowGraph, graph, IsFlowGraph}
use Rattle.loop_forest.specs.Noted.{node_address}
use Rattle.loop_forest.specs.Tree.{LoopView, loops, IsLoopTree}
use Rattle.loop_forest.proofs.Laws.{one_number}
use Rattle.level_reasons.specs.Reasons.{IsWayOut}
use Rattle.level_reasons.specs.Ways.{IsWayAmong, IsWaySoFar}

-- ---- elements

or_any : (b c : Bool) → c ≡ true → or_true b c ≡ true
or_any true c e = refl
or_any false c e = e

among_at : (xs : List ℕ) (i x : ℕ) → slice_get xs i ≡ Some x → is_among x xs ≡ true
among_at [] i x e = let bad : ⊥ = cc in absurd bad
among_at (u ∷ us) zero x e = let same : u ≡ x = same_Some u x e in ap (λ b. or_true b (is_among x us)) (eq-eqb u x same)
among_at (u ∷ us) (suc i) x e = or_any (nat_eq u x) (is_among x us) (among_at us i x e)

at_among : (x : ℕ) (xs : List ℕ) → is_among x xs ≡ true → (i : ℕ) × (slice_get xs i ≡ Some x)
at_among x [] e = let bad : ⊥ = cc in absurd bad
at_among x (u ∷ us) e = go (nat_eq u x) refl (at_among x us)
  where
    go : (b : Bool) → nat_eq u x ≡ b → (is_among x us ≡ true → (i : ℕ) × (slice_get us i ≡ Some x)) → (i : ℕ) × (slice_get (u ∷ us) i ≡ Some x)
    go true here more = (zero, ap Some (eqb-true u x here))
    go false here more = let rest = more (subst (λ b. or_true b (is_among x us) ≡ true) here e) in (suc rest.0, rest.1)

same_test : (a b : Bool) → (a ≡ true → b ≡ true) → (b ≡ true → a ≡ true) → a ≡ b
same_test true b f g = sym (f refl)
same_test false true f g = g refl
same_test false false f g = refl

-- numbers that a function tells apart are among others just where their values are
among_map : (f : ℕ → ℕ) (n : ℕ) (xs : List ℕ) → ((i x : ℕ) → slice_get xs i ≡ Some x → f x ≡ f n → x ≡ n) → is_among n xs ≡ is_among (f n) (map f xs)
among_map f n [] one = refl
among_map f n (x ∷ xs) one =
    let here : nat_eq x n ≡ nat_eq (f x) (f n) = same_test (nat_eq x n) (nat_eq (f x) (f n))
    (λ e. eq-eqb (f x) (f n) (ap f (eqb-true x n e))) (λ e. eq-eqb x n (one 0 x refl (eqb-true (f x) (f n) e))) in
    let rest : is_among n xs ≡ is_among (f n) (map f xs) = among_map f n xs (λ i y at. one (suc i) y at) in
    ap (λ b. or_true b (is_among n xs)) here ∙ ap (or_true (nat_eq (f x) (f n))) rest

body_map : (f : ℕ → ℕ) (bodies : List (List ℕ)) (k : ℕ) → body_of (map (λ body. map f body) bodies) k ≡ map f (body_of bodies k)
body_map f [] k = refl
body_map f (b ∷ bs) zero = refl
body_map f (b ∷ bs) (suc k) = body_map f bs k

-- ---- bodies

module _ (v : FlowGraph) (t : LoopView) (extent : ℕ → ℕ → Bool) (flow : IsFlowGraph v) (tree : IsLoopTree v extent t) where
  node_here : (k : ℕ) → k < length v.code.nodes → slice_get v.code.nodes k ≡ Some (node_address v k)
  node_here k lt = slice_get-get_or v.code.nodes k 0 lt

  same_node : (i j : ℕ) → i < length v.code.nodes → j < length v.code.nodes → node_address v i ≡ node_address v j → i ≡ j
  same_node i j il jl same = one_number v flow i j (node_address v j) (node_here i il ∙ ap Some same) (node_here j jl)

  -- a node is in a body just where its number is among those of the body
  inside_same : (k n : ℕ) → k < length t.headers → n < length v.code.nodes → is_among n (body_of t.bodies k) ≡ (loops v t).inside k (node_address v n)
  inside_same k n kl nl =
      among_map (node_address v) n (body_of t.bodies k) (λ i x at same. same_node x n ((tree.body k kl).within i x at) nl same)
      ∙ ap (is_among (node_address v n)) (sym (body_map (node_address v) t.bodies k))

  -- the node at a place of a body is a node of the graph, and in it
  pub place_node : (k i : ℕ) → k < length t.headers → i < length (body_of t.bodies k) → number_in_place (body_of t.bodies k) i < length v.code.nodes
  place_node k i kl il = (tree.body k kl).within i (number_in_place (body_of t.bodies k) i) (slice_get-get_or (body_of t.bodies k) i 0 il)

  pub place_inside : (k i : ℕ) → k < length t.headers → i < length (body_of t.bodies k) → (loops v t).inside k (node_address v (number_in_place (body_of t.bodies k) i)) ≡ true
  place_inside k i kl il =
      sym (inside_same k (number_in_place (body_of t.bodies k) i) kl (place_node k i kl il)) ∙ among_at (body_of t.bodies k) i (number_in_place (body_of t.bodies k) i) (slice_get-get_or (body_of t.bodies k) i 0 il)

  -- and each node that is in it stands at a place
  pub inside_place : (k at : ℕ) → (loops v t).inside k at ≡ true → (i : ℕ) × (i < length (body_of t.bodies k)) × (at ≡ node_address v (number_in_place (body_of t.bodies k) i))
  inside_place k at in_k =
      let among : is_among at (map (node_address v) (body_of t.bodies k)) ≡ true = subst (λ (xs : List ℕ). is_among at xs ≡ true) (body_map (node_address v) t.bodies k) in_k in
      let i = at_among at (map (node_address v) (body_of t.bodies k)) among in
      let within : i.0 < length (map (node_address v) (body_of t.bodies k)) = slice_get_within (map (node_address v) (body_of t.bodies k)) i.0 at i.1 in
      let size : length (map (node_address v) (body_of t.bodies k)) ≡ length (body_of t.bodies k) = length-map (body_of t.bodies k) (node_address v) in
      let low : i.0 < length (body_of t.bodies k) = omega arith in
      let here : slice_get (map (node_address v) (body_of t.bodies k)) i.0 ≡ Some (node_address v (number_in_place (body_of t.bodies k) i.0)) =
      slice_get-map (node_address v) (body_of t.bodies k) i.0 ∙ ap (option_map (node_address v)) (slice_get-get_or (body_of t.bodies k) i.0 0 low) in
      (i.0, low, same_Some at _ (sym i.1 ∙ here))

  -- an edge from the body to a node leaves the loop just where the node isn't in the body
  pub leaves_is : (k e n : ℕ) → k < length t.headers → n < length v.code.nodes → (loops v t).inside k ((graph v).source e) ≡ true → (graph v).target e ≡ slice_get v.code.nodes n
      → leaves (loops v t) k ((graph v).source e) ((graph v).target e) ≡ not (is_among n (body_of t.bodies k))
  leaves_is k e n kl nl from to =
      ap (leaves (loops v t) k ((graph v).source e)) (to ∙ node_here n nl) ∙ ap (λ b. b && not ((loops v t).inside k (node_address v n))) from ∙ ap not (sym (inside_same k n kl nl))

  -- ---- ways out

  way_from : (k e : ℕ) (p : Option ℕ) → leaves (loops v t) k ((graph v).source e) p ≡ true → (loops v t).inside k ((graph v).source e) ≡ true
  way_from k e None out = let bad : ⊥ = cc in absurd bad
  way_from k e (Some w) out = (and_parts ((loops v t).inside k ((graph v).source e)) (not ((loops v t).inside k w)) out).0

  -- each way out starts at a node of the body
  pub among_all : (k e : ℕ) → IsWayOut v t k e → IsWayAmong v t k (length (body_of t.bodies k)) e
  among_all k e way =
      let p = inside_place k ((graph v).source e) (way_from k e ((graph v).target e) way.leaves) in
      record { way = way; place = p.0; before = p.1; starts = p.2 }

pub among_none : (v : FlowGraph) (t : LoopView) (k e : ℕ) → IsWayAmong v t k 0 e → ⊥
among_none v t k e way = let low = way.before in let bad : ⊥ = omega (arith, low) in bad

-- the edges of a node of the body
pub edges_here : (v : FlowGraph) (t : LoopView) (k i first end : ℕ) (body : List ℕ) → body ≡ body_of t.bodies k
    → ((e : ℕ) → e < length v.code.edges → (edge_at (slice_get v.code.edges e) ≡ slice_index v.code.nodes (number_in_place body i)) ↔ ((first ≤ e) × (e < end)))
    → (e : ℕ) → e < length v.code.edges → ((graph v).source e ≡ node_address v (number_in_place (body_of t.bodies k) i)) ↔ ((first ≤ e) × (e < end))
edges_here v t k i first end body same are e lt =
    subst (λ (b : List ℕ). (edge_at (slice_get v.code.edges e) ≡ slice_index v.code.nodes (number_in_place b i)) ↔ ((first ≤ e) × (e < end))) same (are e lt)

-- ---- the ways out so far

pub none_so_far : (v : FlowGraph) (t : LoopView) (k n first e : ℕ) → IsWaySoFar v t k n first first e → IsWayAmong v t k n e
none_so_far v t k n first e far = ⊎_elim
    (λ (among : IsWayAmong v t k n e). among)
    (λ (here : IsWayOut v t k e × (first ≤ e) × (e < first)). let le = here.1 in let lt = here.2 in let bad : ⊥ = omega (arith, le, lt) in absurd bad)
    far

pub more_so_far : (v : FlowGraph) (t : LoopView) (k n first end e : ℕ) → IsWaySoFar v t k n first end e → IsWaySoFar v t k n first (end + 1) e
more_so_far v t k n first end e far = ⊎_elim
    (λ (among : IsWayAmong v t k n e). inl among)
    (λ (here : IsWayOut v t k e × (first ≤ e) × (e < end)). let lt = here.2 in inr ((here.0, here.1, (let h : e < end + 1 = omega (arith, lt) in h))))
    far

pub last_so_far : (v : FlowGraph) (t : LoopView) (k n first end e : ℕ) → IsWaySoFar v t k n first (end + 1) e → IsWaySoFar v t k n first end e ⊎ ((e ≡ end) × IsWayOut v t k e)
last_so_far v t k n first end e far = ⊎_elim
    (λ (among : IsWayAmong v t k n e). inl (inl among))
    (λ (here : IsWayOut v t k e × (first ≤ e) × (e < end + 1)). let lt = here.2 in ⊎_elim
    (λ (below : e < end). inl (inr ((here.0, here.1, below))))
    (λ (ge : end ≤ e). inr ((let h : e ≡ end = omega (arith, lt, ge) in h), here.0))
    (cases_lt e end))
    far

-- one node more: its edges are those from a number on and below another
pub so_far_among : (v : FlowGraph) (t : LoopView) (k n first end e : ℕ) → (IsWayOut v t k e → first ≤ e → e < end → (graph v).source e ≡ node_address v (number_in_place (body_of t.bodies k) n))
    → IsWaySoFar v t k n first end e → IsWayAmong v t k (n + 1) e
so_far_among v t k n first end e own far = ⊎_elim
    (λ (among : IsWayAmong v t k n e). let lt = among.before in record { way = among.way; place = among.place; before = (let h : among.place < n + 1 = omega (arith, lt) in h); starts = among.starts })
    (λ (here : IsWayOut v t k e × (first ≤ e) × (e < end)). record { way = here.0; place = n; before = (let h : n < n + 1 = omega arith in h); starts = own here.0 here.1 here.2 })
    far

pub among_so_far : (v : FlowGraph) (t : LoopView) (k n first end e : ℕ) → (IsWayOut v t k e → (graph v).source e ≡ node_address v (number_in_place (body_of t.bodies k) n) → (first ≤ e) × (e < end))
    → IsWayAmong v t k (n + 1) e → IsWaySoFar v t k n first end e
among_so_far v t k n first end e own among =
    let lt = among.before in ⊎_elim
    (λ (below : among.place < n). inl (record { way = among.way; place = among.place; before = below; starts = among.starts }))
    (λ (ge : n ≤ among.place). let same : among.place ≡ n = omega (arith, lt, ge) in
    let here = own among.way (among.starts ∙ ap (λ p. node_address v (number_in_place (body_of t.bodies k) p)) same) in inr ((among.way, here.0, here.1)))
    (cases_lt among.place n)
