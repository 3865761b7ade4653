-- The headers and bodies of a tree's loops, by the numbers of nodes.
use Rattle.std.proofs.Common.{◌≡◌, ℕ, zero, suc, ◌<◌, Bool, true, false, List, [], ◌∷◌, map, length, Option, Some, None, slice_get, nat_eq, option_map, slice_index_or, refl, sym, ap, ◌∙◌, subst, arith}
use Rattle.std.proofs.lemmas.Bool.{eqb-true, eq-eqb}
use Rattle.std.proofs.lemmas.List.{length-map}
use Rattle.std.proofs.lemmas.Option.{slice_get-get_or, slice_get_within, get_or_from_slice_get, slice_get-map, same_Some}
use Rattle.graph_algorithms.specs.Arcs.{number_in_place}
use Rattle.cost_theory.specs.Graph.{IsPlain, is_back}
use Rattle.cost_theory.specs.Lists.{or_true, is_among, body_of}
use Rattle.flow_graph.specs.FlowGraph.{FlowGraph, graph, IsFlowGraph}
use Rattle.loop_forest.specs.Noted.{node_address}
use Rattle.loop_forest.proofs.Laws.{one_number}
use Rattle.loop_forest.specs.Arcs.{IsPlainBy}
use Rattle.loop_forest.specs.Tree.{LoopView, loops, IsLoopTree}

-- ---- elements

or_any : (b c : Bool) → c ≡ true → or_true b c ≡ true
or_any true c e = refl
or_any false c e = e

among_at : (xs : List ℕ) (i x : ℕ) → slice_get xs i ≡ Some x → is_among x xs ≡ true
among_at [] i x e = let bad : ⊥ = cc in absurd bad
among_at (u ∷ us) zero x e = let same : u ≡ x = same_Some u x e in ap (λ b. or_true b (is_among x us)) (eq-eqb u x same)
among_at (u ∷ us) (suc i) x e = or_any (nat_eq u x) (is_among x us) (among_at us i x e)

at_among : (x : ℕ) (xs : List ℕ) → is_among x xs ≡ true → (i : ℕ) × (slice_get xs i ≡ Some x)
at_among x [] e = let bad : ⊥ = cc in absurd bad
at_among x (u ∷ us) e = go (nat_eq u x) refl (at_among x us)
  where
    go : (b : Bool) → nat_eq u x ≡ b → (is_among x us ≡ true → (i : ℕ) × (slice_get us i ≡ Some x)) → (i : ℕ) × (slice_get (u ∷ us) i ≡ Some x)
    go true here more = (zero, ap Some (eqb-true u x here))
    go false here more = let rest = more (subst (λ b. or_true b (is_among x us) ≡ true) here e) in (suc rest.0, rest.1)

body_map : (f : ℕ → ℕ) (bodies : List (List ℕ)) (k : ℕ) → body_of (map (λ body. map f body) bodies) k ≡ map f (body_of bodies k)
body_map f [] k = refl
body_map f (b ∷ bs) zero = refl
body_map f (b ∷ bs) (suc k) = body_map f bs k

-- ---- bodies

-- a number of the body is one of a node in it,
pub inside_at : (v : FlowGraph) (t : LoopView) (k i : ℕ) → i < length (body_of t.bodies k) → (loops v t).inside k (node_address v (number_in_place (body_of t.bodies k) i)) ≡ true
inside_at v t k i lt =
    let at : slice_get (map (node_address v) (body_of t.bodies k)) i ≡ Some (node_address v (number_in_place (body_of t.bodies k) i)) =
    slice_get-map (node_address v) (body_of t.bodies k) i ∙ ap (option_map (node_address v)) (slice_get-get_or (body_of t.bodies k) i 0 lt) in
    subst (λ (xs : List ℕ). is_among (node_address v (number_in_place (body_of t.bodies k) i)) xs ≡ true) (sym (body_map (node_address v) t.bodies k)) (among_at (map (node_address v) (body_of t.bodies k)) i _ at)

-- and a node in it has a number of the body
pub number_inside : (v : FlowGraph) (t : LoopView) (k at : ℕ) → (loops v t).inside k at ≡ true → (i : ℕ) × (i < length (body_of t.bodies k)) × (at ≡ node_address v (number_in_place (body_of t.bodies k) i))
number_inside v t k at in_k =
    let among : is_among at (map (node_address v) (body_of t.bodies k)) ≡ true = subst (λ (xs : List ℕ). is_among at xs ≡ true) (body_map (node_address v) t.bodies k) in_k in
    let i = at_among at (map (node_address v) (body_of t.bodies k)) among in
    let within : i.0 < length (map (node_address v) (body_of t.bodies k)) = slice_get_within (map (node_address v) (body_of t.bodies k)) i.0 at i.1 in
    let size : length (map (node_address v) (body_of t.bodies k)) ≡ length (body_of t.bodies k) = length-map (body_of t.bodies k) (node_address v) in
    let low : i.0 < length (body_of t.bodies k) = omega arith in
    let here : slice_get (map (node_address v) (body_of t.bodies k)) i.0 ≡ Some (node_address v (number_in_place (body_of t.bodies k) i.0)) =
    slice_get-map (node_address v) (body_of t.bodies k) i.0 ∙ ap (option_map (node_address v)) (slice_get-get_or (body_of t.bodies k) i.0 0 low) in
    (i.0, low, same_Some at _ (sym i.1 ∙ here))

-- ---- nodes by their addresses

pub node_here : (v : FlowGraph) (k : ℕ) → k < length v.code.nodes → slice_get v.code.nodes k ≡ Some (node_address v k)
node_here v k lt = slice_get-get_or v.code.nodes k 0 lt

pub same_node : (v : FlowGraph) → IsFlowGraph v → (i j : ℕ) → i < length v.code.nodes → j < length v.code.nodes → node_address v i ≡ node_address v j → i ≡ j
same_node v flow i j il jl same = one_number v flow i j (node_address v j) (node_here v i il ∙ ap Some same) (node_here v j jl)

-- ---- headers

pub loop_count : (v : FlowGraph) (t : LoopView) → (loops v t).loops ≡ length t.headers
loop_count v t = length-map t.headers (node_address v)

pub header_number : (v : FlowGraph) (t : LoopView) (extent : ℕ → ℕ → Bool) → IsLoopTree v extent t → (k : ℕ) → k < length t.headers → number_in_place t.headers k < length v.code.nodes
header_number v t extent is k lt = is.header k (number_in_place t.headers k) (slice_get-get_or t.headers k 0 lt)

pub header_address : (v : FlowGraph) (t : LoopView) (k : ℕ) → k < length t.headers → (loops v t).header k ≡ node_address v (number_in_place t.headers k)
header_address v t k lt = get_or_from_slice_get (map (node_address v) t.headers) k _ 0 (slice_get-map (node_address v) t.headers k ∙ ap (option_map (node_address v)) (slice_get-get_or t.headers k 0 lt))

-- ---- plain edges

-- a plain edge is no back edge by the list,
pub by_plain : (v : FlowGraph) (t : LoopView) (extent : ℕ → ℕ → Bool) → IsLoopTree v extent t → (e : ℕ) → e < length v.code.edges → IsPlain (graph v) (loops v t) e → IsPlainBy t.backs e
by_plain v t extent is e lt plain =
    let size = is.backs_size in
    let low : e < length t.backs = omega arith in
    go (slice_index_or t.backs e None) (slice_get-get_or t.backs e None low)
  where
    go : (o : Option ℕ) → slice_get t.backs e ≡ Some o → IsPlainBy t.backs e
    go None here = here
    go (Some k) here =
        let back = (is.backs e k).0 here in
        let count = loop_count v t in
        let low : k < length t.headers = back.1 in
        let within : k < (loops v t).loops = omega arith in
        let not : is_back (graph v) (loops v t) k e ≡ false = plain k within in
        let is_one : is_back (graph v) (loops v t) k e ≡ true = back.2 in
        let bad : ⊥ = cc in absurd bad

-- and an edge of which the list has a loop is a back edge of that loop and not plain
pub back_by : (v : FlowGraph) (t : LoopView) (extent : ℕ → ℕ → Bool) → IsLoopTree v extent t → (e k : ℕ) → slice_get t.backs e ≡ Some (Some k) →
    (k < (loops v t).loops) × (is_back (graph v) (loops v t) k e ≡ true) × (IsPlain (graph v) (loops v t) e → ⊥)
back_by v t extent is e k here =
    let back = (is.backs e k).0 here in
    let count = loop_count v t in
    let low : k < length t.headers = back.1 in
    let within : k < (loops v t).loops = omega arith in
    let is_one : is_back (graph v) (loops v t) k e ≡ true = back.2 in
    (within, is_one, λ plain. let not : is_back (graph v) (loops v t) k e ≡ false = plain k within in let bad : ⊥ = cc in bad)
