-- The cycles of the bodies of loops, and those of functions and loops with all that they call.
use Rattle.std.proofs.Common.{Result, Ok, Err, Vec, ◌≡◌, ℕ, zero, suc, ◌+◌, ◌*◌, ◌<◌, ◌≤◌, Bool, true, false, nat_eq, List, [], ◌∷◌, map, length, Option, Some, None, slice_get, option_map, refl, sym, ap, ap₂, ◌∙◌, subst, arith, ⊎_elim, eqb-true, eq-eqb}
use Rattle.std.specs.Prelude.{IfOk, IfSome}
use Rattle.std.specs.declared.alloc.Global.{Global}
use Rattle.scale_base.specs.declared.refusal.NoMemory.{NoMemory}
use Rattle.std.proofs.lemmas.Bool.{cases_lt}
use Rattle.std.proofs.lemmas.Option.{slice_get-get_or, get_or_from_slice_get, slice_get-map}
use Rattle.cost_theory.specs.Graph.{total, sum_below, only}
use Rattle.cost_theory.specs.Worst.{Numbers, at_some}
use Rattle.cost_theory.specs.Lists.{or_true, is_among, body_of}
use Rattle.cost_theory.proofs.Laws.{sum-same, sum-none}
use Rattle.graph_algorithms.specs.Arcs.{number_in_place}
use Rattle.flow_graph.specs.FlowGraph.{FlowGraph, graph, IsFlowGraph}
use Rattle.loop_forest.specs.Found.{IsAscending}
use Rattle.loop_forest.specs.Noted.{node_address}
use Rattle.loop_forest.specs.Tree.{LoopView, loops, IsLoopTree}
use Rattle.loop_forest.proofs.Laws.{among_at, at_among, one_number}
use Rattle.walk_laws.specs.Walks.{Walks, is_number}
use Rattle.walk_laws.proofs.Laws.{sum-add, Each, each_map, total_same, total_counted, IsExact, exact_walk, called_exact}
use Rattle.worst_walks.specs.declared.counts.WalkCounts.{WalkCounts}
use Rattle.worst_walks.specs.declared.whole.WholeCycles.{WholeCycles}
use Rattle.worst_walks.specs.Explained.{IsWorstWalk, calls_of}
use Rattle.worst_walks.specs.Tallies.{IsTally, key_at}
use Rattle.worst_walks.specs.Whole.{AreWholeCycles, AreWorstOf, IsSourceKey, body_cycles, body_taken, listed_cost}
use Rattle.worst_walks.proofs.EnterLaws.{loop_count, loop_below, among_inside}
use Rattle.worst_walks.proofs.WalkLaws.{same_test}

-- ---- the cycles of some nodes

-- whether a key is among some numbers
abbrev pub is_key_among : Option ℕ → List ℕ → Bool
is_key_among None xs = false
is_key_among (Some i) xs = is_among i xs

ascending_tail : (n u : ℕ) (us : List ℕ) → IsAscending n (u ∷ us) → IsAscending n us
ascending_tail n u us up = record { within = λ i x at. up.within (suc i) x at; ascending = λ i j x y lt p q. up.ascending (suc i) (suc j) x y (omega arith) p q }

ascending_apart : (n u : ℕ) (us : List ℕ) → IsAscending n (u ∷ us) → is_among u us ≡ false
ascending_apart n u us up = go (is_among u us) refl
  where
    go : (b : Bool) → is_among u us ≡ b → b ≡ false
    go false is = refl
    go true is =
        let at = at_among us u is in
        let low : u < u = up.ascending 0 (suc at.0) u u (omega arith) refl at.1 in
        absurd (omega arith)

nothing_taken : (o : Option ℕ) (t c : ℕ) → t * only (is_key_among o []) c ≡ 0
nothing_taken None t c = omega arith
nothing_taken (Some i) t c = omega arith

eq_swap : (i u : ℕ) → nat_eq i u ≡ nat_eq u i
eq_swap i u = same_test (nat_eq i u) (nat_eq u i) (λ h. eq-eqb u i (sym (eqb-true i u h))) (λ h. eq-eqb i u (sym (eqb-true u i h)))

joined : (u : ℕ) (us : List ℕ) → is_among u us ≡ false → (o : Option ℕ) (t c : ℕ) → t * only (is_number u o) c + t * only (is_key_among o us) c ≡ t * only (is_key_among o (u ∷ us)) c
joined u us apart None t c = omega arith
joined u us apart (Some i) t c = ap (λ b. t * only b c + t * only (is_among i us) c) (eq_swap i u) ∙ at (nat_eq u i) refl
  where
    at : (b : Bool) → nat_eq u i ≡ b → t * only b c + t * only (is_among i us) c ≡ t * only (or_true b (is_among i us)) c
    at true eq =
        let out : is_among i us ≡ false = subst (λ x. is_among x us ≡ false) (eqb-true u i eq) apart in
        ap (λ b. t * c + t * only b c) out ∙ (omega arith)
    at false eq = omega arith

pub key_sum : (n : ℕ) (nodes : List (Option ℕ)) (times costs by_node body : List ℕ) → IsTally n nodes times costs by_node → IsAscending n body →
    total (number_in_place by_node) body ≡ sum_below (length nodes) (λ e. number_in_place times e * only (is_key_among (key_at nodes e) body) (number_in_place costs e))
key_sum n nodes times costs by_node [] tally up =
    sym (sum-none (length nodes) (λ e. number_in_place times e * only (is_key_among (key_at nodes e) []) (number_in_place costs e)) (λ e el. nothing_taken (key_at nodes e) (number_in_place times e) (number_in_place costs e)))
key_sum n nodes times costs by_node (u ∷ us) tally up =
    let one : ℕ → ℕ = λ e. number_in_place times e * only (is_number u (key_at nodes e)) (number_in_place costs e) in
    let rest : ℕ → ℕ = λ e. number_in_place times e * only (is_key_among (key_at nodes e) us) (number_in_place costs e) in
    let all : ℕ → ℕ = λ e. number_in_place times e * only (is_key_among (key_at nodes e) (u ∷ us)) (number_in_place costs e) in
    let ih : total (number_in_place by_node) us ≡ sum_below (length nodes) rest = key_sum n nodes times costs by_node us tally (ascending_tail n u us up) in
    let here : number_in_place by_node u ≡ sum_below (length nodes) one = tally.each u (up.within 0 u refl) in
    let add : sum_below (length nodes) (λ e. one e + rest e) ≡ sum_below (length nodes) one + sum_below (length nodes) rest = sum-add (length nodes) one rest in
    let both : sum_below (length nodes) (λ e. one e + rest e) ≡ sum_below (length nodes) all =
    sum-same (length nodes) (λ e. one e + rest e) all (λ e el. joined u us (ascending_apart n u us up) (key_at nodes e) (number_in_place times e) (number_in_place costs e)) in
    ap₂ (λ x y. x + y) here ih ∙ sym add ∙ both

-- the addresses of a body
body_map : (v : FlowGraph) (bodies : List (List ℕ)) (k : ℕ) → body_of (map (λ body. map (node_address v) body) bodies) k ≡ map (node_address v) (body_of bodies k)
body_map v [] k = refl
body_map v (b ∷ bs) zero = refl
body_map v (b ∷ bs) (suc k) = body_map v bs k

module _ (v : FlowGraph) (t : LoopView) (extent : ℕ → ℕ → Bool) (flow : IsFlowGraph v) (is : IsLoopTree v extent t) where
  -- a node in a body has its number among those of the body
  pub inside_among : (k i at : ℕ) → k < length t.headers → slice_get v.code.nodes i ≡ Some at → (loops v t).inside k at ≡ true → is_among i (body_of t.bodies k) ≡ true
  inside_among k i at kl here inside =
      let mapped : is_among at (map (node_address v) (body_of t.bodies k)) ≡ true = subst (λ (xs : List ℕ). is_among at xs ≡ true) (body_map v t.bodies k) inside in
      let found = at_among (map (node_address v) (body_of t.bodies k)) at mapped in
      let there : option_map (node_address v) (slice_get (body_of t.bodies k) found.0) ≡ Some at = sym (slice_get-map (node_address v) (body_of t.bodies k) found.0) ∙ found.1 in
      go found.0 (slice_get (body_of t.bodies k) found.0) refl there
    where
      go : (j : ℕ) (o : Option ℕ) → slice_get (body_of t.bodies k) j ≡ o → option_map (node_address v) o ≡ Some at → is_among i (body_of t.bodies k) ≡ true
      go j None at_j e = let bad : ⊥ = cc in absurd bad
      go j (Some u) at_j e =
          let low : u < length v.code.nodes = (is.body k kl).within j u at_j in
          let named : slice_get v.code.nodes u ≡ Some (node_address v u) = slice_get-get_or v.code.nodes u 0 low in
          let same : i ≡ u = one_number v flow i u at here (named ∙ e) in
          among_at (body_of t.bodies k) j i (at_j ∙ ap Some (sym same))

  key_inside : (k e : ℕ) (o : Option ℕ) → k < length t.headers → IsSourceKey v e o → is_key_among o (body_of t.bodies k) ≡ (loops v t).inside k ((graph v).source e)
  key_inside k e o kl key =
      ap (λ p. is_key_among p (body_of t.bodies k)) key.1 ∙
      same_test (is_among key.0 (body_of t.bodies k)) ((loops v t).inside k ((graph v).source e))
      (λ h. among_inside v t extent is k key.0 ((graph v).source e) key.2 h) (λ h. inside_among k key.0 ((graph v).source e) kl key.2 h)

  -- the cycles of the nodes of a body are those of the edges that start there
  pub body_sum : (w : ℕ → ℕ) (table taken costs by_node : List ℕ) (nodes : List (Option ℕ)) (k : ℕ) → k < length t.headers → length nodes ≡ length v.code.edges →
      ((e : ℕ) → e < length v.code.edges → IsSourceKey v e (key_at nodes e)) → ((e : ℕ) → e < length v.code.edges → number_in_place costs e ≡ listed_cost (graph v) w table e) →
      IsTally (length v.code.nodes) nodes taken costs by_node → total (number_in_place by_node) (body_of t.bodies k) ≡ body_taken v t w table taken k
  body_sum w table taken costs by_node nodes k kl size keys cost_is tally =
      key_sum (length v.code.nodes) nodes taken costs by_node (body_of t.bodies k) tally (is.body k kl) ∙
      ap (λ n. sum_below n (λ e. number_in_place taken e * only (is_key_among (key_at nodes e) (body_of t.bodies k)) (number_in_place costs e))) size ∙
      sum-same (length v.code.edges) (λ e. number_in_place taken e * only (is_key_among (key_at nodes e) (body_of t.bodies k)) (number_in_place costs e))
      (λ e. number_in_place taken e * only ((loops v t).inside k ((graph v).source e)) (listed_cost (graph v) w table e))
      (λ e el. ap (λ x. number_in_place taken e * x) (ap₂ only (key_inside k e (key_at nodes e) kl (keys e el)) (cost_is e el)))

  -- ---- along a walk that takes the worst cycles

  module _ (w : ℕ → ℕ) (table : List ℕ) (worst : ℕ) (x : WalkCounts) (tops : AreWorstOf (graph v) (loops v t) w table) (top : slice_get table 0 ≡ Some worst) (walk : IsWorstWalk (graph v) (loops v t) w worst x) where
    abbrev n : Numbers
    n = tops.numbers

    abbrev s : Walks
    s = walk.walks

    listed : (f : ℕ) → f < length v.code.functions → number_in_place table f ≡ n.worst f
    listed f fl = get_or_from_slice_get table f (n.worst f) 0 (tops.each f fl)

    first : total w (s.whole 0) ≡ n.worst 0
    first = walk.takes ∙ sym (get_or_from_slice_get table 0 worst 0 top) ∙ listed 0 flow.program.main

    exact : Each (IsExact (graph v) (loops v t) w n s flow.program walk.walked tops.are.worst) (s.whole 0)
    exact = exact_walk (graph v) (loops v t) w n s flow.program walk.walked tops.are.worst first

    pub function_whole : (f : ℕ) → f < length v.code.functions → number_in_place x.calls.items f * number_in_place table f ≡ number_in_place x.calls.items f * total w (s.whole f)
    function_whole f fl = ⊎_elim
        (λ (some : 0 < total (calls_of (graph v) f) (s.whole 0)).
        ap (λ y. number_in_place x.calls.items f * y) (listed f fl ∙ sym (called_exact (graph v) (loops v t) w n s flow.program walk.walked tops.are.worst f (s.whole 0) exact some)))
        (λ (none : total (calls_of (graph v) f) (s.whole 0) ≤ 0). uncalled f fl (nat_eq f 0) refl none)
        (cases_lt 0 (total (calls_of (graph v) f) (s.whole 0)))
      where
        uncalled : (f : ℕ) → f < length v.code.functions → (b : Bool) → nat_eq f 0 ≡ b → total (calls_of (graph v) f) (s.whole 0) ≤ 0 →
            number_in_place x.calls.items f * number_in_place table f ≡ number_in_place x.calls.items f * total w (s.whole f)
        uncalled f fl true eq none =
            let zero_is : f ≡ 0 = eqb-true f 0 eq in
            ap (λ y. number_in_place x.calls.items f * y) (listed f fl ∙ ap n.worst zero_is ∙ sym first ∙ ap (λ h. total w (s.whole h)) (sym zero_is))
        uncalled f fl false eq none =
            let count : number_in_place x.calls.items f ≡ total (calls_of (graph v) f) (s.whole 0) + only (nat_eq f 0) 1 = walk.calls f fl in
            let more : only (nat_eq f 0) 1 ≡ 0 = ap (λ b. only b 1) eq in
            let no : number_in_place x.calls.items f ≡ 0 = omega arith in
            ap (λ y. y * number_in_place table f) no ∙ (omega arith) ∙ ap (λ y. y * total w (s.whole f)) (sym no)

    edge_whole : (e : ℕ) → (e < length v.code.edges) × ((f : ℕ) → (graph v).callee e ≡ Some f → total w (s.whole f) ≡ n.worst f) →
        listed_cost (graph v) w table e ≡ w e + at_some ((graph v).callee e) (λ f. total w (s.whole f))
    edge_whole e is = go ((graph v).callee e) refl
      where
        go : (o : Option ℕ) → (graph v).callee e ≡ o → w e + at_some o (number_in_place table) ≡ w e + at_some o (λ f. total w (s.whole f))
        go None call = refl
        go (Some h) call = ap (λ y. w e + y) (listed h (flow.program.callee_function e h is.0 call) ∙ sym (is.1 h call))

    pub loop_whole : (k : ℕ) → body_taken v t w table x.taken.items k ≡ total (body_cycles (graph v) (loops v t) s w k) (s.whole 0)
    loop_whole k =
        let cost : ℕ → ℕ = λ e. only ((loops v t).inside k ((graph v).source e)) (listed_cost (graph v) w table e) in
        sum-same (length v.code.edges) (λ e. number_in_place x.taken.items e * cost e) (λ e. total (λ d. only (nat_eq d e) 1) (s.whole 0) * cost e)
        (λ e el. ap (λ y. y * cost e) (walk.taken.each e el)) ∙
        sym (total_counted (length v.code.edges) cost (s.whole 0) (each_map _ (λ e. e < length v.code.edges) (λ e is. is.0) (s.whole 0) exact)) ∙
        total_same cost (body_cycles (graph v) (loops v t) s w k) (s.whole 0)
        (each_map _ (λ e. cost e ≡ body_cycles (graph v) (loops v t) s w k e) (λ e is. ap (only ((loops v t).inside k ((graph v).source e))) (edge_whole e is)) (s.whole 0) exact)

    pub whole_is : (all : WholeCycles) → length all.functions.items ≡ length x.calls.items → length x.calls.items ≡ length v.code.functions →
        ((f : ℕ) → f < length x.calls.items → number_in_place all.functions.items f ≡ number_in_place x.calls.items f * number_in_place table f) →
        length all.loops.items ≡ length t.headers → ((k : ℕ) → k < length t.headers → number_in_place all.loops.items k ≡ body_taken v t w table x.taken.items k) →
        AreWholeCycles (graph v) (loops v t) w walk.walks x all
    whole_is all functions_size calls_size functions_are loops_size loops_are = record {
      size = functions_size ∙ calls_size;
      functions = λ f fl. functions_are f (let lt : f < length v.code.functions = fl in omega (arith, calls_size, lt)) ∙ function_whole f fl;
      loops = record { size = loops_size ∙ sym (loop_count v t extent is); each = λ k kl. loops_are k (loop_below v t extent is k kl) ∙ loop_whole k };
    }

-- tables that are the same number by number
pub sums_are : (result : Result (Option (Vec ℕ Global)) NoMemory) (n : ℕ) (one other : ℕ → ℕ) → ((k : ℕ) → k < n → one k ≡ other k) →
    IfOk result (λ o. IfSome o (λ sums. (k : ℕ) → k < n → number_in_place sums.items k ≡ one k)) → IfOk result (λ o. IfSome o (λ sums. (k : ℕ) → k < n → number_in_place sums.items k ≡ other k))
sums_are (Ok None) n one other same h = tt
sums_are (Ok (Some sums)) n one other same h = λ k kl. h k kl ∙ same k kl
sums_are (Err e) n one other same h = tt
