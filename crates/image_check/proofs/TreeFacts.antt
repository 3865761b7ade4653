-- Edges that leave loops and turn them back, by the numbers of nodes and loops.
use Rattle.std.proofs.Common.{◌≡◌, ◌≢◌, ℕ, zero, suc, ◌+◌, ◌-◌, ◌<◌, ◌≤◌, ◌↔◌, Bool, true, false, not, ◌&&◌, nat_eq, List, [], ◌∷◌, map, length, slice_get, slice_index, option_map, Option, Some, None, refl, sym, ap, ◌∙◌, subst, arith, ⊎_elim, add-one, add-zero, ◌++◌, slice_set, length-append, length-set, get_or-set_same, get_or-set_other}
use Rattle.std.specs.List.{sum_by}
use Rattle.std.proofs.lemmas.Bool.{eqb-true, eq-eqb, cases_lt, both_ways}
use Rattle.std.proofs.lemmas.List.{length-map}
use Rattle.std.proofs.lemmas.List.Sums.{sum_by-cons}
use Rattle.std.proofs.lemmas.Option.{slice_get_within, slice_get-get_or, slice_get-map, same_Some}
use Rattle.cost_theory.specs.Graph.{leaves, is_back, only, sum_below}
use Rattle.cost_theory.specs.Reached.{edge_at}
use Rattle.cost_theory.specs.Lists.{or_true, is_among, body_of}
use Rattle.cost_theory.proofs.Laws.{sum-none, sum-same}
use Rattle.flow_graph.specs.FlowGraph.{FlowGraph, graph, IsFlowGraph}
use Rattle.loop_forest.specs.Noted.{node_address}
use Rattle.loop_forest.specs.Tree.{LoopView, loops, IsLoopTree}
use Rattle.loop_forest.proofs.Laws.{one_number}
use Rattle.scale_sites.specs.Marks.{numbered}
use Rattle.image_check.specs.Safe.{one_where}
use Rattle.image_check.specs.Uses.{turn_of, exit_of, exit_from, exits_at, AreTurns, AreExits}

-- ---- tests and lists

pub same_test : (a b : Bool) → (a ≡ true → b ≡ true) → (b ≡ true → a ≡ true) → a ≡ b
same_test true b f g = sym (f refl)
same_test false true f g = g refl
same_test false false f g = refl

among_map : (f : ℕ → ℕ) (n : ℕ) (xs : List ℕ) → ((i x : ℕ) → slice_get xs i ≡ Some x → f x ≡ f n → x ≡ n) → is_among n xs ≡ is_among (f n) (map f xs)
among_map f n [] one = refl
among_map f n (x ∷ xs) one =
    let here : nat_eq x n ≡ nat_eq (f x) (f n) = same_test (nat_eq x n) (nat_eq (f x) (f n))
    (λ e. eq-eqb (f x) (f n) (ap f (eqb-true x n e))) (λ e. eq-eqb x n (one 0 x refl (eqb-true (f x) (f n) e))) in
    let rest : is_among n xs ≡ is_among (f n) (map f xs) = among_map f n xs (λ i y at. one (suc i) y at) in
    ap (λ b. or_true b (is_among n xs)) here ∙ ap (or_true (nat_eq (f x) (f n))) rest

body_map : (f : ℕ → ℕ) (bodies : List (List ℕ)) (k : ℕ) → body_of (map (λ body. map f body) bodies) k ≡ map f (body_of bodies k)
body_map f [] k = refl
body_map f (b ∷ bs) zero = refl
body_map f (b ∷ bs) (suc k) = body_map f bs k

at_among : (x : ℕ) (xs : List ℕ) → is_among x xs ≡ true → (i : ℕ) × (slice_get xs i ≡ Some x)
at_among x [] e = let bad : ⊥ = cc in absurd bad
at_among x (u ∷ us) e = go (nat_eq u x) refl (at_among x us)
  where
    go : (b : Bool) → nat_eq u x ≡ b → (is_among x us ≡ true → (i : ℕ) × (slice_get us i ≡ Some x)) → (i : ℕ) × (slice_get (u ∷ us) i ≡ Some x)
    go true here more = (zero, ap Some (eqb-true u x here))
    go false here more = let rest = more (subst (λ b. or_true b (is_among x us) ≡ true) here e) in (suc rest.0, rest.1)

-- ---- sums

pub sum_plus : (n : ℕ) (f g : ℕ → ℕ) → sum_below n (λ k. f k + g k) ≡ sum_below n f + sum_below n g
sum_plus zero f g = refl
sum_plus (suc n) f g = let ih : sum_below n (λ k. f k + g k) ≡ sum_below n f + sum_below n g = sum_plus n f g in omega arith

sum_swap : (n : ℕ) (f : ℕ → ℕ → ℕ) (xs : List ℕ) → sum_by (λ x. sum_below n (f x)) xs ≡ sum_below n (λ e. sum_by (λ x. f x e) xs)
sum_swap n f [] = sym (sum-none n (λ e. 0) (λ k lt. refl))
sum_swap n f (x ∷ xs) =
    sum_by-cons (λ y. sum_below n (f y)) x xs ∙ ap (λ s. sum_below n (f x) + s) (sum_swap n f xs)
    ∙ sym (sum_plus n (f x) (λ e. sum_by (λ y. f y e) xs))
    ∙ sum-same n (λ e. f x e + sum_by (λ y. f y e) xs) (λ e. sum_by (λ y. f y e) (x ∷ xs)) (λ e lt. sym (sum_by-cons (λ y. f y e) x xs))

sum_zero : (f : ℕ → ℕ) (xs : List ℕ) → ((i x : ℕ) → slice_get xs i ≡ Some x → f x ≡ 0) → sum_by f xs ≡ 0
sum_zero f [] none = refl
sum_zero f (x ∷ xs) none =
    let here : f x ≡ 0 = none 0 x refl in
    let rest : sum_by f xs ≡ 0 = sum_zero f xs (λ i y at. none (suc i) y at) in
    omega (arith, here, rest, sum_by-cons f x xs)

sum_once : (f : ℕ → ℕ) (xs : List ℕ) (i x : ℕ) → slice_get xs i ≡ Some x → ((j y : ℕ) → slice_get xs j ≡ Some y → j ≢ i → f y ≡ 0) → sum_by f xs ≡ f x
sum_once f [] i x at others = let bad : ⊥ = cc in absurd bad
sum_once f (y ∷ ys) zero x at others =
    let same : y ≡ x = same_Some y x at in
    let rest : sum_by f ys ≡ 0 = sum_zero f ys (λ j z there. others (suc j) z there (omega arith)) in
    omega (arith, ap f same, rest, sum_by-cons f y ys)
sum_once f (y ∷ ys) (suc i) x at others =
    let here : f y ≡ 0 = others zero y refl (omega arith) in
    let rest : sum_by f ys ≡ f x = sum_once f ys i x at (λ j z there ne. others (suc j) z there (omega (arith, ne))) in
    omega (arith, here, rest, sum_by-cons f y ys)

-- ---- nodes, and the loops round them

node_here : (v : FlowGraph) (k : ℕ) → k < length v.code.nodes → slice_get v.code.nodes k ≡ Some (node_address v k)
node_here v k lt = slice_get-get_or v.code.nodes k 0 lt

module _ (v : FlowGraph) (t : LoopView) (extent : ℕ → ℕ → Bool) (flow : IsFlowGraph v) (tree : IsLoopTree v extent t) where
  same_node : (i j : ℕ) → i < length v.code.nodes → j < length v.code.nodes → node_address v i ≡ node_address v j → i ≡ j
  same_node i j il jl same = one_number v flow i j (node_address v j) (node_here v i il ∙ ap Some same) (node_here v j jl)

  inside_same : (k n : ℕ) → k < length t.headers → n < length v.code.nodes → (numbered t).inside k n ≡ (loops v t).inside k (node_address v n)
  inside_same k n kl nl =
      among_map (node_address v) n (body_of t.bodies k) (λ i x at same. same_node x n ((tree.body k kl).within i x at) nl same)
      ∙ ap (is_among (node_address v n)) (sym (body_map (node_address v) t.bodies k))

  leaves_some : (k n : ℕ) (o p : Option ℕ) → k < length t.headers → n < length v.code.nodes → ((m : ℕ) → o ≡ Some m → m < length v.code.nodes) → (o ≡ None → p ≡ None) → ((m : ℕ) → o ≡ Some m → p ≡ slice_get v.code.nodes m)
      → leaves (numbered t) k n o ≡ leaves (loops v t) k (node_address v n) p
  leaves_some k n None p kl nl ol none some = sym (ap (leaves (loops v t) k (node_address v n)) (none refl))
  leaves_some k n (Some m) p kl nl ol none some =
      ap (λ b. b && not ((numbered t).inside k m)) (inside_same k n kl nl) ∙ ap (λ b. (loops v t).inside k (node_address v n) && not b) (inside_same k m kl (ol m refl))
      ∙ sym (ap (leaves (loops v t) k (node_address v n)) (some m refl ∙ node_here v m (ol m refl)))

  -- what the edge of a graph tells
  pub leaves_edge : (k n u : ℕ) (o p : Option ℕ) → k < length t.headers → slice_get v.code.nodes n ≡ Some u → ((m : ℕ) → o ≡ Some m → m < length v.code.nodes) → (o ≡ None → p ≡ None) → ((m : ℕ) → o ≡ Some m → p ≡ slice_get v.code.nodes m)
      → leaves (numbered t) k n o ≡ leaves (loops v t) k u p
  leaves_edge k n u o p kl at ol none some =
      let nl : n < length v.code.nodes = slice_get_within v.code.nodes n u at in
      let same : node_address v n ≡ u = same_Some (node_address v n) u (sym (node_here v n nl) ∙ at) in
      leaves_some k n o p kl nl ol none some ∙ ap (λ x. leaves (loops v t) k x p) same

  -- ---- back edges

  pub back_same : (k e : ℕ) (b : Bool) → k < length t.headers → e < length v.code.edges → (b ≡ true → slice_get t.backs e ≡ Some (Some k)) → (slice_get t.backs e ≡ Some (Some k) → b ≡ true) → b ≡ is_back (graph v) (loops v t) k e
  back_same k e b kl el to from = same_test b (is_back (graph v) (loops v t) k e) (λ h. ((tree.backs e k).0 (to h)).2) (λ h. from ((tree.backs e k).1 (el, kl, h)))

  pub turn_one : (k e : ℕ) → slice_get t.backs e ≡ Some (Some k) → (k < length t.headers) × (turn_of (graph v) (loops v t) k e ≡ 1)
  turn_one k e at = let h = (tree.backs e k).0 at in (h.1, ap one_where h.2)

  pub turn_zero : (k e : ℕ) → k < length t.headers → e < length v.code.edges → (slice_get t.backs e ≡ Some (Some k) → ⊥) → turn_of (graph v) (loops v t) k e ≡ 0
  turn_zero k e kl el never = go (is_back (graph v) (loops v t) k e) refl
    where
      go : (b : Bool) → is_back (graph v) (loops v t) k e ≡ b → one_where b ≡ 0
      go true is = absurd (never ((tree.backs e k).1 (el, kl, is)))
      go false is = refl

  pub turn_back : (k e : ℕ) → k < length t.headers → e < length v.code.edges → turn_of (graph v) (loops v t) k e ≡ 1 → slice_get t.backs e ≡ Some (Some k)
  turn_back k e kl el one = go (is_back (graph v) (loops v t) k e) refl
    where
      go : (b : Bool) → is_back (graph v) (loops v t) k e ≡ b → slice_get t.backs e ≡ Some (Some k)
      go true is = (tree.backs e k).1 (el, kl, is)
      go false is = let bad : ⊥ = (let z : turn_of (graph v) (loops v t) k e ≡ 0 = ap one_where is in omega (arith, z, one)) in absurd bad

  -- ---- edges that leave a loop start at the nodes of its body

  number_inside : (k at : ℕ) → (loops v t).inside k at ≡ true → (i : ℕ) × (n : ℕ) × (slice_get (body_of t.bodies k) i ≡ Some n) × (at ≡ node_address v n)
  number_inside k at in_k =
      let among : is_among at (map (node_address v) (body_of t.bodies k)) ≡ true = subst (λ (xs : List ℕ). is_among at xs ≡ true) (body_map (node_address v) t.bodies k) in_k in
      let i = at_among at (map (node_address v) (body_of t.bodies k)) among in
      let within : i.0 < length (map (node_address v) (body_of t.bodies k)) = slice_get_within (map (node_address v) (body_of t.bodies k)) i.0 at i.1 in
      let size : length (map (node_address v) (body_of t.bodies k)) ≡ length (body_of t.bodies k) = length-map (body_of t.bodies k) (node_address v) in
      let low : i.0 < length (body_of t.bodies k) = omega arith in
      let there : slice_get (body_of t.bodies k) i.0 ≡ Some (slice_index (body_of t.bodies k) i.0) = slice_get-get_or (body_of t.bodies k) i.0 0 low in
      (i.0, slice_index (body_of t.bodies k) i.0, there, same_Some at _ (sym i.1 ∙ (slice_get-map (node_address v) (body_of t.bodies k) i.0 ∙ ap (option_map (node_address v)) there)))

  no_exit : (k e : ℕ) → (loops v t).inside k ((graph v).source e) ≡ false → exit_of (graph v) (loops v t) k e ≡ 0
  no_exit k e out = go ((graph v).target e) refl
    where
      go : (o : Option ℕ) → (graph v).target e ≡ o → exit_of (graph v) (loops v t) k e ≡ 0
      go None is = ap (λ p. one_where (leaves (loops v t) k ((graph v).source e) p)) is
      go (Some w) is = ap (λ p. one_where (leaves (loops v t) k ((graph v).source e) p)) is ∙ ap (λ b. one_where (b && not ((loops v t).inside k w))) out

  only_zero : (b : Bool) (x : ℕ) → x ≡ 0 → only b x ≡ 0
  only_zero true x e = e
  only_zero false x e = refl

  at_edge : (k e : ℕ) → k < length t.headers → sum_by (λ n. exit_from v t k n e) (body_of t.bodies k) ≡ exit_of (graph v) (loops v t) k e
  at_edge k e kl = go ((loops v t).inside k ((graph v).source e)) refl
    where
      other : (a b : ℕ) → (a ≡ b → ⊥) → nat_eq a b ≡ false
      other a b ne = false_of (nat_eq a b) refl
        where
          false_of : (q : Bool) → nat_eq a b ≡ q → q ≡ false
          false_of true is = absurd (ne (eqb-true a b is))
          false_of false is = refl

      go : (b : Bool) → (loops v t).inside k ((graph v).source e) ≡ b → sum_by (λ n. exit_from v t k n e) (body_of t.bodies k) ≡ exit_of (graph v) (loops v t) k e
      go false out =
          let none = no_exit k e out in
          sum_zero (λ n. exit_from v t k n e) (body_of t.bodies k) (λ i n at. only_zero (nat_eq ((graph v).source e) (node_address v n)) (exit_of (graph v) (loops v t) k e) none) ∙ sym none
      go true inside =
          let (i, n, at, is) = number_inside k ((graph v).source e) inside in
          sum_once (λ n. exit_from v t k n e) (body_of t.bodies k) i n at
          (λ j m there ne. ap (λ b. only b (exit_of (graph v) (loops v t) k e)) (other ((graph v).source e) (node_address v m) (λ same. distinct i j n m at there ne (sym is ∙ same))))
          ∙ ap (λ b. only b (exit_of (graph v) (loops v t) k e)) (eq-eqb ((graph v).source e) (node_address v n) is)
        where
          distinct : (i j n m : ℕ) → slice_get (body_of t.bodies k) i ≡ Some n → slice_get (body_of t.bodies k) j ≡ Some m → j ≢ i → node_address v n ≡ node_address v m → ⊥
          distinct i j n m at there ne same =
              let body = tree.body k kl in
              let one : n ≡ m = same_node n m (body.within i n at) (body.within j m there) same in
              ⊎_elim (λ (lt : i < j). let less : n < m = body.ascending i j n m lt at there in omega (arith, less, one))
              (λ (le : j ≤ i). let lt : j < i = omega (arith, le, ne) in let less : m < n = body.ascending j i m n lt there at in omega (arith, less, one)) (cases_lt i j)

  pub body_exits : (k : ℕ) → k < length t.headers → sum_by (exits_at v t k) (body_of t.bodies k) ≡ sum_below (length v.code.edges) (exit_of (graph v) (loops v t) k)
  body_exits k kl =
      sum_swap (length v.code.edges) (exit_from v t k) (body_of t.bodies k)
      ∙ sum-same (length v.code.edges) (λ e. sum_by (λ n. exit_from v t k n e) (body_of t.bodies k)) (exit_of (graph v) (loops v t) k) (λ e lt. at_edge k e kl)

  pub body_small : (k : ℕ) → k < length t.headers → sum_by (exits_at v t k) (body_of t.bodies k) ≤ length v.code.edges
  body_small k kl = subst (λ x. x ≤ length v.code.edges) (sym (body_exits k kl)) (at_most (length v.code.edges))
    where
      one_most : (b : Bool) → one_where b ≤ 1
      one_most true = omega arith
      one_most false = omega arith

      at_most : (m : ℕ) → sum_below m (exit_of (graph v) (loops v t) k) ≤ m
      at_most zero = omega arith
      at_most (suc m) = let low = at_most m in let one = one_most (leaves (loops v t) k ((graph v).source m) ((graph v).target m)) in omega (arith, low, one)

  -- ---- the edges of one node

  module _ (k n first end : ℕ) (within : (first < end) × (end ≤ length v.code.edges)) (own : (e : ℕ) → e < length v.code.edges → (edge_at (slice_get v.code.edges e) ≡ slice_index v.code.nodes n) ↔ ((first ≤ e) × (e < end))) where
    own_exit : (e : ℕ) → first ≤ e → e < end → exit_from v t k n e ≡ exit_of (graph v) (loops v t) k e
    own_exit e low high =
        let le = within.1 in
        ap (λ b. only b (exit_of (graph v) (loops v t) k e)) (eq-eqb ((graph v).source e) (node_address v n) ((own e (omega (arith, high, le))).1 (low, high)))

    other_exit : (e : ℕ) → e < length v.code.edges → ((first ≤ e) × (e < end) → ⊥) → exit_from v t k n e ≡ 0
    other_exit e lt never = go (nat_eq ((graph v).source e) (node_address v n)) refl
      where
        go : (b : Bool) → nat_eq ((graph v).source e) (node_address v n) ≡ b → only b (exit_of (graph v) (loops v t) k e) ≡ 0
        go true is = absurd (never ((own e lt).0 (eqb-true ((graph v).source e) (node_address v n) is)))
        go false is = refl

    pub exits_start : sum_below first (exit_from v t k n) ≡ 0
    exits_start = sum-none first (exit_from v t k n) (λ e lt. let a = within.0 in let b = within.1 in other_exit e (omega (arith, lt, a, b)) (λ h. let low = h.0 in let no : ⊥ = omega (arith, lt, low) in no))

    pub exits_more : (e found one : ℕ) → first ≤ e → e < end → found ≡ sum_below e (exit_from v t k n) → one ≡ exit_of (graph v) (loops v t) k e → found + one ≡ sum_below (e + 1) (exit_from v t k n)
    exits_more e found one low high so_far is =
        let here : exit_from v t k n e ≡ exit_of (graph v) (loops v t) k e = own_exit e low high in
        let next : sum_below (suc e) (exit_from v t k n) ≡ sum_below e (exit_from v t k n) + exit_from v t k n e = refl in
        let whole : found + one ≡ sum_below (suc e) (exit_from v t k n) = omega (arith, so_far, is, here, next) in
        whole ∙ ap (λ m. sum_below m (exit_from v t k n)) (sym (add-one e))

    behind : (d : ℕ) → end + d ≤ length v.code.edges → sum_below (end + d) (exit_from v t k n) ≡ sum_below end (exit_from v t k n)
    behind zero le = ap (λ m. sum_below m (exit_from v t k n)) (add-zero end)
    behind (suc d) le =
        let more : end + suc d ≡ suc (end + d) = omega arith in
        let last : exit_from v t k n (end + d) ≡ 0 = other_exit (end + d) (omega (arith, le)) (λ h. let high = h.1 in let no : ⊥ = omega (arith, high) in no) in
        let before : sum_below (end + d) (exit_from v t k n) ≡ sum_below end (exit_from v t k n) = behind d (omega (arith, le)) in
        ap (λ m. sum_below m (exit_from v t k n)) more ∙ (ap (λ x. sum_below (end + d) (exit_from v t k n) + x) last ∙ (add-zero (sum_below (end + d) (exit_from v t k n)) ∙ before))

    pub exits_end : sum_below end (exit_from v t k n) ≡ exits_at v t k n
    exits_end =
        let le = within.1 in
        let whole : end + (length v.code.edges - end) ≡ length v.code.edges = omega (arith, le) in
        sym (behind (length v.code.edges - end) (omega (arith, whole))) ∙ ap (λ m. sum_below m (exit_from v t k n)) whole

  -- ---- lists of counts

  module _ (n : ℕ) (turns : List ℕ) (so_far : AreTurns v t n turns) (el : n < length v.code.edges) where
    pub turns_skip : slice_get t.backs n ≡ Some None → AreTurns v t (n + 1) turns
    turns_skip none = record {
      size = so_far.size;
      each = λ k kl.
          let zero_here : turn_of (graph v) (loops v t) k n ≡ 0 = turn_zero k n kl el (λ some. let both : Some None ≡ Some (Some k) = sym none ∙ some in let bad : ⊥ = cc in bad) in
          so_far.each k kl ∙ (sym (add-zero (sum_below n (turn_of (graph v) (loops v t) k))) ∙ (ap (λ x. sum_below n (turn_of (graph v) (loops v t) k) + x) (sym zero_here) ∙ ap (λ m. sum_below m (turn_of (graph v) (loops v t) k)) (sym (add-one n))));
    }

    pub turns_more : (j : ℕ) (new : List ℕ) → slice_get t.backs n ≡ Some (Some j) → new ≡ slice_set turns j (slice_index turns j + 1) → AreTurns v t (n + 1) new
    turns_more j new back is = record {
      size = ap length is ∙ (length-set turns j (slice_index turns j + 1) ∙ so_far.size);
      each = λ k kl. by_test k kl (nat_eq k j) refl;
    }
      where
        jl : j < length turns
        jl = let size = so_far.size in let low = (turn_one j n back).0 in omega (arith, size, low)

        by_test : (k : ℕ) → k < length t.headers → (b : Bool) → nat_eq k j ≡ b → slice_index new k ≡ sum_below (n + 1) (turn_of (graph v) (loops v t) k)
        by_test k kl true e =
            let same : k ≡ j = eqb-true k j e in
            let one : turn_of (graph v) (loops v t) k n ≡ 1 = ap (λ i. turn_of (graph v) (loops v t) i n) same ∙ (turn_one j n back).1 in
            ap (λ xs. slice_index xs k) is ∙ (ap (slice_index (slice_set turns j (slice_index turns j + 1))) same ∙ (get_or-set_same turns j (slice_index turns j + 1) 0 jl
            ∙ (ap (λ i. slice_index turns i + 1) (sym same) ∙ (ap (λ x. x + 1) (so_far.each k kl) ∙ (ap (λ x. sum_below n (turn_of (graph v) (loops v t) k) + x) (sym one) ∙ ap (λ m. sum_below m (turn_of (graph v) (loops v t) k)) (sym (add-one n)))))))
        by_test k kl false e =
            let other : k ≢ j = λ same. both_ways (nat_eq k j) e (eq-eqb k j same) in
            let zero_here : turn_of (graph v) (loops v t) k n ≡ 0 = turn_zero k n kl el (λ some. let both : Some (Some j) ≡ Some (Some k) = sym back ∙ some in let same : k ≡ j = cc in other same) in
            ap (λ xs. slice_index xs k) is ∙ (get_or-set_other turns j k (slice_index turns j + 1) 0 other
            ∙ (so_far.each k kl ∙ (sym (add-zero (sum_below n (turn_of (graph v) (loops v t) k))) ∙ (ap (λ x. sum_below n (turn_of (graph v) (loops v t) k) + x) (sym zero_here) ∙ ap (λ m. sum_below m (turn_of (graph v) (loops v t) k)) (sym (add-one n))))))

  pub turns_small : (n : ℕ) (turns : List ℕ) → AreTurns v t n turns → (k : ℕ) → k < length t.headers → slice_index turns k ≤ n
  turns_small n turns are k kl = subst (λ x. x ≤ n) (sym (are.each k kl)) (at_most n)
    where
      one_most : (b : Bool) → one_where b ≤ 1
      one_most true = omega arith
      one_most false = omega arith

      at_most : (m : ℕ) → sum_below m (turn_of (graph v) (loops v t) k) ≤ m
      at_most zero = omega arith
      at_most (suc m) = let low = at_most m in let one = one_most (is_back (graph v) (loops v t) k m) in omega (arith, low, one)

-- a list of one number more
last_here : (xs : List ℕ) (x : ℕ) → slice_index (xs ++ x ∷ []) (length xs) ≡ x
last_here [] x = refl
last_here (y ∷ ys) x = last_here ys x

front_same : (xs : List ℕ) (x k : ℕ) → k < length xs → slice_index (xs ++ x ∷ []) k ≡ slice_index xs k
front_same [] x k lt = absurd (let no : ⊥ = omega (arith, lt) in no)
front_same (y ∷ ys) x zero lt = refl
front_same (y ∷ ys) x (suc k) lt = front_same ys x k (omega (arith, lt))

pub exit_lists : (v : FlowGraph) (t : LoopView) (n x : ℕ) (exits new : List ℕ) → AreExits v t n exits → new ≡ exits ++ x ∷ [] → x ≡ sum_below (length v.code.edges) (exit_of (graph v) (loops v t) n) → AreExits v t (n + 1) new
exit_lists v t n x exits new so_far is one = record {
  size = ap length is ∙ (length-append exits (x ∷ []) ∙ ap (λ m. m + 1) so_far.size);
  each = λ k lt. ⊎_elim
      (λ low. let size = so_far.size in ap (λ xs. slice_index xs k) is ∙ (front_same exits x k (omega (arith, low, size)) ∙ so_far.each k low))
      (λ high. let size = so_far.size in let same : k ≡ length exits = omega (arith, lt, high, size) in let n_is : k ≡ n = omega (arith, lt, high) in
      ap (λ xs. slice_index xs k) is ∙ (ap (slice_index (exits ++ x ∷ [])) same ∙ (last_here exits x ∙ (one ∙ ap (λ j. sum_below (length v.code.edges) (exit_of (graph v) (loops v t) j)) (sym n_is))))) (cases_lt k n);
}
