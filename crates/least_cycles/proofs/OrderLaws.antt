-- Nodes in another order: those of a function, and those of a loop's body.
use Rattle.std.proofs.Common.{◌≡◌, ◌≢◌, ℕ, ◌+◌, ◌<◌, ◌≤◌, Bool, true, List, length, slice_get, slice_set, Some, sym, ◌∙◌, subst, arith, ⊎_elim, get_or-set_other, get_or-set_same}
use Rattle.std.specs.Prelude.{◌==◌}
use Rattle.std.specs.List.{Contains, AllPairs}
use Rattle.std.specs.List.Sorted.{IsPermutation}
use Rattle.std.proofs.lemmas.Bool.{cases_lt}
use Rattle.std.proofs.lemmas.Bool.Decides.{Decides-eqb, nat_tests}
use Rattle.std.proofs.lemmas.List.{get_or_default}
use Rattle.std.proofs.lemmas.List.Sorted.{Contains-permutation, IsPermutation-sym, length_permutation}
use Rattle.std.proofs.lemmas.Map.Keys.{IsDistinct-IsPermutation}
use Rattle.std.proofs.lemmas.Map.Made.{AllPairs-from_IsDistinct, IsDistinct-from_AllPairs}
use Rattle.std.proofs.lemmas.Option.{slice_get-get_or}
use Rattle.graph_algorithms.specs.Arcs.{number_in_place, AreDistinct}
use Rattle.cost_theory.specs.Lists.{body_of}
use Rattle.flow_graph.specs.FlowGraph.{FlowGraph, graph, IsFlowGraph}
use Rattle.flow_graph.proofs.Laws.{few_once}
use Rattle.loop_forest.specs.Noted.{node_address}
use Rattle.loop_forest.specs.Found.{IsAscending}
use Rattle.loop_forest.specs.Tree.{LoopView, loops, IsLoopTree}
use Rattle.least_cycles.specs.Functions.{IsBucket}
use Rattle.least_cycles.specs.Charging.{IsBodyOf}
use Rattle.least_cycles.proofs.TurnLaws.{inside_at, number_inside, same_node}

flips : (x y : ℕ) → (x == y) ≡ (y == x)
flips x y = grind (arith, nat_tests)

-- the place of an element
contained : (xs : List ℕ) (i : ℕ) → i < length xs → Contains xs (number_in_place xs i)
contained xs i il = (i, il, get_or_default xs i (number_in_place xs i) 0 il)

placed : (xs : List ℕ) (x : ℕ) → Contains xs x → (i : ℕ) × (i < length xs) × (number_in_place xs i ≡ x)
placed xs x is = (is.0, is.1, get_or_default xs is.0 0 x is.1 ∙ is.2)

module _ (xs ys : List ℕ) (moved : IsPermutation xs ys) where
  -- where a number of the one list stands in the other
  old_place : (j : ℕ) → j < length ys → (i : ℕ) × (i < length xs) × (number_in_place xs i ≡ number_in_place ys j)
  old_place j jl = placed xs (number_in_place ys j) (Contains-permutation ys xs (number_in_place ys j) (IsPermutation-sym xs ys moved) (contained ys j jl))

  new_place : (i : ℕ) → i < length xs → (j : ℕ) × (j < length ys) × (number_in_place ys j ≡ number_in_place xs i)
  new_place i il = placed ys (number_in_place xs i) (Contains-permutation xs ys (number_in_place xs i) moved (contained xs i il))

  pub distinct_permuted : AreDistinct xs → AreDistinct ys
  distinct_permuted once i j lt jl same =
      let pairs : AllPairs (λ x y. x ≢ y) xs = (λ a b d ab bl equal. let al : a < length xs = omega arith in once a b ab bl (get_or_default xs a 0 d al ∙ equal ∙ get_or_default xs b d 0 bl)) in
      let distinct = IsDistinct-IsPermutation (λ x y. x == y) flips xs ys moved (IsDistinct-from_AllPairs Decides-eqb xs pairs) in
      AllPairs-from_IsDistinct Decides-eqb ys distinct i j 0 lt jl same

  -- a bound of all numbers
  pub below_permuted : (n : ℕ) → ((i : ℕ) → i < length xs → number_in_place xs i < n) → (j : ℕ) → j < length ys → number_in_place ys j < n
  below_permuted n below j jl = let i = old_place j jl in subst (λ k. k < n) i.2 (below i.0 i.1)

  -- the nodes of a function
  pub bucket_permuted : (v : FlowGraph) (f : ℕ) → IsBucket v f xs → IsBucket v f ys
  bucket_permuted v f is = record {
    within = λ j jl. let i = old_place j jl in subst (λ k. k < length v.code.nodes) i.2 (is.within i.0 i.1);
    own = λ j jl. let i = old_place j jl in subst (λ k. (graph v).owner (node_address v k) ≡ f) i.2 (is.own i.0 i.1);
    whole = λ k kl own. let i = is.whole k kl own in let j = new_place i.0 i.1 in (j.0, j.1, j.2 ∙ i.2);
    once = distinct_permuted is.once;
  }

  -- and those of a loop's body
  pub body_permuted : (v : FlowGraph) (t : LoopView) (l : ℕ) → IsBodyOf v t l xs → IsBodyOf v t l ys
  body_permuted v t l is = record {
    within = λ j jl. let i = old_place j jl in subst (λ k. k < length v.code.nodes) i.2 (is.within i.0 i.1);
    inside = λ j jl. let i = old_place j jl in subst (λ k. (loops v t).inside l (node_address v k) ≡ true) i.2 (is.inside i.0 i.1);
    whole = λ k kl in_l. let i = is.whole k kl in_l in let j = new_place i.0 i.1 in (j.0, j.1, j.2 ∙ i.2);
    once = distinct_permuted is.once;
  }

-- the places of the first numbers of a list of different ones, and of one more
pub places_more : (xs places : List ℕ) (i : ℕ) → AreDistinct xs → i < length xs → number_in_place xs i < length places → ((j : ℕ) → j < i → number_in_place places (number_in_place xs j) ≡ j) → (j : ℕ) → j < i + 1 → number_in_place (slice_set places (number_in_place xs i) i) (number_in_place xs j) ≡ j
places_more xs places i once il within each j jl = ⊎_elim
    (λ (low : j < i). get_or-set_other places (number_in_place xs i) (number_in_place xs j) i 0 (once j i low il) ∙ each j low)
    (λ (high : i ≤ j). let here : j ≡ i = omega arith in subst (λ k. number_in_place (slice_set places (number_in_place xs i) i) (number_in_place xs k) ≡ k) (sym here) (get_or-set_same places (number_in_place xs i) i 0 within))
    (cases_lt j i)

-- ---- the nodes that a loop's tree has

module _ (v : FlowGraph) (t : LoopView) (extent : ℕ → ℕ → Bool) (l : ℕ) (flow : IsFlowGraph v) (tree : IsLoopTree v extent t) (ll : l < length t.headers) where
  abbrev body : List ℕ
  body = body_of t.bodies l

  ascends : IsAscending (length v.code.nodes) body
  ascends = tree.body l ll

  number_here : (m : ℕ) → m < length body → slice_get body m ≡ Some (number_in_place body m)
  number_here m ml = slice_get-get_or body m 0 ml

  pub body_is : IsBodyOf v t l body
  body_is = record {
    within = λ m ml. ascends.within m (number_in_place body m) (number_here m ml);
    inside = λ m ml. inside_at v t l m ml;
    whole = λ k kl in_l.
        let m = number_inside v t l (node_address v k) in_l in
        (m.0, m.1, sym (same_node v flow k (number_in_place body m.0) kl (ascends.within m.0 (number_in_place body m.0) (number_here m.0 m.1)) m.2));
    once = λ i j lt jl same.
        let il : i < length body = omega arith in
        let rises = ascends.ascending i j (number_in_place body i) (number_in_place body j) lt (number_here i il) (number_here j jl) in
        let bad : ⊥ = omega arith in bad;
  }

  pub body_few : length v.code.nodes ≤ 131072 → (nodes : List ℕ) → IsPermutation body nodes → length nodes ≤ 131072
  body_few few nodes moved =
      let size = length_permutation body nodes moved in
      let low : length body ≤ length v.code.nodes = few_once body (length v.code.nodes) one (λ i x at. ascends.within i x at) in
      omega arith
    where
      one : (i j x : ℕ) → slice_get body i ≡ Some x → slice_get body j ≡ Some x → i ≡ j
      one i j x p q = ⊎_elim
          (λ (lt : i < j). let rises = ascends.ascending i j x x lt p q in let bad : ⊥ = omega arith in absurd bad)
          (λ (ge : j ≤ i). ⊎_elim
          (λ (lt : j < i). let rises = ascends.ascending j i x x lt q p in let bad : ⊥ = omega arith in absurd bad)
          (λ (le : i ≤ j). let r : i ≡ j = omega arith in r)
          (cases_lt j i))
          (cases_lt i j)
