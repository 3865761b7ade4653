-- The nesting of loops by the numbers of nodes, and by their addresses.
use Rattle.std.proofs.Common.{◌≡◌, ◌≢◌, ℕ, ◌<◌, Bool, true, false, List, length, slice_get, slice_index, Option, Some, None, refl, sym, ap, ◌∙◌, subst, arith, ⊎_elim}
use Rattle.std.proofs.lemmas.Bool.{cases_eq}
use Rattle.std.proofs.lemmas.List.{length-map}
use Rattle.std.proofs.lemmas.Option.{slice_get_within, slice_get-get_or, get_or_from_slice_get}
use Rattle.cost_theory.specs.Graph.{Loops}
use Rattle.cost_theory.specs.Accepted.{AreEntered, IsWithin}
use Rattle.cost_theory.specs.Lists.{body_of, is_among}
use Rattle.cost_theory.proofs.Laws.{header_held, one_within, held_within}
use Rattle.flow_graph.specs.FlowGraph.{FlowGraph, graph, IsFlowGraph}
use Rattle.loop_forest.specs.Noted.{node_address, loops_by}
use Rattle.graph_algorithms.specs.Nesting.{HasNode, IsRound, AreLoops, AreHeadersOuter, IsShortestBody, IsNextAtHeader, body_at, IsInnermostBody as IsShortest}
use Rattle.loop_forest.specs.Tree.{IsLeastLoop, IsInnermost, IsParent}
use Rattle.loop_tree.specs.Backs.{AreLoopLists}
use Rattle.loop_forest.proofs.Laws.{among_at, at_among}
use Rattle.loop_tree.proofs.Lists.{held_shorter, body_same}
use Rattle.loop_tree.proofs.BackLaws.{inside_at, inside_number, inside_here, header_at}

-- a node of a body by its place
has_among : (bodies : List (List ℕ)) (k x : ℕ) → HasNode bodies k x → is_among x (body_of bodies k) ≡ true
has_among bodies k x has =
    subst (λ xs. is_among x xs ≡ true) (body_same bodies k)
    (among_at (body_at bodies k) has.1.0 x (slice_get-get_or (body_at bodies k) has.1.0 x has.1.1 ∙ ap Some has.1.2))

among_has : (bodies : List (List ℕ)) (k x : ℕ) → k < length bodies → is_among x (body_of bodies k) ≡ true → HasNode bodies k x
among_has bodies k x lt among =
    let i = at_among (body_at bodies k) x (subst (λ xs. is_among x xs ≡ true) (sym (body_same bodies k)) among) in
    (lt, (i.0, slice_get_within (body_at bodies k) i.0 x i.1, get_or_from_slice_get (body_at bodies k) i.0 x x i.1))

-- loops that are entered at their headers alone
pub record AreSeen (v : FlowGraph) (headers bounds : List ℕ) (bodies : List (List ℕ)) (extent : ℕ → ℕ → Bool) : Type 0 where
  pub flow : IsFlowGraph v
  pub lists : AreLoopLists v headers bodies
  pub entered : AreEntered (graph v) (loops_by v headers bounds bodies) extent

module _ (v : FlowGraph) (headers bounds : List ℕ) (bodies : List (List ℕ)) (extent : ℕ → ℕ → Bool) (are : AreSeen v headers bounds bodies extent) where
  abbrev these : Loops
  these = loops_by v headers bounds bodies

  pub in_loops : (k : ℕ) → k < length headers → k < these.loops
  in_loops k lt = subst (λ n. k < n) (sym (length-map headers (node_address v))) lt

  pub in_headers : (k : ℕ) → k < these.loops → k < length headers
  in_headers k lt = subst (λ n. k < n) (length-map headers (node_address v)) lt

  in_bodies : (k : ℕ) → k < length headers → k < length bodies
  in_bodies k lt = subst (λ n. k < n) (sym are.lists.size) lt

  from_bodies : (k : ℕ) → k < length bodies → k < length headers
  from_bodies k lt = subst (λ n. k < n) are.lists.size lt

  node_is : (x : ℕ) → x < length v.code.nodes → slice_get v.code.nodes x ≡ Some (node_address v x)
  node_is x lt = slice_get-get_or v.code.nodes x 0 lt

  node_within : (k x : ℕ) → HasNode bodies k x → x < length v.code.nodes
  node_within k x has = let i = at_among (body_of bodies k) x (has_among bodies k x has) in (are.lists.body k (from_bodies k has.0)).within i.0 x i.1

  has_inside : (k x : ℕ) → HasNode bodies k x → these.inside k (node_address v x) ≡ true
  has_inside k x has = inside_at v headers bounds bodies k x (node_address v x) (node_is x (node_within k x has)) (has_among bodies k x has)

  inside_has : (k x at : ℕ) → k < length headers → slice_get v.code.nodes x ≡ Some at → these.inside k at ≡ true → HasNode bodies k x
  inside_has k x at kl node e = among_has bodies k x (in_bodies k kl) (inside_here v headers bounds bodies k x at are.flow are.lists kl node e)

  -- a loop has its header
  has_header : (k : ℕ) → k < length headers → HasNode bodies k (slice_index headers k)
  has_header k kl = inside_has k (slice_index headers k) (these.header k) kl (header_at v headers bounds bodies k are.lists kl)
      (header_held (graph v) these extent are.flow.program are.entered k (in_loops k kl))

  has_round : (j k : ℕ) → j < length headers → k < length headers → IsWithin these j k → (x : ℕ) → HasNode bodies j x → HasNode bodies k x
  has_round j k jl kl within x has = inside_has k x (node_address v x) kl (node_is x (node_within j x has)) (within.holds (node_address v x) (has_inside j x has))

  -- a loop within another has the shorter body
  within_round : (j k : ℕ) → j < length headers → k < length headers → IsWithin these j k → IsRound bodies k j
  within_round j k jl kl within =
      let held : (u : ℕ) → is_among u (body_of bodies j) ≡ true → is_among u (body_of bodies k) ≡ true =
      λ u among. has_among bodies k u (has_round j k jl kl within u (among_has bodies j u (in_bodies j jl) among)) in
      let less : length (body_of bodies j) < length (body_of bodies k) =
      held_shorter (body_of bodies j) (body_of bodies k) (slice_index headers k) ((are.lists.body j jl).ascending) held (has_among bodies k (slice_index headers k) (has_header k kl)) (none (is_among (slice_index headers k) (body_of bodies j)) refl) in (
        subst (λ xs. length xs < length (body_at bodies k)) (sym (body_same bodies j)) (subst (λ xs. length (body_of bodies j) < length xs) (sym (body_same bodies k)) less),
        has_round j k jl kl within,
      )
    where
      none : (b : Bool) → is_among (slice_index headers k) (body_of bodies j) ≡ b → b ≡ false
      none false e = refl
      none true e =
          let clash : true ≡ false = sym (inside_at v headers bounds bodies j (slice_index headers k) (these.header k) (header_at v headers bounds bodies k are.lists kl) e) ∙ within.header in
          let bad : ⊥ = cc in absurd bad

  pub loops_nested : AreLoops bodies headers (length v.code.nodes)
  loops_nested = record {
    sized = sym are.lists.size;
    within = node_within;
    headed = λ k kl. has_header k (from_bodies k kl);
    nested = λ j k x other hj hk le.
        let jl = from_bodies j hj.0 in
        let kl = from_bodies k hk.0 in
        ⊎_elim (λ (w : IsWithin these j k). within_round j k jl kl w)
        (λ (w : IsWithin these k j). let less = (within_round k j kl jl w).0 in let bad : ⊥ = omega (arith, less, le) in absurd bad)
        (one_within (graph v) these extent are.flow.program are.entered j k (node_address v x) (in_loops j jl) (in_loops k kl) other (has_inside j x hj) (has_inside k x hk));
  }

  pub headers_outer : AreHeadersOuter bodies headers
  headers_outer j k jl other has =
      let low = from_bodies j jl in
      let kl = from_bodies k has.0 in
      (within_round j k low kl (held_within (graph v) these extent are.flow.program are.entered j k (in_loops j low) (in_loops k kl) (λ e. other (sym e))
      (inside_at v headers bounds bodies k (slice_index headers j) (these.header j) (header_at v headers bounds bodies j are.lists low) (has_among bodies k (slice_index headers j) has)))).0

  -- of loops with a common node the one with the shortest body is held by all
  least_loop : (x : ℕ) (Is Has : ℕ → Type 0) → ((k : ℕ) → k < length headers → Is k → Has k) → ((k : ℕ) → k < length headers → Has k → Is k) → ((k : ℕ) → Has k → HasNode bodies k x) →
      (o : Option ℕ) → IsShortestBody bodies Has o → IsLeastLoop these Is o
  least_loop x Is Has there back node None least = λ k kl is. least k (in_bodies k (in_headers k kl)) (there k (in_headers k kl) is)
  least_loop x Is Has there back node (Some j) least =
      let jl : j < length headers = from_bodies j least.0 in (
        in_loops j jl,
        back j jl least.1,
        λ k u kl is inside. ⊎_elim
            (λ (same : k ≡ j). subst (λ i. these.inside i u ≡ true) (sym same) inside)
            (λ (other : k ≡ j → ⊥).
            let low : k < length headers = in_headers k kl in
            let less = least.2 k (in_bodies k low) other (there k low is) in
            let round = loops_nested.nested j k x (λ e. other (sym e)) (node j least.1) (node k (there k low is)) (omega (arith, less)) in
            let y = inside_number v headers bounds bodies j u are.lists jl inside in
            inside_at v headers bounds bodies k y.0 u y.1 (has_among bodies k y.0 (round.1 y.0 (among_has bodies j y.0 least.0 y.2))))
            (cases_eq k j),
      )

  pub innermost_as : (x : ℕ) → x < length v.code.nodes → (o : Option ℕ) → IsShortest bodies x o → IsInnermost these (node_address v x) o
  innermost_as x lt o least = least_loop x (λ k. these.inside k (node_address v x) ≡ true) (λ k. HasNode bodies k x)
      (λ k kl inside. inside_has k x (node_address v x) kl (node_is x lt) inside) (λ k kl has. has_inside k x has) (λ k has. has) o least

  pub parent_as : (j : ℕ) → j < length headers → (o : Option ℕ) → IsNextAtHeader bodies headers j o → IsParent these j o
  parent_as j jl o least =
      let node = header_at v headers bounds bodies j are.lists jl in
      least_loop (slice_index headers j) (λ k. (k ≢ j) × (these.inside k (these.header j) ≡ true)) (λ k. (k ≢ j) × HasNode bodies k (slice_index headers j))
      (λ k kl is. (is.0, inside_has k (slice_index headers j) (these.header j) kl node is.1))
      (λ k kl has. (has.0, inside_at v headers bounds bodies k (slice_index headers j) (these.header j) node (has_among bodies k (slice_index headers j) has.1)))
      (λ k has. has.1) o least
