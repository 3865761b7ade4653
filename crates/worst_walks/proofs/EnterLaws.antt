-- The loop that an edge enters, and loops by the numbers of a tree.
use Rattle.std.proofs.Common.{◌≡◌, ◌≢◌, ℕ, zero, suc, ◌<◌, Bool, true, false, not, ◌&&◌, ◌↔◌, nat_eq, List, [], ◌∷◌, map, length, Option, Some, None, slice_get, option_map, refl, sym, ap, ◌∙◌, subst, arith, eq-eqb, eqb-true}
use Rattle.std.proofs.lemmas.List.{length-map}
use Rattle.std.proofs.lemmas.Option.{slice_get-get_or, get_or_from_slice_get, slice_get-map, same_Some}
use native.Mathlib.Decide.{ℕ_discrete}
use Rattle.cost_theory.specs.Graph.{Graph, Loops, is_round, is_header, is_back, enters}
use Rattle.cost_theory.specs.Accepted.{IsProgram, AreAccepted, IsWithin}
use Rattle.cost_theory.specs.Lists.{or_true, is_among, body_of}
use Rattle.cost_theory.proofs.Laws.{and_left, and_right, and_both, not_true, accepted_entered, headers-distinct, side_header, held_within, header_held}
use Rattle.flow_graph.specs.FlowGraph.{FlowGraph, graph, IsFlowGraph}
use Rattle.loop_forest.specs.Noted.{node_address}
use Rattle.loop_forest.specs.Tree.{LoopView, loops, IsLoopTree, IsInnermost}
use Rattle.loop_forest.proofs.Laws.{one_number}

module _ (g : Graph) (l : Loops) (extent : ℕ → ℕ → Bool) (prog : IsProgram g) (acc : AreAccepted g l extent) where
  -- the innermost loop round a header is its own
  pub innermost_header : (at j k : ℕ) → IsInnermost l at (Some j) → k < l.loops → at ≡ l.header k → j ≡ k
  innermost_header at j k inner kl head = go (ℕ_discrete k j)
    where
      in_j : l.inside j (l.header k) ≡ true
      in_j = subst (λ x. l.inside j x ≡ true) head inner.1

      go : Dec (k ≡ j) → j ≡ k
      go (yes same) = sym same
      go (no other) =
          let held : IsWithin l k j = held_within g l extent prog (accepted_entered acc) k j kl inner.0 other in_j in
          let back : l.inside k (l.header j) ≡ true = inner.2 k (l.header j) kl (subst (λ x. l.inside k x ≡ true) (sym head) (header_held g l extent prog (accepted_entered acc) k kl))
          (header_held g l extent prog (accepted_entered acc) j inner.0) in
          let out : l.inside k (l.header j) ≡ false = held.header in
          let bad : ⊥ = cc in absurd bad

  -- nothing is entered over an edge that leads to no node, or to one in no loop,
  pub enters_none : (e k : ℕ) → g.target e ≡ None → enters l k (g.source e) (g.target e) ≡ true → ⊥
  enters_none e k to en =
      let r : is_round l k None ≡ true = subst (λ o. is_round l k o ≡ true) to (and_right (not (l.inside k (g.source e))) (is_round l k (g.target e)) en) in
      let bad : ⊥ = cc in bad

  -- an edge into a loop leads to its header, from outside
  pub enters_so : (e k at : ℕ) → e < g.edges → k < l.loops → g.target e ≡ Some at → enters l k (g.source e) (g.target e) ≡ true →
      (at ≡ l.header k) × (l.inside k at ≡ true) × (l.inside k (g.source e) ≡ false)
  enters_so e k at lt kl to en =
      let r : l.inside k at ≡ true = subst (λ o. is_round l k o ≡ true) to (and_right (not (l.inside k (g.source e))) (is_round l k (g.target e)) en) in
      let out : l.inside k (g.source e) ≡ false = not_true (l.inside k (g.source e)) (and_left (not (l.inside k (g.source e))) (is_round l k (g.target e)) en) in
      (side_header g l extent prog (accepted_entered acc) e k at lt kl to r out, r, out)

  -- what an edge to the header of its innermost loop enters, where it is no back edge of that loop
  pub enters_header : (e j at : ℕ) → g.target e ≡ Some at → IsInnermost l at (Some j) → at ≡ l.header j → is_back g l j e ≡ false → enters l j (g.source e) (g.target e) ≡ true
  enters_header e j at to inner head plain =
      let at_header : is_header l j (g.target e) ≡ true = subst (λ o. is_header l j o ≡ true) (sym to) (eq-eqb at (l.header j) head) in
      let round : is_round l j (g.target e) ≡ true = subst (λ o. is_round l j o ≡ true) (sym to) inner.1 in
      let out : l.inside j (g.source e) ≡ false = only_left (l.inside j (g.source e)) (is_header l j (g.target e)) plain at_header in
      and_both (not (l.inside j (g.source e))) (is_round l j (g.target e)) (ap not out) round
    where
      only_left : (a b : Bool) → (a && b) ≡ false → b ≡ true → a ≡ false
      only_left a b p q = grind arith

module _ (v : FlowGraph) (t : LoopView) (extent : ℕ → ℕ → Bool) (is : IsLoopTree v extent t) where
  pub loop_count : (loops v t).loops ≡ length t.headers
  loop_count = length-map t.headers (node_address v)

  pub loop_within : (k : ℕ) → k < length t.headers → k < (loops v t).loops
  loop_within k lt = let size = loop_count in omega arith

  pub loop_below : (k : ℕ) → k < (loops v t).loops → k < length t.headers
  loop_below k lt = let size = loop_count in omega arith

  pub header_address : (k h : ℕ) → slice_get t.headers k ≡ Some h → slice_get v.code.nodes h ≡ Some ((loops v t).header k)
  header_address k h at =
      let low : h < length v.code.nodes = is.header k h at in
      slice_get-get_or v.code.nodes h 0 low ∙
      ap Some (sym (get_or_from_slice_get (map (node_address v) t.headers) k _ 0 (slice_get-map (node_address v) t.headers k ∙ ap (option_map (node_address v)) at)))

  -- the innermost loop round a node, by its number
  pub innermost_at : (k at : ℕ) (o : Option ℕ) → slice_get v.code.nodes k ≡ Some at → slice_get t.innermost k ≡ Some o → IsInnermost (loops v t) at o
  innermost_at k at o here inner = subst (λ x. IsInnermost (loops v t) x o) (get_or_from_slice_get v.code.nodes k at 0 here) (is.innermost k o inner)

  -- a number among those of a body is one of a node in it
  pub among_inside : (k i at : ℕ) → slice_get v.code.nodes i ≡ Some at → is_among i (body_of t.bodies k) ≡ true → (loops v t).inside k at ≡ true
  among_inside k i at here among =
      subst (λ (xs : List ℕ). is_among at xs ≡ true) (sym (body_map t.bodies k))
      (subst (λ x. is_among x (map (node_address v) (body_of t.bodies k)) ≡ true) (get_or_from_slice_get v.code.nodes i at 0 here) (mapped (body_of t.bodies k) i among))
    where
      body_map : (bodies : List (List ℕ)) (k : ℕ) → body_of (map (λ body. map (node_address v) body) bodies) k ≡ map (node_address v) (body_of bodies k)
      body_map [] k = refl
      body_map (b ∷ bs) zero = refl
      body_map (b ∷ bs) (suc k) = body_map bs k

      mapped : (xs : List ℕ) (i : ℕ) → is_among i xs ≡ true → is_among (node_address v i) (map (node_address v) xs) ≡ true
      mapped [] i h = let bad : ⊥ = cc in absurd bad
      mapped (u ∷ us) i h = go (nat_eq u i) refl (mapped us i)
        where
          go : (b : Bool) → nat_eq u i ≡ b → (is_among i us ≡ true → is_among (node_address v i) (map (node_address v) us) ≡ true) → or_true (nat_eq (node_address v u) (node_address v i)) (is_among (node_address v i) (map (node_address v) us)) ≡ true
          go true eq more = ap (λ b. or_true b (is_among (node_address v i) (map (node_address v) us))) (eq-eqb (node_address v u) (node_address v i) (ap (node_address v) (eqb-true u i eq)))
          go false eq more = any (nat_eq (node_address v u) (node_address v i)) (is_among (node_address v i) (map (node_address v) us)) (more (subst (λ b. or_true b (is_among i us) ≡ true) eq h))
            where
              any : (a b : Bool) → b ≡ true → or_true a b ≡ true
              any true b e = refl
              any false b e = e

  -- and so it is of the node to which an edge leads
  pub round_at : (e k i : ℕ) → (graph v).target e ≡ slice_get v.code.nodes i → i < length v.code.nodes → is_among i (body_of t.bodies k) ≡ true → is_round (loops v t) k ((graph v).target e) ≡ true
  round_at e k i to low among =
      let here : slice_get v.code.nodes i ≡ Some (node_address v i) = slice_get-get_or v.code.nodes i 0 low in
      subst (λ o. is_round (loops v t) k o ≡ true) (sym (to ∙ here)) (among_inside k i (node_address v i) here among)

module _ (v : FlowGraph) (t : LoopView) (extent : ℕ → ℕ → Bool) (flow : IsFlowGraph v) (is : IsLoopTree v extent t) where
  below : (k : ℕ) → k < length t.headers → k < (loops v t).loops
  below k lt = loop_within v t extent is k lt

  -- WHAT THE SEARCH FOR AN ENTERED LOOP ANSWERS

  abbrev pub IsEntered : ℕ → Option ℕ → Type 0
  IsEntered e o = (k : ℕ) → (o ≡ Some k) ↔ ((k < length t.headers) × (enters (loops v t) k ((graph v).source e) ((graph v).target e) ≡ true))

  none_some : (k : ℕ) → None ≡ Some k → ⊥
  none_some k e = let bad : ⊥ = cc in bad

  pub entered_nowhere : (e : ℕ) → (graph v).target e ≡ None → IsEntered e None
  entered_nowhere e to k = (λ h. absurd (none_some k h), λ h. absurd (enters_none (graph v) (loops v t) extent flow.program is.accepted e k to h.1))

  pub entered_outside : (e at : ℕ) → e < length v.code.edges → (graph v).target e ≡ Some at → IsInnermost (loops v t) at None → IsEntered e None
  entered_outside e at lt to inner k = (
    λ h. absurd (none_some k h),
    λ h. absurd (inner k (below k h.0) (enters_so (graph v) (loops v t) extent flow.program is.accepted e k at lt (below k h.0) to h.1).1),
  )

  pub entered_loop : (e j at : ℕ) → e < length v.code.edges → (graph v).target e ≡ Some at → IsInnermost (loops v t) at (Some j) → at ≡ (loops v t).header j →
      (slice_get t.backs e ≡ Some (Some j) → ⊥) → IsEntered e (Some j)
  entered_loop e j at lt to inner head plain k = (
    λ h. let same : j ≡ k = same_Some j k h in subst (λ i. (i < length t.headers) × (enters (loops v t) i ((graph v).source e) ((graph v).target e) ≡ true)) same (loop_below v t extent is j inner.0, here),
    λ h. ap Some (headers-distinct (graph v) (loops v t) extent flow.program (accepted_entered is.accepted) j k inner.0 (below k h.0)
        (sym head ∙ (enters_so (graph v) (loops v t) extent flow.program is.accepted e k at lt (below k h.0) to h.1).0)),
  )
    where
      not_back : (b : Bool) → is_back (graph v) (loops v t) j e ≡ b → b ≡ false
      not_back false eq = refl
      not_back true eq = absurd (plain ((is.backs e j).1 (lt, loop_below v t extent is j inner.0, eq)))

      here : enters (loops v t) j ((graph v).source e) ((graph v).target e) ≡ true
      here = enters_header (graph v) (loops v t) extent flow.program is.accepted e j at to inner head (not_back (is_back (graph v) (loops v t) j e) refl)

  -- to another node of a loop, or round a loop
  pub entered_within : (e j at : ℕ) → e < length v.code.edges → (graph v).target e ≡ Some at → IsInnermost (loops v t) at (Some j) → (at ≡ (loops v t).header j → ⊥) → IsEntered e None
  entered_within e j at lt to inner away k = (
    λ h. absurd (none_some k h),
    λ h.
        let so = enters_so (graph v) (loops v t) extent flow.program is.accepted e k at lt (below k h.0) to h.1 in
        let same : j ≡ k = innermost_header (graph v) (loops v t) extent flow.program is.accepted at j k inner (below k h.0) so.0 in
        absurd (away (so.0 ∙ ap (loops v t).header (sym same))),
  )

  pub entered_back : (e j at : ℕ) → e < length v.code.edges → (graph v).target e ≡ Some at → IsInnermost (loops v t) at (Some j) → slice_get t.backs e ≡ Some (Some j) → IsEntered e None
  entered_back e j at lt to inner back k = (
    λ h. absurd (none_some k h),
    λ h.
        let so = enters_so (graph v) (loops v t) extent flow.program is.accepted e k at lt (below k h.0) to h.1 in
        let same : j ≡ k = innermost_header (graph v) (loops v t) extent flow.program is.accepted at j k inner (below k h.0) so.0 in
        let turns : is_back (graph v) (loops v t) j e ≡ true = ((is.backs e j).0 back).2 in
        let in_j : (loops v t).inside j ((graph v).source e) ≡ true = and_left ((loops v t).inside j ((graph v).source e)) (is_header (loops v t) j ((graph v).target e)) turns in
        let in_k : (loops v t).inside k ((graph v).source e) ≡ true = subst (λ i. (loops v t).inside i ((graph v).source e) ≡ true) same in_j in
        let out : (loops v t).inside k ((graph v).source e) ≡ false = so.2 in
        let bad : ⊥ = cc in absurd bad,
  )

  -- numbers of nodes that differ have addresses that do
  pub other_address : (i j a b : ℕ) → slice_get v.code.nodes i ≡ Some a → slice_get v.code.nodes j ≡ Some b → i ≢ j → a ≢ b
  other_address i j a b at_i at_j ne same = ne (one_number v flow i j b (at_i ∙ ap Some same) at_j)
