-- All nodes of a basic block are in the same loops.
use Rattle.std.proofs.Common.{◌≡◌, ◌≢◌, ℕ, zero, suc, ◌+◌, ◌*◌, ◌<◌, ◌≤◌, ⊎_elim, Bool, true, false, List, [], ◌∷◌, slice_get, Option, Some, None, refl, sym, ap, ◌∙◌, subst, arith, eqb-true}
use Rattle.std.proofs.lemmas.Option.{slice_get_within}
use Rattle.scale_base.specs.declared.ranges.Range.{Range}
use Rattle.cost_theory.specs.Graph.{Graph, Loops, IsWalk, end_of, is_round, is_header, is_back}
use Rattle.cost_theory.specs.Accepted.{IsNode, StaysWithin, AreEntered, IsInBody}
use Rattle.cost_theory.specs.Reached.{edge_at, edge_to}
use Rattle.cost_theory.proofs.Laws.{and_left, and_right, search_below, accepted_entered, entry_header, side_header, step_at_header, header_held}
use Rattle.flow_graph.specs.FlowGraph.{FlowGraph, graph, IsFlowGraph}
use Rattle.flow_graph.specs.Blocks.{IsInBlock, IsJoined, IsBlock}
use Rattle.loop_forest.specs.Tree.{LoopView, loops, IsLoopTree}
use Rattle.plan_graphs.specs.Drawn.{AreLoopsRound}

some_is : (a b : ℕ) → Some a ≡ Some b → a ≡ b
some_is a b e = let r : a ≡ b = cc in r

header_is : (l : Loops) (k : ℕ) (p : Option ℕ) → is_header l k p ≡ true → p ≡ Some (l.header k)
header_is l k None h = let bad : ⊥ = cc in absurd bad
header_is l k (Some v) h = ap (λ x. Some x) (eqb-true v (l.header k) h)

module _ (v : FlowGraph) (t : LoopView) (extent : ℕ → ℕ → Bool) (is : IsFlowGraph v) (tree : IsLoopTree v extent t) (block : Range) (b : IsBlock v block) where
  ent : AreEntered (graph v) (loops v t) extent
  ent = accepted_entered tree.accepted

  behind : (a : ℕ) → IsInBlock block a → a + 4 < block.to → IsInBlock block (a + 4)
  behind a inb lt = (inb.0 + 1, (let e : a ≡ block.from + 4 * inb.0 = inb.1 in let r : a + 4 ≡ block.from + 4 * (inb.0 + 1) = omega arith in r), lt)

  module _ (k a : ℕ) (kl : k < (loops v t).loops) (inb : IsInBlock block a) (lt : a + 4 < block.to) where
    j : IsJoined v a
    j = b.joined a inb lt

    j_lt : j.edge < (graph v).edges
    j_lt = slice_get_within v.code.edges j.edge _ j.next

    j_source : (graph v).source j.edge ≡ a
    j_source = ap edge_at j.next

    j_target : (graph v).target j.edge ≡ Some (a + 4)
    j_target = ap edge_to j.next

    walk_out : (loops v t).header k ≡ a + 4 → (loops v t).inside k a ≡ true → (es : List ℕ) (p : Option ℕ) → is_round (loops v t) k p ≡ false → IsWalk (graph v) p es → end_of (graph v) p es ≡ Some (a + 4) → ⊥
    walk_out head in_a [] p out walk ends =
        let held : (loops v t).inside k ((loops v t).header k) ≡ true = header_held (graph v) (loops v t) extent is.program ent k kl in
        let in_next : (loops v t).inside k (a + 4) ≡ true = subst (λ x. (loops v t).inside k x ≡ true) head held in
        let f : is_round (loops v t) k (Some (a + 4)) ≡ false = subst (λ o. is_round (loops v t) k o ≡ false) ends out in
        let bad : ⊥ = cc in bad
    walk_out head in_a (e ∷ es) p out walk ends = go (is_round (loops v t) k ((graph v).target e)) refl (λ still. walk_out head in_a es ((graph v).target e) still walk.2 ends)
      where
        out_source : (loops v t).inside k ((graph v).source e) ≡ false
        out_source = subst (λ o. is_round (loops v t) k o ≡ false) walk.1 out

        go : (r : Bool) → is_round (loops v t) k ((graph v).target e) ≡ r → (is_round (loops v t) k ((graph v).target e) ≡ false → ⊥) → ⊥
        go false still further = further still
        go true round further =
            let to : (graph v).target e ≡ Some ((loops v t).header k) = step_at_header (graph v) (loops v t) extent is.program ent e k walk.0 kl out_source round in
            let same : e ≡ j.edge = j.only_into e walk.0 (to ∙ ap (λ x. Some x) head) in
            let source : (graph v).source e ≡ a = ap (λ x. (graph v).source x) same ∙ j_source in
            let in_source : (loops v t).inside k ((graph v).source e) ≡ true = subst (λ x. (loops v t).inside k x ≡ true) (sym source) in_a in
            let bad : ⊥ = cc in bad

    in_before : (loops v t).header k ≡ a + 4 → (loops v t).inside k a ≡ true
    in_before head = ⊎_elim
        (λ (back : (e : ℕ) × (e < (graph v).edges) × (is_back (graph v) (loops v t) k e ≡ true)).
        let inside : (loops v t).inside k ((graph v).source back.0) ≡ true = and_left ((loops v t).inside k ((graph v).source back.0)) (is_header (loops v t) k ((graph v).target back.0)) back.2 in
        let to : (graph v).target back.0 ≡ Some ((loops v t).header k) = header_is (loops v t) k ((graph v).target back.0) (and_right ((loops v t).inside k ((graph v).source back.0)) (is_header (loops v t) k ((graph v).target back.0)) back.2) in
        let same : back.0 ≡ j.edge = j.only_into back.0 back.1 (to ∙ ap (λ x. Some x) head) in
        let source : (graph v).source back.0 ≡ a = ap (λ x. (graph v).source x) same ∙ j_source in
        subst (λ x. (loops v t).inside k x ≡ true) source inside)
        (λ (none : (e : ℕ) → e < (graph v).edges → is_back (graph v) (loops v t) k e ≡ false). absurd (ent.back_edge k kl none))
        (search_below (graph v).edges (λ e. is_back (graph v) (loops v t) k e))

    -- no loop's header stands behind the first node
    not_header : (loops v t).header k ≡ a + 4 → ⊥
    not_header head =
        let node : IsNode (graph v) (a + 4) = b.nodes (a + 4) (behind a inb lt) in
        let fl : (graph v).owner ((graph v).source node.0) < (graph v).functions = is.program.owner_function node.0 node.1 in
        let way : (es : List ℕ) × IsWalk (graph v) (Some ((graph v).entry ((graph v).owner ((graph v).source node.0)))) es × (end_of (graph v) (Some ((graph v).entry ((graph v).owner ((graph v).source node.0)))) es ≡ Some ((graph v).source node.0)) = is.program.reached node.0 node.1 in
        go fl way.0 way.1 (way.2 ∙ ap (λ x. Some x) node.2) ((loops v t).inside k ((graph v).entry ((graph v).owner ((graph v).source node.0)))) refl
      where
        go : {f : ℕ} → f < (graph v).functions → (es : List ℕ) → IsWalk (graph v) (Some ((graph v).entry f)) es → end_of (graph v) (Some ((graph v).entry f)) es ≡ Some (a + 4) →
            (r : Bool) → (loops v t).inside k ((graph v).entry f) ≡ r → ⊥
        go {f = f} fl es walk ends false out = walk_out head (in_before head) es (Some ((graph v).entry f)) out walk ends
        go {f = f} fl es walk ends true in_k =
            let at : (graph v).entry f ≡ a + 4 = entry_header (graph v) (loops v t) extent is.program ent f k fl kl in_k ∙ head in
            let here : IsInBlock block ((graph v).entry f) = subst (IsInBlock block) (sym at) (behind a inb lt) in
            let first : (graph v).entry f ≡ block.from = b.entry f fl here in
            let e : a ≡ block.from + 4 * inb.0 = inb.1 in
            let bad : ⊥ = omega arith in bad

    on : (loops v t).inside k a ≡ true → (loops v t).inside k (a + 4) ≡ true
    on in_a = go ((ent.bodies k a kl).0 in_a)
      where
        step : (e : ℕ) (es : List ℕ) → ((graph v).owner a ≡ (graph v).owner ((loops v t).header k)) → extent k ((loops v t).header k) ≡ true → e ≡ j.edge → IsWalk (graph v) ((graph v).target e) es → end_of (graph v) ((graph v).target e) es ≡ Some ((loops v t).header k)
            → StaysWithin (graph v) (extent k) es → (loops v t).inside k (a + 4) ≡ true
        step e [] owner held same walk ends stays =
            let to : (graph v).target e ≡ Some (a + 4) = ap (λ x. (graph v).target x) same ∙ j_target in
            absurd (not_header (some_is ((loops v t).header k) (a + 4) (sym ends ∙ to)))
        step e (d ∷ es) owner held same walk ends stays =
            let to : (graph v).target e ≡ Some (a + 4) = ap (λ x. (graph v).target x) same ∙ j_target in
            let mine : (graph v).owner (a + 4) ≡ (graph v).owner ((loops v t).header k) = b.function (a + 4) (behind a inb lt) ∙ (sym (b.function a inb) ∙ owner) in
            (ent.bodies k (a + 4) kl).1 (mine, held, (d, es, subst (λ o. IsWalk (graph v) o (d ∷ es)) to walk, ends, stays))

        go : IsInBody (graph v) ((loops v t).header k) (extent k) a → (loops v t).inside k (a + 4) ≡ true
        go body = step body.2.0 body.2.1 body.0 body.1 (j.only_from body.2.0 body.2.2.0 (some_is ((graph v).source body.2.0) a (sym body.2.2.1))) body.2.2.2 body.2.3 body.2.4.1

    off : (loops v t).inside k a ≡ false → (loops v t).inside k (a + 4) ≡ false
    off out = go ((loops v t).inside k (a + 4)) refl
      where
        go : (r : Bool) → (loops v t).inside k (a + 4) ≡ r → (loops v t).inside k (a + 4) ≡ false
        go false is_out = is_out
        go true is_in =
            let out_source : (loops v t).inside k ((graph v).source j.edge) ≡ false = subst (λ x. (loops v t).inside k x ≡ false) (sym j_source) out in
            let head : a + 4 ≡ (loops v t).header k = side_header (graph v) (loops v t) extent is.program ent j.edge k (a + 4) j_lt kl j_target is_in out_source in
            absurd (not_header (sym head))

    pub next_same : (loops v t).inside k (a + 4) ≡ (loops v t).inside k a
    next_same = go ((loops v t).inside k a) refl
      where
        go : (r : Bool) → (loops v t).inside k a ≡ r → (loops v t).inside k (a + 4) ≡ (loops v t).inside k a
        go true in_a = on in_a ∙ sym in_a
        go false out = off out ∙ sym out

  from_first : (k : ℕ) → k < (loops v t).loops → (i : ℕ) → block.from + 4 * i < block.to → (loops v t).inside k (block.from + 4 * i) ≡ (loops v t).inside k block.from
  from_first k kl zero lt = ap (λ x. (loops v t).inside k x) (let r : block.from + 4 * 0 ≡ block.from = omega arith in r)
  from_first k kl (suc i) lt =
      let low : block.from + 4 * i < block.to = omega arith in
      let next : block.from + 4 * suc i ≡ (block.from + 4 * i) + 4 = omega arith in
      let high : (block.from + 4 * i) + 4 < block.to = omega arith in
      ap (λ x. (loops v t).inside k x) next ∙ next_same k (block.from + 4 * i) kl (i, refl, low) high ∙ from_first k kl i low

  pub same_loops : (k a : ℕ) → k < (loops v t).loops → IsInBlock block a → (loops v t).inside k a ≡ (loops v t).inside k block.from
  same_loops k a kl inb =
      let at : a ≡ block.from + 4 * inb.0 = inb.1 in
      let low : block.from + 4 * inb.0 < block.to = subst (λ x. x < block.to) at inb.2 in
      ap (λ x. (loops v t).inside k x) at ∙ from_first k kl inb.0 low

  -- so the loops round the first node are those round each
  pub round_same : (ks : List ℕ) → AreLoopsRound (loops v t) block.from ks → (a : ℕ) → IsInBlock block a → AreLoopsRound (loops v t) a ks
  round_same ks are a inb = record {
    within = λ k am. ((are.within k am).0, same_loops k a (are.within k am).0 inb ∙ (are.within k am).1);
    whole = λ k kl in_k. are.whole k kl (sym (same_loops k a kl inb) ∙ in_k);
    nested = are.nested;
  }
