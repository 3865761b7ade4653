-- The loops of notes over one graph: they are listed or refused, and two refusals are alike.
use Rattle.std.proofs.Common.{◌≡◌, ℕ, ◌+◌, ◌<◌, ◌≤◌, Bool, true, false, ◌&&◌, List, length, Option, Some, None, refl, sym, ap, ◌∙◌, subst, arith, ⊎_elim, ◌⊎◌, inl, inr, nat_eq, eqb-true}
use Rattle.std.specs.Prelude.{slice_index}
use Rattle.std.proofs.lemmas.List.{length-map, get_or-map}
use Rattle.scale_base.specs.declared.refusal.Refusal.{Refusal}
use Rattle.scale_base.specs.declared.refusal.Refusal.TheVariants.{HeaderNotReached, SameHeader, NoBackEdge, SideEntry, TooDeep}
use Rattle.cost_theory.specs.Graph.{Loops, sum_below, only, is_header, is_back, IsPlain}
use Rattle.cost_theory.specs.Accepted.{IsNode, IsInBody, AreEntered, IsTooDeep, IsPlainOrder}
use Rattle.cost_theory.proofs.Laws.{and_left, and_right, sum-same, accepted_entered}
use Rattle.cost_theory.proofs.Laws as theory
use Rattle.flow_graph.specs.FlowGraph.{FlowGraph, graph, IsFlowGraph}
use Rattle.flow_graph.proofs.Laws.{less_same_more}
use Rattle.loop_file.specs.declared.notes.LoopNote.{LoopNote}
use Rattle.loop_file.specs.Kept.{noted_loops, in_extent, note_at}
use Rattle.loop_forest.specs.Noted.{header_address, IsBodyNode, IsNotedSideEntry}
use Rattle.loop_forest.specs.Refused.{IsHeaderRefused, IsPairRefused, IsBackEdgeRefused, IsEntryRefused, AreNoted, IsDepthRefused}
use Rattle.loop_forest.specs.Tree.{LoopView, loops, IsTreeOf, IsPlainStep, IsCycleRefused, IsTreeRefusal}
use Rattle.answer_laws.specs.Alike.{AreAlikeRefusals}
use Rattle.answer_laws.proofs.Numbers.{both_ways, no_cycle}

-- ---- loops that are entered at their headers alone

header_target : (l : Loops) (k : ℕ) (p : Option ℕ) → is_header l k p ≡ true → p ≡ Some (l.header k)
header_target l k None e = let bad : ⊥ = cc in absurd bad
header_target l k (Some v) e = ap Some (eqb-true v (l.header k) e)

header_test : (l l' : Loops) (k : ℕ) → l.header k ≡ l'.header k → (p : Option ℕ) → is_header l k p ≡ is_header l' k p
header_test l l' k same None = refl
header_test l l' k same (Some v) = ap (nat_eq v) same

module _ (v : FlowGraph) (notes : List LoopNote) (l : Loops) (noted : AreNoted notes l) (entered : AreEntered (graph v) l (noted_loops notes).inside) where
  pub here : (k : ℕ) → k < length notes → k < l.loops
  here k kl = subst (λ n. k < n) (sym noted.count) kl

  pub body_in : (k at : ℕ) → k < length notes → IsBodyNode v notes k at → l.inside k at ≡ true
  body_in k at kl b = (entered.bodies k at (here k kl)).1 (subst (λ h. IsInBody (graph v) h (in_extent (note_at notes k)) at) (sym (noted.header k kl)) b)

  pub in_body : (k at : ℕ) → k < length notes → l.inside k at ≡ true → IsBodyNode v notes k at
  in_body k at kl i = subst (λ h. IsInBody (graph v) h (in_extent (note_at notes k)) at) (noted.header k kl) ((entered.bodies k at (here k kl)).0 i)

  pub no_header : (refusal : Refusal) → IsHeaderRefused v notes refusal → ⊥
  no_header refusal c = entered.header_reached c.k (here c.k c.within) (λ node. c.unreached (subst (IsNode (graph v)) (noted.header c.k c.within) node))

  pub no_pair : (refusal : Refusal) → IsPairRefused v notes refusal → ⊥
  no_pair refusal c =
      let lt : c.one < c.two = c.same.0 in
      let low : c.one < length notes = (let w = c.within in omega arith) in
      entered.distinct c.one c.two (here c.two c.within) (lt, noted.header c.one low ∙ c.same.1 ∙ sym (noted.header c.two c.within))

  pub no_back : (refusal : Refusal) → IsBackEdgeRefused v notes refusal → ⊥
  no_back refusal c = entered.back_edge c.k (here c.k c.within) (λ e el. go e el (is_back (graph v) l c.k e) refl)
    where
      go : (e : ℕ) → e < (graph v).edges → (b : Bool) → is_back (graph v) l c.k e ≡ b → b ≡ false
      go e el false is = refl
      go e el true is = absurd (c.none (
        e,
        el,
        in_body c.k ((graph v).source e) c.within (and_left (l.inside c.k ((graph v).source e)) (is_header l c.k ((graph v).target e)) is),
        header_target l c.k ((graph v).target e) (and_right (l.inside c.k ((graph v).source e)) (is_header l c.k ((graph v).target e)) is) ∙ ap Some (noted.header c.k c.within),
      ))

  pub no_entry : (refusal : Refusal) → IsEntryRefused v notes refusal → ⊥
  no_entry refusal c =
      let head : l.header c.k ≡ header_address notes c.k = noted.header c.k c.within in
      entered.no_side c.k c.from c.to (here c.k c.within) (
        body_in c.k c.to c.within c.entered.0,
        λ e. c.entered.1 (e ∙ head),
        ⊎_elim
            (λ (edge : (e : ℕ) × (e < (graph v).edges) × ((graph v).source e ≡ c.from) × ((graph v).target e ≡ Some c.to) × (IsBodyNode v notes c.k c.from → ⊥)).
            inl (edge.0, edge.1, edge.2, edge.3, outside edge.4 (l.inside c.k c.from) refl))
            (λ (entry : (c.from ≡ c.to) × ((f : ℕ) × (f < (graph v).functions) × ((graph v).entry f ≡ c.to))). inr entry)
            c.entered.2,
      )
    where
      outside : (IsBodyNode v notes c.k c.from → ⊥) → (b : Bool) → l.inside c.k c.from ≡ b → b ≡ false
      outside none false is = refl
      outside none true is = absurd (none (in_body c.k c.from c.within is))

-- two records of these loops
module _ (v : FlowGraph) (notes : List LoopNote) (l l' : Loops) (noted : AreNoted notes l) (entered : AreEntered (graph v) l (noted_loops notes).inside) (noted' : AreNoted notes l') (entered' : AreEntered (graph v) l' (noted_loops notes).inside) where
  pub inside_same : (k at : ℕ) → k < length notes → l.inside k at ≡ l'.inside k at
  inside_same k at kl = both_ways (l.inside k at) (l'.inside k at)
      (λ e. body_in v notes l' noted' entered' k at kl (in_body v notes l noted entered k at kl e))
      (λ e. body_in v notes l noted entered k at kl (in_body v notes l' noted' entered' k at kl e))

  pub header_same : (k : ℕ) → k < length notes → l.header k ≡ l'.header k
  header_same k kl = noted.header k kl ∙ sym (noted'.header k kl)

  pub deep_same : (k : ℕ) → k < length notes → IsTooDeep l k → IsTooDeep l' k
  deep_same k kl deep =
      let one : sum_below l.loops (λ j. only (l.inside j (l.header k)) 1) ≡ sum_below l.loops (λ j. only (l'.inside j (l'.header k)) 1) =
      sum-same l.loops (λ j. only (l.inside j (l.header k)) 1) (λ j. only (l'.inside j (l'.header k)) 1)
      (λ j jl. ap (λ b. only b 1) (inside_same j (l.header k) (subst (λ n. j < n) noted.count jl) ∙ ap (l'.inside j) (header_same k kl))) in
      let two : sum_below l.loops (λ j. only (l'.inside j (l'.header k)) 1) ≡ sum_below l'.loops (λ j. only (l'.inside j (l'.header k)) 1) = ap (λ n. sum_below n (λ j. only (l'.inside j (l'.header k)) 1)) (noted.count ∙ sym noted'.count) in
      subst (λ n. 16 < n) (one ∙ two) deep

  pub plain_same : (e : ℕ) → IsPlain (graph v) l e → IsPlain (graph v) l' e
  plain_same e plain k kl =
      let low : k < length notes = subst (λ n. k < n) noted'.count kl in
      ap (λ b. b && is_header l' k ((graph v).target e)) (sym (inside_same k ((graph v).source e) low)) ∙
      ap (λ b. l.inside k ((graph v).source e) && b) (sym (header_test l l' k (header_same k low) ((graph v).target e))) ∙ plain k (here v notes l noted entered k low)

-- ---- trees

module _ (v : FlowGraph) (notes : List LoopNote) (t : LoopView) (is : IsTreeOf v notes t) where
  pub tree_noted : AreNoted notes (loops v t)
  tree_noted = record {
    count = ap length is.headers ∙ length-map notes (λ (note : LoopNote). note.header);
    header = λ k kl. ap (λ xs. slice_index xs k) is.headers ∙ get_or-map (λ (note : LoopNote). note.header) notes k _ 0 kl;
    bound = λ k kl. ap (λ xs. slice_index xs k) is.bounds ∙ get_or-map (λ (note : LoopNote). note.bound) notes k _ 0 kl;
  }

  pub tree_entered : AreEntered (graph v) (loops v t) (noted_loops notes).inside
  tree_entered = accepted_entered is.tree.accepted

  pub tree_shallow : (k : ℕ) → k < length notes → IsTooDeep (loops v t) k → ⊥
  tree_shallow k kl deep = is.tree.accepted.not_deep k (here v notes (loops v t) tree_noted tree_entered k kl) deep

  -- no cycle of plain edges
  no_round : IsFlowGraph v → (refusal : Refusal) → IsCycleRefused v notes refusal → ⊥
  no_round flow refusal c =
      let place : (count : ℕ) × ((place : ℕ → ℕ) × IsPlainOrder (graph v) (loops v t) count place) = theory.plain_order (graph v) flow.program (loops v t) (noted_loops notes).inside is.tree.accepted in
      let at : ℕ → ℕ = place.1.0 in
      no_cycle (IsPlainStep v c.loops) (λ a b. at a < at b) c.cycle
      (λ a b step.
      let plain : IsPlain (graph v) (loops v t) step.0 = plain_same v notes c.loops (loops v t) c.noted c.entered tree_noted tree_entered step.0 step.2 in
      subst (λ x. at x < at b) step.3 (place.1.1.rises step.0 b step.1 plain step.4))
      (λ a b c ab bc. let r : at a < at c = omega arith in r)
      (λ a aa. let bad : ⊥ = omega arith in bad)
      c.is_cycle

  pub tree_not_refused : IsFlowGraph v → (refusal : Refusal) → IsTreeRefusal v notes refusal → ⊥
  tree_not_refused flow refusal (inl (inl c)) = no_header v notes (loops v t) tree_noted tree_entered refusal c
  tree_not_refused flow refusal (inl (inr (inl c))) = no_pair v notes (loops v t) tree_noted tree_entered refusal c
  tree_not_refused flow refusal (inl (inr (inr (inl c)))) = no_back v notes (loops v t) tree_noted tree_entered refusal c
  tree_not_refused flow refusal (inl (inr (inr (inr (inl c))))) = no_entry v notes (loops v t) tree_noted tree_entered refusal c
  tree_not_refused flow refusal (inl (inr (inr (inr (inr c))))) =
      tree_shallow c.k c.within (deep_same v notes c.loops (loops v t) c.noted c.entered tree_noted tree_entered c.k c.within c.deep)
  tree_not_refused flow refusal (inr c) = no_round flow refusal c

-- ---- two refusals

-- the causes in their order
abbrev Last : FlowGraph → List LoopNote → Refusal → Type 0
Last v notes refusal = IsDepthRefused v notes refusal ⊎ IsCycleRefused v notes refusal

abbrev FromEntry : FlowGraph → List LoopNote → Refusal → Type 0
FromEntry v notes refusal = IsEntryRefused v notes refusal ⊎ Last v notes refusal

abbrev FromBack : FlowGraph → List LoopNote → Refusal → Type 0
FromBack v notes refusal = IsBackEdgeRefused v notes refusal ⊎ FromEntry v notes refusal

abbrev FromPair : FlowGraph → List LoopNote → Refusal → Type 0
FromPair v notes refusal = IsPairRefused v notes refusal ⊎ FromBack v notes refusal

abbrev FromHeader : FlowGraph → List LoopNote → Refusal → Type 0
FromHeader v notes refusal = IsHeaderRefused v notes refusal ⊎ FromPair v notes refusal

in_order : (v : FlowGraph) (notes : List LoopNote) (refusal : Refusal) → IsTreeRefusal v notes refusal → FromHeader v notes refusal
in_order v notes refusal (inl (inl c)) = inl c
in_order v notes refusal (inl (inr (inl c))) = inr (inl c)
in_order v notes refusal (inl (inr (inr (inl c)))) = inr (inr (inl c))
in_order v notes refusal (inl (inr (inr (inr (inl c))))) = inr (inr (inr (inl c)))
in_order v notes refusal (inl (inr (inr (inr (inr c))))) = inr (inr (inr (inr (inl c))))
in_order v notes refusal (inr c) = inr (inr (inr (inr (inr c))))

-- of two, both have the first cause or both another
either : {A A' B B' P : Type 0} → (A → A' → P) → (A → B' → ⊥) → (A' → B → ⊥) → (B → B' → P) → A ⊎ B → A' ⊎ B' → P
either both one other none (inl a) (inl a') = both a a'
either both one other none (inl a) (inr b') = absurd (one a b')
either both one other none (inr b) (inl a') = absurd (other a' b)
either both one other none (inr b) (inr b') = none b b'

-- the least pair is one
least_pair : (i j m n : ℕ) → (i < m) ⊎ ((i ≡ m) × (j ≤ n)) → (m < i) ⊎ ((m ≡ i) × (n ≤ j)) → (i ≡ m) × (j ≡ n)
least_pair i j m n (inl a) (inl b) = let bad : ⊥ = omega arith in absurd bad
least_pair i j m n (inl a) (inr b) = let e = b.0 in let bad : ⊥ = omega arith in absurd bad
least_pair i j m n (inr a) (inl b) = let e = a.0 in let bad : ⊥ = omega arith in absurd bad
least_pair i j m n (inr a) (inr b) = let p = a.1 in let q = b.1 in (a.0, (let r : j ≡ n = omega arith in r))

module _ (v : FlowGraph) (notes : List LoopNote) where
  entered_of : (refusal : Refusal) → Last v notes refusal → (l : Loops) × AreNoted notes l × AreEntered (graph v) l (noted_loops notes).inside
  entered_of refusal (inl c) = (c.loops, c.noted, c.entered)
  entered_of refusal (inr c) = (c.loops, c.noted, c.entered)

  header_first : (one other : Refusal) → IsHeaderRefused v notes one → FromPair v notes other → ⊥
  header_first one other c (inl d) = c.unreached (d.reached c.k c.within)
  header_first one other c (inr (inl d)) = c.unreached (d.headers.reached c.k c.within)
  header_first one other c (inr (inr (inl d))) = c.unreached (d.headers.reached c.k c.within)
  header_first one other c (inr (inr (inr d))) = let l = entered_of other d in no_header v notes l.0 l.1 l.2 one c

  pair_first : (one other : Refusal) → IsPairRefused v notes one → FromBack v notes other → ⊥
  pair_first one other c (inl d) = d.headers.distinct c.one c.two c.within c.same
  pair_first one other c (inr (inl d)) = d.headers.distinct c.one c.two c.within c.same
  pair_first one other c (inr (inr d)) = let l = entered_of other d in no_pair v notes l.0 l.1 l.2 one c

  back_first : (one other : Refusal) → IsBackEdgeRefused v notes one → FromEntry v notes other → ⊥
  back_first one other c (inl d) = c.none (d.back_edges c.k c.within)
  back_first one other c (inr d) = let l = entered_of other d in no_back v notes l.0 l.1 l.2 one c

  entry_first : (one other : Refusal) → IsEntryRefused v notes one → Last v notes other → ⊥
  entry_first one other c d = let l = entered_of other d in no_entry v notes l.0 l.1 l.2 one c

  depth_first : (one other : Refusal) → IsDepthRefused v notes one → IsCycleRefused v notes other → ⊥
  depth_first one other c d = d.not_deep c.k c.within (deep_same v notes c.loops d.loops c.noted c.entered d.noted d.entered c.k c.within c.deep)

  -- two of one cause
  least_one : (i j : ℕ) → (i < j → ⊥) → (j < i → ⊥) → i ≡ j
  least_one i j not_less not_more = ⊎_elim
      (λ (lt : i < j). absurd (not_less lt))
      (λ (more : (i ≡ j) ⊎ (j < i)). ⊎_elim (λ (e : i ≡ j). e) (λ (gt : j < i). absurd (not_more gt)) more)
      (less_same_more i j)

  one_header : (one other : Refusal) → IsHeaderRefused v notes one → IsHeaderRefused v notes other → one ≡ other
  one_header one other c d =
      let e = least_one c.k d.k (λ lt. c.unreached (d.first c.k lt)) (λ lt. d.unreached (c.first d.k lt)) in
      c.refusal_is ∙ ap (λ k. HeaderNotReached (k + 1)) e ∙ sym d.refusal_is

  one_pair : (one other : Refusal) → IsPairRefused v notes one → IsPairRefused v notes other → one ≡ other
  one_pair one other c d =
      let a : (d.one < c.one) ⊎ ((d.one ≡ c.one) × (d.two ≤ c.two)) = d.first c.one c.two c.within c.same in
      let b : (c.one < d.one) ⊎ ((c.one ≡ d.one) × (c.two ≤ d.two)) = c.first d.one d.two d.within d.same in
      let e = least_pair d.one d.two c.one c.two a b in
      c.refusal_is ∙ ap (λ k. SameHeader (k + 1) (c.two + 1)) (sym e.0) ∙ ap (λ k. SameHeader (d.one + 1) (k + 1)) (sym e.1) ∙ sym d.refusal_is

  one_back : (one other : Refusal) → IsBackEdgeRefused v notes one → IsBackEdgeRefused v notes other → one ≡ other
  one_back one other c d =
      let e = least_one c.k d.k (λ lt. c.none (d.first c.k lt)) (λ lt. d.none (c.first d.k lt)) in
      c.refusal_is ∙ ap (λ k. NoBackEdge (k + 1)) e ∙ sym d.refusal_is

  one_entry : (one other : Refusal) → IsEntryRefused v notes one → IsEntryRefused v notes other → one ≡ other
  one_entry one other c d =
      let e = least_one c.k d.k (λ lt. d.first c.k c.from c.to lt c.entered) (λ lt. c.first d.k d.from d.to lt d.entered) in
      let a : (d.from < c.from) ⊎ ((d.from ≡ c.from) × (d.to ≤ c.to)) = d.least c.from c.to (subst (λ k. IsNotedSideEntry v notes k c.from c.to) e c.entered) in
      let b : (c.from < d.from) ⊎ ((c.from ≡ d.from) × (c.to ≤ d.to)) = c.least d.from d.to (subst (λ k. IsNotedSideEntry v notes k d.from d.to) (sym e) d.entered) in
      let p = least_pair d.from d.to c.from c.to a b in
      c.refusal_is ∙ ap (λ k. SideEntry (k + 1) c.from c.to) e ∙ ap (λ x. SideEntry (d.k + 1) x c.to) (sym p.0) ∙ ap (λ x. SideEntry (d.k + 1) d.from x) (sym p.1) ∙ sym d.refusal_is

  one_depth : (one other : Refusal) → IsDepthRefused v notes one → IsDepthRefused v notes other → one ≡ other
  one_depth one other c d =
      let e = least_one c.k d.k
      (λ lt. d.first c.k lt (deep_same v notes c.loops d.loops c.noted c.entered d.noted d.entered c.k c.within c.deep))
      (λ lt. c.first d.k lt (deep_same v notes d.loops c.loops d.noted d.entered c.noted c.entered d.k d.within d.deep)) in
      c.refusal_is ∙ ap (λ k. TooDeep (k + 1)) e ∙ sym d.refusal_is

  pub loop_refusals_alike : (one other : Refusal) → IsTreeRefusal v notes one → IsTreeRefusal v notes other → AreAlikeRefusals one other
  loop_refusals_alike one other c d =
      either (λ a b. inl (one_header one other a b)) (header_first one other) (header_first other one)
      (either (λ a b. inl (one_pair one other a b)) (pair_first one other) (pair_first other one)
      (either (λ a b. inl (one_back one other a b)) (back_first one other) (back_first other one)
      (either (λ a b. inl (one_entry one other a b)) (entry_first one other) (entry_first other one)
      (either (λ a b. inl (one_depth one other a b)) (depth_first one other) (depth_first other one)
      (λ a b. inr (inr (record { cycle = a.cycle; cycle' = b.cycle; named = a.refusal_is; named' = b.refusal_is })))))))
      (in_order v notes one c) (in_order v notes other d)
