-- Along plain edges the header of a loop comes before the nodes of its body.
use Rattle.std.proofs.Common.{◌≡◌, ℕ, ◌<◌, Bool, true, false, List, [], ◌∷◌, Option, Some, sym, subst, refl, ⊎_elim, nat_eq}
use Rattle.std.proofs.lemmas.Bool.{eqb-true}
use Rattle.std.proofs.lemmas.Option.{same_Some}
use Rattle.cost_theory.specs.Graph.{Graph, Loops, IsWalk, end_of, IsPlain, is_back, is_header}
use Rattle.cost_theory.specs.Accepted.{IsNode, IsProgram, AreEntered}
use Rattle.cost_theory.proofs.Laws.{search_below, and_left, and_right, side_header, entry_header, body_node}

module _ (g : Graph) (l : Loops) (extent : ℕ → ℕ → Bool) (prog : IsProgram g) (ent : AreEntered g l extent) (R : ℕ → ℕ → Type 0) (same : (a : ℕ) → R a a)
    (step : (a e p : ℕ) → e < g.edges → IsPlain g l e → g.target e ≡ Some p → R a (g.source e) → R a p) where
  -- the headers of the loops round a node come before it, and those round the headers of these before them
  record IsBehindHeaders (p : ℕ) : Type 0 where
    pub here : (k : ℕ) → k < l.loops → l.inside k p ≡ true → R (l.header k) p
    pub outer : (j k : ℕ) → j < l.loops → k < l.loops → l.inside j p ≡ true → l.inside k (l.header j) ≡ true → R (l.header k) (l.header j)

  at_header : (k p : ℕ) → p ≡ l.header k → R (l.header k) p
  at_header k p e = subst (λ x. R (l.header k) x) (sym e) (same (l.header k))

  of_entry : (f : ℕ) → f < g.functions → IsBehindHeaders (g.entry f)
  of_entry f fl =
      let first : (k : ℕ) → k < l.loops → l.inside k (g.entry f) ≡ true → R (l.header k) (g.entry f) = λ k kl in_k. at_header k (g.entry f) (entry_header g l extent prog ent f k fl kl in_k) in
      record {
        here = first;
        outer = λ j k jl kl in_j in_k.
            let e : g.entry f ≡ l.header j = entry_header g l extent prog ent f j fl jl in_j in
            subst (λ x. R (l.header k) x) e (first k kl (subst (λ x. l.inside k x ≡ true) (sym e) in_k));
      }

  -- over an edge: where the loops round its end have their headers before it, those round their headers follow
  with_outer : (e p : ℕ) → e < g.edges → g.target e ≡ Some p → IsBehindHeaders (g.source e) → ((k : ℕ) → k < l.loops → l.inside k p ≡ true → R (l.header k) p) → IsBehindHeaders p
  with_outer e p lt to before first = record {
    here = first;
    outer = λ j k jl kl in_j in_k. go j k jl kl in_j in_k (l.inside j (g.source e)) refl;
  }
    where
      go : (j k : ℕ) → j < l.loops → k < l.loops → l.inside j p ≡ true → l.inside k (l.header j) ≡ true → (b : Bool) → l.inside j (g.source e) ≡ b → R (l.header k) (l.header j)
      go j k jl kl in_j in_k true from = before.outer j k jl kl from in_k
      go j k jl kl in_j in_k false from =
          let here : p ≡ l.header j = side_header g l extent prog ent e j p lt jl to in_j from in
          subst (λ x. R (l.header k) x) here (first k kl (subst (λ x. l.inside k x ≡ true) (sym here) in_k))

  over_plain : (e p : ℕ) → e < g.edges → IsPlain g l e → g.target e ≡ Some p → IsBehindHeaders (g.source e) → (k : ℕ) → k < l.loops → l.inside k p ≡ true → R (l.header k) p
  over_plain e p lt plain to before k kl in_k = go (l.inside k (g.source e)) refl
    where
      go : (b : Bool) → l.inside k (g.source e) ≡ b → R (l.header k) p
      go true from = step (l.header k) e p lt plain to (before.here k kl from)
      go false from = at_header k p (side_header g l extent prog ent e k p lt kl to in_k from)

  over_back : (e p j : ℕ) → j < l.loops → is_back g l j e ≡ true → g.target e ≡ Some p → IsBehindHeaders (g.source e) → (k : ℕ) → k < l.loops → l.inside k p ≡ true → R (l.header k) p
  over_back e p j jl back to before k kl in_k =
      let from : l.inside j (g.source e) ≡ true = and_left (l.inside j (g.source e)) (is_header l j (g.target e)) back in
      let at : is_header l j (g.target e) ≡ true = and_right (l.inside j (g.source e)) (is_header l j (g.target e)) back in
      let at_p : nat_eq p (l.header j) ≡ true = subst (λ o. is_header l j o ≡ true) to at in
      let here : p ≡ l.header j = eqb-true p (l.header j) at_p in
      subst (λ x. R (l.header k) x) (sym here) (before.outer j k jl kl from (subst (λ x. l.inside k x ≡ true) here in_k))

  over_edge : (e p : ℕ) → e < g.edges → g.target e ≡ Some p → IsBehindHeaders (g.source e) → IsBehindHeaders p
  over_edge e p lt to before = ⊎_elim
      (λ (back : (j : ℕ) × (j < l.loops) × (is_back g l j e ≡ true)). with_outer e p lt to before (over_back e p back.0 back.1 back.2 to before))
      (λ (plain : (j : ℕ) → j < l.loops → is_back g l j e ≡ false). with_outer e p lt to before (over_plain e p lt plain to before))
      (search_below l.loops (λ j. is_back g l j e))

  along : (v : ℕ) (es : List ℕ) (o : Option ℕ) → ((p : ℕ) → o ≡ Some p → IsBehindHeaders p) → IsWalk g o es → end_of g o es ≡ Some v → IsBehindHeaders v
  along v [] o before walk ends = before v ends
  along v (e ∷ es) o before walk ends = along v es (g.target e) (λ p to. over_edge e p walk.0 to (before (g.source e) walk.1)) walk.2 ends

  -- the header of a loop comes before a node of its body
  pub header_before : (k v : ℕ) → k < l.loops → l.inside k v ≡ true → R (l.header k) v
  header_before k v kl in_k =
      let node : IsNode g v = body_node g l extent prog ent k v kl in_k in
      let walk = prog.reached node.0 node.1 in
      let f = g.owner (g.source node.0) in
      let fl : g.owner (g.source node.0) < g.functions = prog.owner_function node.0 node.1 in
      let behind : IsBehindHeaders (g.source node.0) = along (g.source node.0) walk.0 (Some (g.entry (g.owner (g.source node.0))))
      (λ p e. subst IsBehindHeaders (same_Some (g.entry (g.owner (g.source node.0))) p e) (of_entry (g.owner (g.source node.0)) fl)) walk.1 walk.2 in
      subst (λ x. R (l.header k) x) node.2 (behind.here k kl (subst (λ x. l.inside k x ≡ true) (sym node.2) in_k))
