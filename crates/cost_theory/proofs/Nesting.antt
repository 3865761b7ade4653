-- Loops that are entered at their headers alone are nested or apart.
use Rattle.std.proofs.Common.{◌≡◌, ◌≢◌, ℕ, ◌<◌, ◌≤◌, Bool, true, false, ◌⊎◌, inl, inr, List, [], ◌∷◌, Option, Some, None, refl, sym, ap, ◌∙◌, subst, arith, le_refl, ⊎_elim}
use native.Mathlib.Decide.{ℕ_discrete}
use Rattle.cost_theory.specs.Graph.{Graph, Loops, with_trips, IsWalk, end_of, sum_below, only, is_round, is_header, is_back}
use Rattle.cost_theory.specs.Accepted.{IsNode, IsProgram, StaysWithin, IsInBody, AreCrossing, AreEntered, IsWithin, AreAccepted}
use Rattle.cost_theory.proofs.Basics.{search_below, and_left, only_true, only_false, sum-lt}
use Rattle.cost_theory.proofs.Slack.{AreEnteredAtHeaders}
use Rattle.cost_theory.proofs.Turns.{AreNested}

pub some_same : (a b : ℕ) → Some a ≡ Some b → a ≡ b
some_same a b e = let r : a ≡ b = cc in r

-- accepted loops are entered at their headers alone
pub accepted_entered : {g : Graph} {l : Loops} {extent : ℕ → ℕ → Bool} → AreAccepted g l extent → AreEntered g l extent
accepted_entered acc = record {
  bodies = acc.bodies;
  header_reached = acc.header_reached;
  distinct = acc.distinct;
  back_edge = acc.back_edge;
  no_side = acc.no_side;
}

-- whatever so often they have to turn
pub accepted_with : {g : Graph} {l : Loops} {extent : ℕ → ℕ → Bool} (trips : ℕ → ℕ) → AreAccepted g l extent → AreAccepted g (with_trips l trips) extent
accepted_with trips acc = record {
  bodies = acc.bodies;
  header_reached = acc.header_reached;
  distinct = acc.distinct;
  back_edge = acc.back_edge;
  no_side = acc.no_side;
  no_crossing = acc.no_crossing;
  not_deep = acc.not_deep;
  no_cycle = acc.no_cycle;
}

-- a place that is in a loop's body only as its header
abbrev pub IsAtHeader : Loops → ℕ → Option ℕ → Type 0
IsAtHeader l k p = is_round l k p ≡ true → p ≡ Some (l.header k)

-- one of two loops has the header of the other
abbrev HasHeader : Loops → ℕ → ℕ → Type 0
HasHeader l j k = (l.inside j (l.header k) ≡ true) ⊎ (l.inside k (l.header j) ≡ true)

-- how many edges start in a body
pub size : Graph → Loops → ℕ → ℕ
size g l k = sum_below g.edges (λ e. only (l.inside k (g.source e)) 1)

module _ (g : Graph) (l : Loops) (extent : ℕ → ℕ → Bool) (prog : IsProgram g) (ent : AreEntered g l extent) where
  pub headers-distinct : (j k : ℕ) → j < l.loops → k < l.loops → l.header j ≡ l.header k → j ≡ k
  headers-distinct j k jl kl e = ⊎_elim (λ same. same)
      (λ (either : (j < k) ⊎ (k < j)). ⊎_elim (λ lt. absurd (ent.distinct j k kl (lt, e))) (λ lt. absurd (ent.distinct k j jl (lt, sym e))) either)
      (three j k)
    where
      three : (a b : ℕ) → (a ≡ b) ⊎ ((a < b) ⊎ (b < a))
      three a b = grind arith

  pub side_header : (e k v : ℕ) → e < g.edges → k < l.loops → g.target e ≡ Some v → l.inside k v ≡ true → l.inside k (g.source e) ≡ false → v ≡ l.header k
  side_header e k v lt kl to in_v out_u = go (ℕ_discrete v (l.header k))
    where
      go : Dec (v ≡ l.header k) → v ≡ l.header k
      go (yes q) = q
      go (no ne) = absurd (ent.no_side k (g.source e) v kl (in_v, ne, inl (e, lt, refl, to, out_u)))

  pub entry_header : (f k : ℕ) → f < g.functions → k < l.loops → l.inside k (g.entry f) ≡ true → g.entry f ≡ l.header k
  entry_header f k fl kl in_k = go (ℕ_discrete (g.entry f) (l.header k))
    where
      go : Dec (g.entry f ≡ l.header k) → g.entry f ≡ l.header k
      go (yes q) = q
      go (no ne) = absurd (ent.no_side k (g.entry f) (g.entry f) kl (in_k, ne, inr (refl, (f, fl, refl))))

  pub body_node : (k v : ℕ) → k < l.loops → l.inside k v ≡ true → IsNode g v
  body_node k v kl in_k = go ((ent.bodies k v kl).0 in_k)
    where
      go : IsInBody g (l.header k) (extent k) v → IsNode g v
      go b = (b.2.0, b.2.2.0, some_same _ _ (sym b.2.2.1))

  pub step_at_header : (e k : ℕ) → e < g.edges → k < l.loops → l.inside k (g.source e) ≡ false → IsAtHeader l k (g.target e)
  step_at_header e k lt kl out r = go (g.target e) refl
    where
      go : (o : Option ℕ) → g.target e ≡ o → g.target e ≡ Some (l.header k)
      go None to = let bad : ⊥ = (let q : is_round l k None ≡ true = subst (λ o. is_round l k o ≡ true) to r in cc) in absurd bad
      go (Some v) to = to ∙ ap Some (side_header e k v lt kl to (subst (λ o. is_round l k o ≡ true) to r) out)

  -- a walk into a body passes its header
  pub header_first : (k : ℕ) → k < l.loops → (es : List ℕ) (p : Option ℕ) (v : ℕ) → IsAtHeader l k p → IsWalk g p es → end_of g p es ≡ Some v → l.inside k v ≡ true →
      l.inside k (l.header k) ≡ true
  header_first k kl [] p v at walk ends in_v =
      let r : is_round l k p ≡ true = subst (λ o. is_round l k o ≡ true) (sym ends) in_v in
      subst (λ o. is_round l k o ≡ true) (at r) r
  header_first k kl (e ∷ es) p v at walk ends in_v = go (is_round l k p) refl
      (λ out. header_first k kl es (g.target e) v (step_at_header e k walk.0 kl out) walk.2 ends in_v)
    where
      go : (b : Bool) → is_round l k p ≡ b → (l.inside k (g.source e) ≡ false → l.inside k (l.header k) ≡ true) → l.inside k (l.header k) ≡ true
      go true r ih = subst (λ o. is_round l k o ≡ true) (at r) r
      go false r ih = ih (subst (λ o. is_round l k o ≡ false) walk.1 r)

  pub entry_at_header : (f k : ℕ) → f < g.functions → k < l.loops → IsAtHeader l k (Some (g.entry f))
  entry_at_header f k fl kl r = ap Some (entry_header f k fl kl r)

  pub header_held : (k : ℕ) → k < l.loops → l.inside k (l.header k) ≡ true
  header_held k kl = ⊎_elim
      (λ (b : (e : ℕ) × (e < g.edges) × (is_back g l k e ≡ true)).
      let way : (es : List ℕ) × IsWalk g (Some (g.entry (g.owner (g.source b.0)))) es × (end_of g (Some (g.entry (g.owner (g.source b.0)))) es ≡ Some (g.source b.0)) = prog.reached b.0 b.1 in
      header_first k kl way.0 (Some (g.entry (g.owner (g.source b.0)))) (g.source b.0)
      (entry_at_header (g.owner (g.source b.0)) k (prog.owner_function b.0 b.1) kl) way.1 way.2
      (and_left (l.inside k (g.source b.0)) (is_header l k (g.target b.0)) b.2))
      (λ (none : (e : ℕ) → e < g.edges → is_back g l k e ≡ false). absurd (ent.back_edge k kl none))
      (search_below g.edges (λ e. is_back g l k e))

  -- the walk into two bodies that have each other's headers enters both at once
  headers_meet : (j k : ℕ) → j < l.loops → k < l.loops → l.inside j (l.header k) ≡ true → l.inside k (l.header j) ≡ true →
      (es : List ℕ) (p : Option ℕ) → IsAtHeader l j p → IsAtHeader l k p → IsWalk g p es → end_of g p es ≡ Some (l.header k) → l.header j ≡ l.header k
  headers_meet j k jl kl k_in_j j_in_k [] p at_j at_k walk ends =
      let r : is_round l j p ≡ true = subst (λ o. is_round l j o ≡ true) (sym ends) k_in_j in
      some_same _ _ (sym (at_j r) ∙ ends)
  headers_meet j k jl kl k_in_j j_in_k (e ∷ es) p at_j at_k walk ends = go (is_round l j p) (is_round l k p) refl refl
      (λ out_j out_k. headers_meet j k jl kl k_in_j j_in_k es (g.target e) (step_at_header e j walk.0 jl out_j) (step_at_header e k walk.0 kl out_k) walk.2 ends)
    where
      go : (a b : Bool) → is_round l j p ≡ a → is_round l k p ≡ b → (l.inside j (g.source e) ≡ false → l.inside k (g.source e) ≡ false → l.header j ≡ l.header k) → l.header j ≡ l.header k
      go true b in_j is ih =
          let r : is_round l k p ≡ true = subst (λ o. is_round l k o ≡ true) (sym (at_j in_j)) j_in_k in
          some_same _ _ (sym (at_j in_j) ∙ at_k r)
      go false true out_j in_k ih =
          let r : is_round l j p ≡ true = subst (λ o. is_round l j o ≡ true) (sym (at_k in_k)) k_in_j in
          some_same _ _ (sym (at_j r) ∙ at_k in_k)
      go false false out_j out_k ih = ih (subst (λ o. is_round l j o ≡ false) walk.1 out_j) (subst (λ o. is_round l k o ≡ false) walk.1 out_k)

  -- loops that have each other's headers are one
  pub one_loop : (j k : ℕ) → j < l.loops → k < l.loops → l.inside j (l.header k) ≡ true → l.inside k (l.header j) ≡ true → j ≡ k
  one_loop j k jl kl k_in_j j_in_k = go (body_node k (l.header k) kl (header_held k kl))
    where
      go : IsNode g (l.header k) → j ≡ k
      go node =
          let f : ℕ = g.owner (g.source node.0) in
          let fl : g.owner (g.source node.0) < g.functions = prog.owner_function node.0 node.1 in
          let way : (es : List ℕ) × IsWalk g (Some (g.entry (g.owner (g.source node.0)))) es × (end_of g (Some (g.entry (g.owner (g.source node.0)))) es ≡ Some (g.source node.0)) = prog.reached node.0 node.1 in
          headers-distinct j k jl kl (headers_meet j k jl kl k_in_j j_in_k way.0 (Some (g.entry f)) (entry_at_header f j fl jl) (entry_at_header f k fl kl) way.1 (way.2 ∙ ap Some node.2))

  -- a node of the header's function from which a walk within the extent leads to the header is in the body
  way_inside : (k : ℕ) → k < l.loops → (es : List ℕ) (v : ℕ) → g.owner v ≡ g.owner (l.header k) → IsWalk g (Some v) es → end_of g (Some v) es ≡ Some (l.header k) → StaysWithin g (extent k) es →
      l.inside k v ≡ true
  way_inside k kl [] v owner walk ends stays = subst (λ u. l.inside k u ≡ true) (sym (some_same _ _ ends)) (header_held k kl)
  way_inside k kl (e ∷ es) v owner walk ends stays = (ent.bodies k v kl).1 (owner, held.1, (e, es, walk, ends, stays))
    where
      held : IsInBody g (l.header k) (extent k) (l.header k)
      held = (ent.bodies k (l.header k) kl).0 (header_held k kl)

  -- a way within k from outside j to k's header, which is in j, passes j's header
  way_enters : (j k : ℕ) → j < l.loops → k < l.loops → l.inside j (l.header k) ≡ true → (es : List ℕ) (p : Option ℕ) → ((v : ℕ) → p ≡ Some v → g.owner v ≡ g.owner (l.header k)) → is_round l j p ≡ false →
      IsWalk g p es → end_of g p es ≡ Some (l.header k) → StaysWithin g (extent k) es → l.inside k (l.header j) ≡ true
  way_enters j k jl kl k_in_j [] p owner out walk ends stays =
      let r : is_round l j p ≡ true = subst (λ o. is_round l j o ≡ true) (sym ends) k_in_j in
      let bad : ⊥ = cc in absurd bad
  way_enters j k jl kl k_in_j (e ∷ es) p owner out walk ends stays = go (is_round l j (g.target e)) refl
      (λ still. way_enters j k jl kl k_in_j es (g.target e) owner_next still walk.2 ends stays.1)
    where
      owner_next : (v : ℕ) → g.target e ≡ Some v → g.owner v ≡ g.owner (l.header k)
      owner_next v to = (prog.stays e v walk.0 to).1 ∙ owner (g.source e) walk.1

      go : (b : Bool) → is_round l j (g.target e) ≡ b → (is_round l j (g.target e) ≡ false → l.inside k (l.header j) ≡ true) → l.inside k (l.header j) ≡ true
      go false still ih = ih still
      go true round ih =
          let to : g.target e ≡ Some (l.header j) = step_at_header e j walk.0 jl (subst (λ o. is_round l j o ≡ false) walk.1 out) round in
          way_inside k kl es (l.header j) (owner_next (l.header j) to) (subst (λ o. IsWalk g o es) to walk.2) (subst (λ o. end_of g o es ≡ Some (l.header k)) to ends) stays.1

  -- a loop that has another's header has all its nodes
  holds_all : (j k : ℕ) → j < l.loops → k < l.loops → l.inside j (l.header k) ≡ true → (v : ℕ) → l.inside k v ≡ true → l.inside j v ≡ true
  holds_all j k jl kl k_in_j v in_k = go (l.inside j v) refl
    where
      go : (b : Bool) → l.inside j v ≡ b → l.inside j v ≡ true
      go true is = is
      go false out =
          let body : IsInBody g (l.header k) (extent k) v = (ent.bodies k v kl).0 in_k in
          let j_in_k : l.inside k (l.header j) ≡ true = way_enters j k jl kl k_in_j (body.2.0 ∷ body.2.1) (Some v) (λ u e. ap g.owner (sym (some_same _ _ e)) ∙ body.0) out body.2.2 body.2.3 body.2.4 in
          subst (λ i. l.inside i v ≡ true) (sym (one_loop j k jl kl k_in_j j_in_k)) in_k

  -- a walk into two bodies enters one after the other, at the header of the later one
  headers_on_walk : (j k : ℕ) → j < l.loops → k < l.loops → (es : List ℕ) (p : Option ℕ) (v : ℕ) → (is_round l j p ≡ true → is_round l k p ≡ true → HasHeader l j k) →
      IsWalk g p es → end_of g p es ≡ Some v → l.inside j v ≡ true → l.inside k v ≡ true → HasHeader l j k
  headers_on_walk j k jl kl [] p v at walk ends in_j in_k = at (subst (λ o. is_round l j o ≡ true) (sym ends) in_j) (subst (λ o. is_round l k o ≡ true) (sym ends) in_k)
  headers_on_walk j k jl kl (e ∷ es) p v at walk ends in_j in_k = headers_on_walk j k jl kl es (g.target e) v next walk.2 ends in_j in_k
    where
      next : is_round l j (g.target e) ≡ true → is_round l k (g.target e) ≡ true → HasHeader l j k
      next to_j to_k = go (l.inside j (g.source e)) (l.inside k (g.source e)) refl refl
        where
          go : (a b : Bool) → l.inside j (g.source e) ≡ a → l.inside k (g.source e) ≡ b → HasHeader l j k
          go false b out_j is = inr (subst (λ o. is_round l k o ≡ true) (step_at_header e j walk.0 jl out_j to_j) to_k)
          go true false is_j out_k = inl (subst (λ o. is_round l j o ≡ true) (step_at_header e k walk.0 kl out_k to_k) to_j)
          go true true is_j is_k = at (subst (λ o. is_round l j o ≡ true) (sym walk.1) is_j) (subst (λ o. is_round l k o ≡ true) (sym walk.1) is_k)

  -- of two loops round a node one has the header of the other
  has_header : (j k v : ℕ) → j < l.loops → k < l.loops → l.inside j v ≡ true → l.inside k v ≡ true → HasHeader l j k
  has_header j k v jl kl in_j in_k = go (body_node j v jl in_j)
    where
      go : IsNode g v → HasHeader l j k
      go node =
          let f : ℕ = g.owner (g.source node.0) in
          let fl : g.owner (g.source node.0) < g.functions = prog.owner_function node.0 node.1 in
          let way : (es : List ℕ) × IsWalk g (Some (g.entry (g.owner (g.source node.0)))) es × (end_of g (Some (g.entry (g.owner (g.source node.0)))) es ≡ Some (g.source node.0)) = prog.reached node.0 node.1 in
          headers_on_walk j k jl kl way.0 (Some (g.entry f)) v
          (λ entry_j entry_k. inr (subst (λ u. l.inside k u ≡ true) (entry_header f j fl jl entry_j) entry_k))
          way.1 (way.2 ∙ ap Some node.2) in_j in_k

  -- no two loops cross
  pub no_crossing : (j k : ℕ) → j < l.loops → k < l.loops → AreCrossing l j k → ⊥
  no_crossing j k jl kl cross = ⊎_elim
      (λ k_in_j. let t : l.inside j cross.2.0 ≡ true = holds_all j k jl kl k_in_j cross.2.0 cross.2.2 in let f : l.inside j cross.2.0 ≡ false = cross.2.1 in let bad : ⊥ = cc in bad)
      (λ j_in_k. let t : l.inside k cross.1.0 ≡ true = holds_all k j kl jl j_in_k cross.1.0 cross.1.1 in let f : l.inside k cross.1.0 ≡ false = cross.1.2 in let bad : ⊥ = cc in bad)
      (has_header j k cross.0.0 jl kl cross.0.1 cross.0.2)

  -- a loop whose header is in another lies within it
  pub held_within : (j k : ℕ) → j < l.loops → k < l.loops → j ≢ k → l.inside k (l.header j) ≡ true → IsWithin l j k
  held_within j k jl kl ne j_in_k = record {
    holds = holds_all k j kl jl j_in_k;
    header = apart (l.inside j (l.header k)) refl;
  }
    where
      apart : (b : Bool) → l.inside j (l.header k) ≡ b → l.inside j (l.header k) ≡ false
      apart false is = is
      apart true k_in_j = absurd (ne (one_loop j k jl kl k_in_j j_in_k))

  -- of two loops round a node one lies within the other
  pub one_within : (j k v : ℕ) → j < l.loops → k < l.loops → j ≢ k → l.inside j v ≡ true → l.inside k v ≡ true → IsWithin l j k ⊎ IsWithin l k j
  one_within j k v jl kl ne in_j in_k = ⊎_elim
      (λ k_in_j. inr (held_within k j kl jl (λ e. ne (sym e)) k_in_j))
      (λ j_in_k. inl (held_within j k jl kl ne j_in_k))
      (has_header j k v jl kl in_j in_k)

  -- the loop that is entered lies within the loop that the edge stays in
  pub entered_within : (e j k v : ℕ) → j < l.loops → k < l.loops → l.inside k (g.source e) ≡ true → l.inside k v ≡ true → l.inside j v ≡ true → l.inside j (g.source e) ≡ false → IsWithin l j k
  entered_within e j k v jl kl in_u in_v in_j out_j = ⊎_elim (λ within. within)
      (λ (within : IsWithin l k j). let t : l.inside j (g.source e) ≡ true = within.holds (g.source e) in_u in let bad : ⊥ = cc in absurd bad)
      (one_within j k v jl kl apart in_j in_v)
    where
      apart : j ≡ k → ⊥
      apart eq = let t : l.inside j (g.source e) ≡ true = subst (λ i. l.inside i (g.source e) ≡ true) (sym eq) in_u in let bad : ⊥ = cc in bad

  pub size-lt : (e j k v : ℕ) → e < g.edges → j < l.loops → k < l.loops → g.target e ≡ Some v → l.inside k (g.source e) ≡ true → l.inside k v ≡ true →
      l.inside j v ≡ true → l.inside j (g.source e) ≡ false → size g l j < size g l k
  unfolding size
  size-lt e j k v lt jl kl to in_u in_v in_j out_j =
      sum-lt g.edges (λ d. only (l.inside j (g.source d)) 1) (λ d. only (l.inside k (g.source d)) 1) e lt
      (λ d dl. less (l.inside j (g.source d)) (l.inside k (g.source d)) ((entered_within e j k v jl kl in_u in_v in_j out_j).holds (g.source d)))
      (let a : only (l.inside j (g.source e)) 1 ≡ 0 = only_false (l.inside j (g.source e)) 1 out_j in
      let b : only (l.inside k (g.source e)) 1 ≡ 1 = only_true (l.inside k (g.source e)) 1 in_u in omega arith)
    where
      less : (a b : Bool) → (a ≡ true → b ≡ true) → only a 1 ≤ only b 1
      less true true h = le_refl 1
      less true false h = let t : false ≡ true = h refl in let bad : ⊥ = cc in absurd bad
      less false b h = omega arith

  pub entered_at_headers : AreEnteredAtHeaders g l
  entered_at_headers = record { holds_header = header_held; side = side_header }

  pub nested : AreNested g l
  nested = record {
    ways = entered_at_headers;
    distinct = headers-distinct;
    rank = size g l;
    within = (λ e j k v lt jl kl to in_u in_v in_j out_j.
        (size-lt e j k v lt jl kl to in_u in_v in_j out_j, (entered_within e j k v jl kl in_u in_v in_j out_j).header, (entered_within e j k v jl kl in_u in_v in_j out_j).holds));
  }

  -- For an edge to a loop's header, to start in the loop's extent is to start in its body: so counts by extents are counts by bodies.
  pub extent-body : (e k v : ℕ) → e < g.edges → k < l.loops → g.target e ≡ Some v → v ≡ l.header k → extent k (g.source e) ≡ l.inside k (g.source e)
  extent-body e k v lt kl to at = go (extent k (g.source e)) refl
    where
      to_header : g.target e ≡ Some (l.header k)
      to_header = to ∙ ap Some at

      go : (b : Bool) → extent k (g.source e) ≡ b → b ≡ l.inside k (g.source e)
      go true is = sym (way_inside k kl (e ∷ []) (g.source e) (sym (prog.stays e (l.header k) lt to_header).1) (lt, refl, tt) to_header (is, tt))
      go false is = inside_not (l.inside k (g.source e)) refl
        where
          inside_not : (b : Bool) → l.inside k (g.source e) ≡ b → false ≡ l.inside k (g.source e)
          inside_not false i = sym i
          inside_not true i =
              let body : IsInBody g (l.header k) (extent k) (g.source e) = (ent.bodies k (g.source e) kl).0 i in
              let same : g.source e ≡ g.source body.2.0 = some_same _ _ body.2.2.1 in
              let t : extent k (g.source e) ≡ true = subst (λ u. extent k u ≡ true) (sym same) body.2.4.0 in
              let bad : ⊥ = cc in absurd bad
