-- Edges into a loop.
use Rattle.std.proofs.Common.{◌≡◌, ◌≢◌, ℕ, zero, suc, ◌+◌, ◌<◌, ◌≤◌, Bool, true, false, List, [], ◌∷◌, ◌++◌, length, take, refl, sym, ap, ◌∙◌, subst, arith, Option, Some, None, ◌⊎◌, inl, inr, ⊎_elim, set}
use Rattle.std.specs.Prelude.{slice_get}
use Rattle.std.proofs.lemmas.Bool.{cases_eq, cases_lt, cases_Bool, both_ways}
use Rattle.std.proofs.lemmas.Option.{slice_get_within}
use Rattle.graph_algorithms.specs.Keys.{HasKey, IsLastBelow}
use Rattle.graph_algorithms.proofs.ChainLaws.{key_within}
use Rattle.graph_algorithms.specs.Bodies.{HasEdge, IsIn, AreNodes, IsSideEdge, IsPairUpTo, IsLeastPair, IsLesserPair}
use Rattle.graph_algorithms.specs.BodySearch.{is_marked_at, AreUnmarked, IsMarkedBody, IsLeastUnmarked}
use Rattle.graph_algorithms.proofs.EdgeLaws.{IsPast, get_from_key, key_from_get}
use Rattle.graph_algorithms.proofs.BodyLaws.{marked_add, marked_none}

-- ---- a chain of edges
some_same : {A : Type 0} (a b : A) (o : Option A) → o ≡ Some a → o ≡ Some b → a ≡ b
some_same a b o p q = cc

-- something is so of each source of the edges to a node, as far as the chain was walked
abbrev pub IsPassedBy : List ℕ → List (Option ℕ) → ℕ → (ℕ → Type 0) → Option ℕ → Type 0
IsPassedBy sources targets node P next = (e v : ℕ) → IsPast next e → HasKey targets e node → slice_get sources e ≡ Some v → P v

module _ (sources : List ℕ) (targets : List (Option ℕ)) (node : ℕ) where
  pub by_start : (P : ℕ → Type 0) (next : Option ℕ) → IsLastBelow targets (length targets) node next → IsPassedBy sources targets node P next
  by_start P next last e v past key at =
      let w = last.greatest e (key_within targets e node key) key in
      let lt = past w.0 w.1 in
      let le = w.2 in
      absurd (let bad : ⊥ = omega arith in bad)

  pub by_next : (P Q : ℕ → Type 0) (edge source : ℕ) (next : Option ℕ) → ((v : ℕ) → P v → Q v) → slice_get sources edge ≡ Some source → Q source →
      IsLastBelow targets edge node next → IsPassedBy sources targets node P (Some edge) → IsPassedBy sources targets node Q next
  by_next P Q edge source next onward at_edge here before passed e v past key at = ⊎_elim
      (λ (lt : e < edge). let w = before.greatest e lt key in let a = past w.0 w.1 in let b = w.2 in absurd (let bad : ⊥ = omega arith in bad))
      (λ (ge : edge ≤ e). ⊎_elim
      (λ (is : e ≡ edge). subst Q (some_same source v (slice_get sources edge) at_edge (ap (slice_get sources) (sym is) ∙ at)) here)
      (λ (ne : e ≡ edge → ⊥). let d : e ≢ edge = ne in onward v (passed e v (λ s is. let same : edge ≡ s = cc in (let q : s < e = omega arith in q)) key at))
      (cases_eq e edge))
      (cases_lt e edge)

  pub by_end : (P : ℕ → Type 0) (next : Option ℕ) → next ≡ None → IsPassedBy sources targets node P next → (v : ℕ) → HasEdge sources targets v node → P v
  by_end P next none passed v edge = passed edge.0 v (λ s is. absurd (let bad : ⊥ = cc in bad)) (key_from_get targets edge.0 node edge.2) edge.1

  pub edge_of : (e v : ℕ) → HasKey targets e node → slice_get sources e ≡ Some v → HasEdge sources targets v node
  edge_of e v key at = (e, at, get_from_key targets e node key)

-- ---- the least unmarked node
-- the node isn't below the least one, if it is unmarked
abbrev pub IsOver : List Bool → Option ℕ → ℕ → Type 0
IsOver found least v = is_marked_at found v ≡ false → (w : ℕ) × (least ≡ Some w) × (w ≤ v)

abbrev pub IsUnmarkedSource : List ℕ → List (Option ℕ) → List Bool → ℕ → Option ℕ → Type 0
IsUnmarkedSource sources targets found node least = (w : ℕ) → least ≡ Some w → HasEdge sources targets w node × (is_marked_at found w ≡ false)

-- one source more
pub record IsTurn (sources : List ℕ) (targets : List (Option ℕ)) (found : List Bool) (node source : ℕ) (least then : Option ℕ) : Type 0 where
  pub unmarked : IsUnmarkedSource sources targets found node then
  pub onward : (v : ℕ) → IsOver found least v → IsOver found then v
  pub here : IsOver found then source

module _ (sources : List ℕ) (targets : List (Option ℕ)) (found : List Bool) (node source : ℕ) (least then : Option ℕ) where
  pub turn_taken : (r : ℕ) → then ≡ Some r → is_marked_at found source ≡ false → HasEdge sources targets source node →
      (r ≤ source) × ((k : ℕ) → least ≡ Some k → r ≤ k) × ((r ≡ source) ⊎ (least ≡ Some r)) →
      IsUnmarkedSource sources targets found node least → IsTurn sources targets found node source least then
  turn_taken r e free edge lesser was = record {
    unmarked = λ w is. let same : r ≡ w = some_same r w then e is in
        subst (λ x. HasEdge sources targets x node × (is_marked_at found x ≡ false)) same
        (⊎_elim (λ (s : r ≡ source). subst (λ x. HasEdge sources targets x node × (is_marked_at found x ≡ false)) (sym s) (edge, free)) (λ (old : least ≡ Some r). was r old) lesser.2);
    onward = λ v over f. let w = over f in let le = lesser.1 w.0 w.1 in let more = w.2 in (r, e, (let q : r ≤ v = omega arith in q));
    here = λ f. (r, e, lesser.0);
  }

  pub turn_passed : then ≡ least → is_marked_at found source ≡ true → IsUnmarkedSource sources targets found node least → IsTurn sources targets found node source least then
  turn_passed e marked was = record {
    unmarked = λ w is. was w (sym e ∙ is);
    onward = λ v over f. let w = over f in (w.0, e ∙ w.1, w.2);
    here = λ f. absurd (both_ways (is_marked_at found source) f marked);
  }

pub least_end : (sources : List ℕ) (targets : List (Option ℕ)) (found : List Bool) (node : ℕ) (least : Option ℕ) →
    IsUnmarkedSource sources targets found node least → ((v : ℕ) → HasEdge sources targets v node → IsOver found least v) → IsLeastUnmarked sources targets found node least
least_end sources targets found node None is over = λ v edge. ⊎_elim (λ t. t) (λ f. let w = over v edge f in let bad : ⊥ = (let e = w.1 in cc) in absurd bad) (cases_Bool (is_marked_at found v))
least_end sources targets found node (Some w) is over = (
  (is w refl).0,
  (is w refl).1,
  λ v edge free. let u = over v edge free in let le = u.2 in let same : w ≡ u.0 = (let e = u.1 in cc) in (let q : w ≤ v = omega arith in q),
)

-- ---- marks
take_get : (xs : List ℕ) (n p v : ℕ) → slice_get (take n xs) p ≡ Some v → (p < n) × (slice_get xs p ≡ Some v)
take_get [] zero p v h = let bad : ⊥ = cc in absurd bad
take_get [] (suc n) p v h = let bad : ⊥ = cc in absurd bad
take_get (x ∷ xs) zero p v h = let bad : ⊥ = cc in absurd bad
take_get (x ∷ xs) (suc n) zero v h = ((let r : 0 < suc n = omega arith in r), h)
take_get (x ∷ xs) (suc n) (suc p) v h = let ih = take_get xs n p v h in let lt = ih.0 in ((let r : suc p < suc n = omega arith in r), ih.1)

take_suc : (xs : List ℕ) (n x : ℕ) → slice_get xs n ≡ Some x → take (suc n) xs ≡ take n xs ++ x ∷ []
take_suc [] n x h = let bad : ⊥ = cc in absurd bad
take_suc (y ∷ ys) zero x h = let same : y ≡ x = cc in ap (λ z. z ∷ []) same
take_suc (y ∷ ys) (suc n) x h = ap (λ zs. y ∷ zs) (take_suc ys n x h)

take_next : (xs : List ℕ) (n x : ℕ) → slice_get xs n ≡ Some x → take (n + 1) xs ≡ take n xs ++ x ∷ []
take_next xs n x h = let e : n + 1 ≡ suc n = omega arith in ap (λ m. take m xs) e ∙ take_suc xs n x h

take_end : (xs : List ℕ) (n : ℕ) → length xs ≤ n → take n xs ≡ xs
take_end [] zero h = refl
take_end [] (suc n) h = refl
take_end (x ∷ xs) zero h = let bad : ⊥ = omega arith in absurd bad
take_end (x ∷ xs) (suc n) h = ap (λ ys. x ∷ ys) (take_end xs n (omega arith))

pub mark_start : (found : List Bool) (body : List ℕ) → AreUnmarked found → IsMarkedBody found (take 0 body)
mark_start found body none = marked_none found (take 0 body) none (zero_taken body)
  where
    zero_taken : (xs : List ℕ) → take 0 xs ≡ []
    zero_taken [] = refl
    zero_taken (x ∷ xs) = refl

pub mark_next : (found : List Bool) (body : List ℕ) (n node : ℕ) → AreNodes (length found) body → slice_get body n ≡ Some node → IsMarkedBody found (take n body) → IsMarkedBody (set found node true) (take (n + 1) body)
mark_next found body n node are at was =
    subst (IsMarkedBody (set found node true)) (sym (take_next body n node at))
    (marked_add found (take n body) node was (are.within n node at) (free (is_marked_at found node) refl))
  where
    free : (b : Bool) → is_marked_at found node ≡ b → is_marked_at found node ≡ false
    free false e = e
    free true e =
        let w = was.listed node e in
        let t = take_get body n w.0 node w.1 in
        let lt = t.0 in
        let same : w.0 ≡ n = are.once w.0 n node t.1 at in
        absurd (let bad : ⊥ = omega arith in bad)

pub mark_end : (found : List Bool) (body : List ℕ) (n : ℕ) → length body ≤ n → IsMarkedBody found (take n body) → IsMarkedBody found body
mark_end found body n end was = subst (IsMarkedBody found) (take_end body n end) was

-- ---- least pairs
up_to_trans : (a b c d e f : ℕ) → IsPairUpTo a b c d → IsPairUpTo c d e f → IsPairUpTo a b e f
up_to_trans a b c d e f one two = ⊎_elim
    (λ (lt : a < c). inl (⊎_elim (λ (more : c < e). let r : a < e = omega arith in r) (λ (same : (c ≡ e) × (d ≤ f)). let s = same.0 in let r : a < e = omega arith in r) two))
    (λ (here : (a ≡ c) × (b ≤ d)). let s = here.0 in let le = here.1 in ⊎_elim
    (λ (more : c < e). inl (let r : a < e = omega arith in r))
    (λ (same : (c ≡ e) × (d ≤ f)). let t = same.0 in let more = same.1 in inr ((let r : a ≡ e = omega arith in r), (let r : b ≤ f = omega arith in r)))
    two)
    one

-- the same pairs
pub least_same : (S T : ℕ → ℕ → Type 0) (o : Option (ℕ × ℕ)) → ((a b : ℕ) → S a b → T a b) → ((a b : ℕ) → T a b → S a b) → IsLeastPair S o → IsLeastPair T o
least_same S T None to from least = λ a b t. least a b (from a b t)
least_same S T (Some p) to from least = (to p.0 p.1 least.0, λ a b t. least.1 a b (from a b t))

-- more pairs, of which one is the least
pub least_more : (S T : ℕ → ℕ → Type 0) (o : Option (ℕ × ℕ)) (pair r : ℕ × ℕ) → ((a b : ℕ) → S a b → T a b) → T pair.0 pair.1 → ((a b : ℕ) → T a b → S a b ⊎ IsPairUpTo pair.0 pair.1 a b) →
    IsLesserPair o pair r → IsLeastPair S o → IsLeastPair T (Some r)
least_more S T o pair r to here from lesser least = (
  ⊎_elim (λ (e : r ≡ pair). subst (λ q. T q.0 q.1) (sym e) here) (λ (e : o ≡ Some r). to r.0 r.1 (of_least o e least)) lesser.one_of_them,
  λ a b t. ⊎_elim (λ (s : S a b). under o refl least a b s) (λ (u : IsPairUpTo pair.0 pair.1 a b). up_to_trans r.0 r.1 pair.0 pair.1 a b lesser.up_to_pair u) (from a b t),
)
  where
    of_least : (q : Option (ℕ × ℕ)) → q ≡ Some r → IsLeastPair S q → S r.0 r.1
    of_least None e l = let bad : ⊥ = cc in absurd bad
    of_least (Some p) e l = let same : p ≡ r = cc in subst (λ q. S q.0 q.1) same l.0

    under : (q : Option (ℕ × ℕ)) → o ≡ q → IsLeastPair S q → (a b : ℕ) → S a b → IsPairUpTo r.0 r.1 a b
    under None e l a b s = absurd (l a b s)
    under (Some p) e l a b s = up_to_trans r.0 r.1 p.0 p.1 a b (lesser.up_to_least p e) (l.1 a b s)

-- the edges from unmarked nodes to those below a place of a body, apart from the header
pub record IsSideBelow (sources : List ℕ) (targets : List (Option ℕ)) (found : List Bool) (header : ℕ) (body : List ℕ) (n from to : ℕ) : Type 0 where
  pub edge : HasEdge sources targets from to
  pub place : ℕ
  pub below : place < n
  pub at : slice_get body place ≡ Some to
  pub aside : to ≢ header
  pub free : is_marked_at found from ≡ false

module _ (sources : List ℕ) (targets : List (Option ℕ)) (found : List Bool) (header : ℕ) (body : List ℕ) where
  longer : (n a b : ℕ) → IsSideBelow sources targets found header body n a b → IsSideBelow sources targets found header body (n + 1) a b
  longer n a b side = record { edge = side.edge; place = side.place; below = (let lt = side.below in omega arith); at = side.at; aside = side.aside; free = side.free }

  split : (n node a b : ℕ) → slice_get body n ≡ Some node → IsSideBelow sources targets found header body (n + 1) a b →
      IsSideBelow sources targets found header body n a b ⊎ ((b ≡ node) × IsSideBelow sources targets found header body (n + 1) a b)
  split n node a b at side = ⊎_elim
      (λ (e : side.place ≡ n). inr (some_same b node (slice_get body n) (ap (slice_get body) (sym e) ∙ side.at) at, side))
      (λ (ne : side.place ≡ n → ⊥). let d : side.place ≢ n = ne in let lt = side.below in
      inl (record { edge = side.edge; place = side.place; below = omega arith; at = side.at; aside = side.aside; free = side.free }))
      (cases_eq side.place n)

  -- the node is the header
  pub side_header : (n node : ℕ) (o : Option (ℕ × ℕ)) → slice_get body n ≡ Some node → node ≡ header →
      IsLeastPair (IsSideBelow sources targets found header body n) o → IsLeastPair (IsSideBelow sources targets found header body (n + 1)) o
  side_header n node o at e least = least_same (IsSideBelow sources targets found header body n) (IsSideBelow sources targets found header body (n + 1)) o (longer n)
      (λ a b side. ⊎_elim (λ s. s) (λ (new : (b ≡ node) × IsSideBelow sources targets found header body (n + 1) a b). absurd (side.aside (new.0 ∙ e))) (split n node a b at side)) least

  -- no edge leads to the node from an unmarked one
  pub side_none : (n node : ℕ) (o : Option (ℕ × ℕ)) → slice_get body n ≡ Some node → ((v : ℕ) → HasEdge sources targets v node → is_marked_at found v ≡ true) →
      IsLeastPair (IsSideBelow sources targets found header body n) o → IsLeastPair (IsSideBelow sources targets found header body (n + 1)) o
  side_none n node o at none least = least_same (IsSideBelow sources targets found header body n) (IsSideBelow sources targets found header body (n + 1)) o (longer n)
      (λ a b side. ⊎_elim (λ s. s)
      (λ (new : (b ≡ node) × IsSideBelow sources targets found header body (n + 1) a b). absurd (both_ways (is_marked_at found a) side.free (none a (subst (HasEdge sources targets a) new.0 side.edge))))
      (split n node a b at side)) least

  -- the least edge to the node from an unmarked one
  pub side_next : (n node from : ℕ) (o : Option (ℕ × ℕ)) (r : ℕ × ℕ) → slice_get body n ≡ Some node → node ≢ header → IsLeastUnmarked sources targets found node (Some from) → IsLesserPair o (from, node) r →
      IsLeastPair (IsSideBelow sources targets found header body n) o → IsLeastPair (IsSideBelow sources targets found header body (n + 1)) (Some r)
  side_next n node from o r at ne is lesser least = least_more (IsSideBelow sources targets found header body n) (IsSideBelow sources targets found header body (n + 1)) o (from, node) r (longer n)
      (record { edge = is.0; place = n; below = omega arith; at = at; aside = ne; free = is.1 })
      (λ a b side. ⊎_elim (λ s. inl s)
      (λ (new : (b ≡ node) × IsSideBelow sources targets found header body (n + 1) a b).
      let e = new.0 in
      let le = is.2 a (subst (HasEdge sources targets a) new.0 side.edge) side.free in
      inr (⊎_elim (λ (lt : from < a). inl lt) (λ (ge : a ≤ from). inr ((let q : from ≡ a = omega arith in q), (let q : node ≤ b = omega arith in q))) (cases_lt from a)))
      (split n node a b at side)) lesser least

  pub side_end : (n : ℕ) (o : Option (ℕ × ℕ)) → length body ≤ n → IsMarkedBody found body →
      IsLeastPair (IsSideBelow sources targets found header body n) o → IsLeastPair (IsSideEdge sources targets header body) o
  side_end n o end marked least = least_same (IsSideBelow sources targets found header body n) (IsSideEdge sources targets header body) o
      (λ a b side. (side.edge, (side.place, side.at), side.aside, λ (is : IsIn body a). both_ways (is_marked_at found a) side.free (marked.flagged is.0 a is.1)))
      (λ a b side. record {
        edge = side.0;
        place = side.1.0;
        below = (let lt = slice_get_within body side.1.0 b side.1.1 in omega arith);
        at = side.1.1;
        aside = side.2;
        free = ⊎_elim (λ (t : is_marked_at found a ≡ true). absurd (side.3 (marked.listed a t))) (λ f. f) (cases_Bool (is_marked_at found a));
      }) least
