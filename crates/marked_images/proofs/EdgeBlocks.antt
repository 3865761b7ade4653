-- The edges of an instruction: at most two, each told by its kind.
use Rattle.std.proofs.Common.{◌≡◌, ◌≢◌, ℕ, zero, suc, ◌+◌, ◌<◌, ◌≤◌, ◌==◌, ◌⊎◌, inl, inr, Bool, true, false, cond, List, [], ◌∷◌, ◌++◌, length, slice_get, flat_map, Some, refl, sym, ap, ◌∙◌, subst, arith, ⊎_elim}
use Rattle.std.specs.Prelude.{All}
use Rattle.std.proofs.lemmas.Bool.{eq-eqb, ne_eqb}
use Rattle.std.proofs.lemmas.List.Elements.{All-nil, All-cons, All-append}
use Rattle.scale_base.specs.declared.fragments.Fragment.{Fragment}
use Rattle.scale_base.specs.declared.edges.Edge.{Edge}
use Rattle.cost_theory.specs.declared.flow.Flow.{Flow}
use Rattle.cost_theory.specs.declared.flow.Flow.TheVariants as flow
use Rattle.cost_theory.specs.Reached.{Code, edges_of, edge_at, call_returns}
use Rattle.cost_theory.proofs.Laws.{Within, get_within, within_get, within_flat, edges-at, some_get}
use Rattle.code_text.specs.Text.{Text, kind_at}
use Rattle.flow_graph.specs.FlowGraph.{FlowGraph, IsGraphOf}
use Rattle.stub_writer.specs.declared.site.StubEdge.{StubEdge}
use Rattle.stub_writer.specs.Sites.{kind_number, fragments_by}
use Rattle.marked_images.specs.Markings.{IsMarkedEdge, AreMarkedEdges}

-- ---- the edges of a word

few_edges : (w : Flow) (u : ℕ) (b : Bool) → length (edges_of w u b) ≤ 2
few_edges (flow.Branch to) u b = omega arith
few_edges (flow.Jump to) u b = omega arith
few_edges (flow.Call to) u true = omega arith
few_edges (flow.Call to) u false = omega arith
few_edges flow.Return u b = omega arith
few_edges flow.Exit u b = omega arith
few_edges flow.MayExit u b = omega arith
few_edges flow.Breakpoint u b = omega arith
few_edges flow.Next u b = omega arith
few_edges flow.Refused u b = omega arith

-- two of one kind stand at one place
one_place : (x : Edge) (i j : ℕ) (a b : Edge) → slice_get (x ∷ []) i ≡ Some a → slice_get (x ∷ []) j ≡ Some b → i ≡ j
one_place x zero zero a b g h = refl
one_place x (suc i) j a b g h = let bad : ⊥ = cc in absurd bad
one_place x zero (suc j) a b g h = let bad : ⊥ = cc in absurd bad

two_places : (x y : Edge) → (kind_number x.kind ≡ kind_number y.kind → ⊥) → (i j : ℕ) (a b : Edge) → slice_get (x ∷ y ∷ []) i ≡ Some a → slice_get (x ∷ y ∷ []) j ≡ Some b → kind_number a.kind ≡ kind_number b.kind → i ≡ j
two_places x y off zero zero a b g h e = refl
two_places x y off zero (suc zero) a b g h e = let p : x ≡ a = cc in let q : y ≡ b = cc in absurd (off (ap (λ (z : Edge). kind_number z.kind) p ∙ (e ∙ sym (ap (λ (z : Edge). kind_number z.kind) q))))
two_places x y off (suc zero) zero a b g h e = let p : y ≡ a = cc in let q : x ≡ b = cc in absurd (off (ap (λ (z : Edge). kind_number z.kind) q ∙ (sym e ∙ sym (ap (λ (z : Edge). kind_number z.kind) p))))
two_places x y off (suc zero) (suc zero) a b g h e = refl
two_places x y off zero (suc (suc j)) a b g h e = let bad : ⊥ = cc in absurd bad
two_places x y off (suc zero) (suc (suc j)) a b g h e = let bad : ⊥ = cc in absurd bad
two_places x y off (suc (suc i)) j a b g h e = let bad : ⊥ = cc in absurd bad

word_places : (w : Flow) (u : ℕ) (r : Bool) (i j : ℕ) (a b : Edge) → slice_get (edges_of w u r) i ≡ Some a → slice_get (edges_of w u r) j ≡ Some b → kind_number a.kind ≡ kind_number b.kind → i ≡ j
word_places (flow.Branch to) u r i j a b g h e = two_places _ _ (λ q. let bad : ⊥ = omega (arith, q) in bad) i j a b g h e
word_places (flow.Jump to) u r i j a b g h e = one_place _ i j a b g h
word_places (flow.Call to) u true i j a b g h e = two_places _ _ (λ q. let bad : ⊥ = omega (arith, q) in bad) i j a b g h e
word_places (flow.Call to) u false i j a b g h e = one_place _ i j a b g h
word_places flow.Return u r i j a b g h e = one_place _ i j a b g h
word_places flow.Exit u r i j a b g h e = one_place _ i j a b g h
word_places flow.MayExit u r i j a b g h e = two_places _ _ (λ q. let bad : ⊥ = omega (arith, q) in bad) i j a b g h e
word_places flow.Breakpoint u r i j a b g h e = one_place _ i j a b g h
word_places flow.Next u r i j a b g h e = one_place _ i j a b g h
word_places flow.Refused u r i j a b g h e = let bad : ⊥ = cc in absurd bad

-- ---- the edges of all nodes

split_get : {A : Type 0} (xs ys : List A) (i : ℕ) (x : A) → slice_get (xs ++ ys) i ≡ Some x → (slice_get xs i ≡ Some x) ⊎ ((j : ℕ) × (i ≡ length xs + j) × (slice_get ys j ≡ Some x))
split_get [] ys i x h = inr (i, omega arith, h)
split_get (z ∷ xs) ys zero x h = inl h
split_get (z ∷ xs) ys (suc i) x h = ⊎_elim (λ l. inl l) (λ r. let e = r.1 in inr (r.0, omega (arith, e), r.2)) (split_get xs ys i x h)

abbrev Rising : List ℕ → Type 0
Rising us = (i j a b : ℕ) → i < j → slice_get us i ≡ Some a → slice_get us j ≡ Some b → a < b

flat_places : (f : ℕ → List Edge) → ((u : ℕ) (x : Edge) → Within x (f u) → x.at ≡ u) → ((u i j : ℕ) (a b : Edge) → slice_get (f u) i ≡ Some a → slice_get (f u) j ≡ Some b → kind_number a.kind ≡ kind_number b.kind → i ≡ j)
    → (us : List ℕ) → Rising us → (i j : ℕ) (a b : Edge) → slice_get (flat_map f us) i ≡ Some a → slice_get (flat_map f us) j ≡ Some b → a.at ≡ b.at → kind_number a.kind ≡ kind_number b.kind → i ≡ j
flat_places f at one [] up i j a b g h s e = let bad : ⊥ = cc in absurd bad
flat_places f at one (u ∷ us) up i j a b g h s e = by (split_get (f u) (flat_map f us) i a g) (split_get (f u) (flat_map f us) j b h) (flat_places f at one us (λ p q c d lt gc gd. up (suc p) (suc q) c d (omega arith) gc gd))
  where
    apart : (x y : Edge) (n m : ℕ) → slice_get (f u) n ≡ Some x → slice_get (flat_map f us) m ≡ Some y → x.at ≡ y.at → ⊥
    apart x y n m gx gy same =
        let w = within_flat f us y (get_within (flat_map f us) m y gy) in
        let p = within_get us w.0 w.1 in
        let first = at u x (get_within (f u) n x gx) in
        let second = at w.0 y w.2 in
        let less = up 0 (suc p.0) u w.0 (omega arith) refl p.1 in
        omega (arith, first, second, less, same)

    by : (slice_get (f u) i ≡ Some a) ⊎ ((k : ℕ) × (i ≡ length (f u) + k) × (slice_get (flat_map f us) k ≡ Some a)) → (slice_get (f u) j ≡ Some b) ⊎ ((k : ℕ) × (j ≡ length (f u) + k) × (slice_get (flat_map f us) k ≡ Some b))
        → ((k m : ℕ) (c d : Edge) → slice_get (flat_map f us) k ≡ Some c → slice_get (flat_map f us) m ≡ Some d → c.at ≡ d.at → kind_number c.kind ≡ kind_number d.kind → k ≡ m) → i ≡ j
    by (inl p) (inl q) rest = one u i j a b p q e
    by (inl p) (inr q) rest = absurd (apart a b i q.0 p q.2 s)
    by (inr p) (inl q) rest = absurd (apart b a j p.0 q p.2 (sym s))
    by (inr p) (inr q) rest = let same = rest p.0 q.0 a b p.2 q.2 s e in let l = p.1 in let r = q.1 in omega (arith, same, l, r)

pigeon : {A : Type 0} (xs : List A) (x y z : A) → length xs ≤ 2 → Within x xs → Within y xs → Within z xs → (x ≡ y) ⊎ ((x ≡ z) ⊎ (y ≡ z))
pigeon [] x y z few a b c = absurd a
pigeon (p ∷ []) x y z few (inl a) (inl b) c = inl (sym a ∙ b)
pigeon (p ∷ []) x y z few (inr a) b c = absurd a
pigeon (p ∷ []) x y z few (inl a) (inr b) c = absurd b
pigeon (p ∷ q ∷ []) x y z few (inl a) (inl b) c = inl (sym a ∙ b)
pigeon (p ∷ q ∷ []) x y z few (inl a) (inr (inl b)) (inl c) = inr (inl (sym a ∙ c))
pigeon (p ∷ q ∷ []) x y z few (inl a) (inr (inl b)) (inr (inl c)) = inr (inr (sym b ∙ c))
pigeon (p ∷ q ∷ []) x y z few (inr (inl a)) (inr (inl b)) c = inl (sym a ∙ b)
pigeon (p ∷ q ∷ []) x y z few (inr (inl a)) (inl b) (inl c) = inr (inr (sym b ∙ c))
pigeon (p ∷ q ∷ []) x y z few (inr (inl a)) (inl b) (inr (inl c)) = inr (inl (sym a ∙ c))
pigeon (p ∷ q ∷ []) x y z few (inr (inr a)) b c = absurd a
pigeon (p ∷ q ∷ []) x y z few (inl a) (inr (inr b)) c = absurd b
pigeon (p ∷ q ∷ []) x y z few (inr (inl a)) (inr (inr b)) c = absurd b
pigeon (p ∷ q ∷ []) x y z few (inl a) (inr (inl b)) (inr (inr c)) = absurd c
pigeon (p ∷ q ∷ []) x y z few (inr (inl a)) (inl b) (inr (inr c)) = absurd c
pigeon (p ∷ q ∷ r ∷ xs) x y z few a b c = let bad : ⊥ = omega arith in absurd bad

module _ (t : Text) (v : FlowGraph) (is : IsGraphOf t v) where
  abbrev code : Code
  code = v.code

  abbrev of : ℕ → List Edge
  of u = edges_of (kind_at t u) u (call_returns v.code (kind_at t u))

  -- an edge is told by its address and its kind
  pub same_edge : (d e : ℕ) (x y : Edge) → slice_get code.edges d ≡ Some x → slice_get code.edges e ≡ Some y → x.at ≡ y.at → kind_number x.kind ≡ kind_number y.kind → d ≡ e
  same_edge d e x y g h s k =
      let lists = is.reached.lists in
      flat_places of (λ u z w. edges-at (kind_at t u) u (call_returns code (kind_at t u)) z w) (λ u i j a b. word_places (kind_at t u) u (call_returns code (kind_at t u)) i j a b)
      code.nodes (λ i j a b. lists.ascending i j a b) d e x y (sym (ap (λ es. slice_get es d) lists.edges) ∙ g) (sym (ap (λ es. slice_get es e) lists.edges) ∙ h) s k

  within_of : (e : ℕ) (x : Edge) (at : ℕ) → slice_get code.edges e ≡ Some x → x.at ≡ at → Within x (of at)
  within_of e x at get here =
      let w = Rattle.cost_theory.proofs.Laws.edge_of_word (kind_at t) t.entry code is.reached.lists e x get in
      subst (λ u. Within x (of u)) (sym w.3 ∙ here) w.2

  -- a row of edges of one address is short
  pub short_row : (first end at : ℕ) → end ≤ length code.edges → ((e : ℕ) → first ≤ e → e < end → edge_at (slice_get code.edges e) ≡ at) → end ≤ first + 2
  short_row first end at within there = ⊎_elim (λ long. absurd (not_long long)) (λ le. le) (Rattle.std.proofs.lemmas.Bool.cases_lt (first + 2) end)
    where
      not_long : first + 2 < end → ⊥
      not_long long =
          let x = some_get code.edges first (omega (arith, long)) in
          let y = some_get code.edges (first + 1) (omega (arith, long)) in
          let z = some_get code.edges (first + 2) (omega (arith, long)) in
          let ax : x.0.at ≡ at = sym (ap edge_at x.1) ∙ there first (omega arith) (omega (arith, long)) in
          let ay : y.0.at ≡ at = sym (ap edge_at y.1) ∙ there (first + 1) (omega arith) (omega (arith, long)) in
          let az : z.0.at ≡ at = sym (ap edge_at z.1) ∙ there (first + 2) (omega arith) (omega (arith, long)) in
          let p = pigeon (of at) x.0 y.0 z.0 (few_edges (kind_at t at) at (call_returns code (kind_at t at))) (within_of first x.0 at x.1 ax) (within_of (first + 1) y.0 at y.1 ay) (within_of (first + 2) z.0 at z.1 az) in
          ⊎_elim (λ q. let e = same_edge first (first + 1) x.0 y.0 x.1 y.1 (ap (λ (w : Edge). w.at) q) (ap (λ (w : Edge). kind_number w.kind) q) in let bad : ⊥ = omega (arith, e) in bad)
          (λ r. ⊎_elim (λ q. let e = same_edge first (first + 2) x.0 z.0 x.1 z.1 (ap (λ (w : Edge). w.at) q) (ap (λ (w : Edge). kind_number w.kind) q) in let bad : ⊥ = omega (arith, e) in bad)
          (λ q. let e = same_edge (first + 1) (first + 2) y.0 z.0 y.1 z.1 (ap (λ (w : Edge). w.at) q) (ap (λ (w : Edge). kind_number w.kind) q) in let bad : ⊥ = omega (arith, e) in bad) r) p

  -- ---- the marked ones so far

  module _ (frags : ℕ → List Fragment) (at : ℕ) where
    none_of : (n : ℕ) (es : List StubEdge) (kind : ℕ) → All (IsMarkedEdge v frags at n) es → ((s : StubEdge) → IsMarkedEdge v frags at n s → kind_number s.edge.kind ≢ kind) → fragments_by kind es ≡ []
    none_of n [] kind all off = refl
    none_of n (s ∷ es) kind all off =
        ap (λ b. cond b s.fragments (fragments_by kind es)) (ne_eqb (kind_number s.edge.kind) kind (off s (all 0 s (omega arith)))) ∙ none_of n es kind (λ k d lt. all (suc k) d (omega arith)) off

    other_end : (es : List StubEdge) (s : StubEdge) (kind : ℕ) → kind_number s.edge.kind ≢ kind → fragments_by kind (es ++ s ∷ []) ≡ fragments_by kind es
    other_end [] s kind off = ap (λ b. cond b s.fragments []) (ne_eqb (kind_number s.edge.kind) kind off)
    other_end (z ∷ es) s kind off = ap (cond (kind_number z.edge.kind == kind) z.fragments) (other_end es s kind off)

    -- none of those before is of the kind of the next
    off_next : (n : ℕ) (x : Edge) → slice_get code.edges n ≡ Some x → x.at ≡ at → (s : StubEdge) → IsMarkedEdge v frags at n s → kind_number s.edge.kind ≢ kind_number x.kind
    off_next n x get here s m = λ e. (let same = same_edge m.number n s.edge x m.get get (m.starts ∙ sym here) e in let lt = m.below in let bad : ⊥ = omega (arith, same, lt) in bad)

    wider : (n : ℕ) (es : List StubEdge) → All (IsMarkedEdge v frags at n) es → All (IsMarkedEdge v frags at (n + 1)) es
    wider n es all k d lt = let m = all k d lt in record { number = m.number; below = (let b = m.below in omega (arith, b)); get = m.get; starts = m.starts; has = m.has; some = m.some }

    pub marked_none : (n : ℕ) → ((e : ℕ) (x : Edge) → e < n → slice_get code.edges e ≡ Some x → x.at ≢ at) → AreMarkedEdges v frags at n []
    marked_none n off = record { each = All-nil (IsMarkedEdge v frags at n); whole = λ e x lt get here. absurd (off e x lt get here) }

    pub marked_skip : (n : ℕ) (es : List StubEdge) → AreMarkedEdges v frags at n es → frags n ≡ [] → AreMarkedEdges v frags at (n + 1) es
    marked_skip n es so none = record {
      each = wider n es so.each;
      whole = λ e x lt get here. ⊎_elim (λ less. so.whole e x less get here)
          (λ more. let same : e ≡ n = omega (arith, lt, more) in
          let gn : slice_get code.edges n ≡ Some x = ap (slice_get code.edges) (sym same) ∙ get in
          none_of n es (kind_number x.kind) so.each (off_next n x gn here) ∙ (sym none ∙ ap frags (sym same)))
          (Rattle.std.proofs.lemmas.Bool.cases_lt e n);
    }

    last : (n : ℕ) (s : StubEdge) (zs : List StubEdge) (kind : ℕ) → kind_number s.edge.kind ≡ kind → fragments_by kind zs ≡ [] → All (IsMarkedEdge v frags at n) zs → fragments_by kind (zs ++ s ∷ []) ≡ s.fragments
    last n s [] kind on none all = ap (λ b. cond b s.fragments []) (eq-eqb (kind_number s.edge.kind) kind on)
    last n s (z ∷ zs) kind on none all = by (kind_number z.edge.kind == kind) refl (λ rest. last n s zs kind on rest (λ k d lt. all (suc k) d (omega arith)))
      where
        by : (b : Bool) → (kind_number z.edge.kind == kind) ≡ b → (fragments_by kind zs ≡ [] → fragments_by kind (zs ++ s ∷ []) ≡ s.fragments) → fragments_by kind ((z ∷ zs) ++ s ∷ []) ≡ s.fragments
        by true is more = let m = all 0 z (omega arith) in
            let empty : z.fragments ≡ [] = sym (ap (λ b. cond b z.fragments (fragments_by kind zs)) is) ∙ none in
            absurd (m.some (sym m.has ∙ empty))
        by false is more = ap (λ b. cond b z.fragments (fragments_by kind (zs ++ s ∷ []))) is ∙ more (sym (ap (λ b. cond b z.fragments (fragments_by kind zs)) is) ∙ none)

    pub marked_push : (n : ℕ) (es : List StubEdge) (s : StubEdge) → AreMarkedEdges v frags at n es → slice_get code.edges n ≡ Some s.edge → s.edge.at ≡ at → s.fragments ≡ frags n → frags n ≢ [] → AreMarkedEdges v frags at (n + 1) (es ++ s ∷ [])
    marked_push n es s so get here has some = record {
      each = All-append (IsMarkedEdge v frags at (n + 1)) es (s ∷ []) (wider n es so.each)
          (All-cons (IsMarkedEdge v frags at (n + 1)) s [] (record { number = n; below = omega arith; get = get; starts = here; has = has; some = some }) (All-nil (IsMarkedEdge v frags at (n + 1))));
      whole = λ e x lt ge hx. ⊎_elim
          (λ less. other_end es s (kind_number x.kind) (λ q. let same = same_edge n e s.edge x get ge (here ∙ sym hx) q in let bad : ⊥ = omega (arith, same, less) in bad) ∙ so.whole e x less ge hx)
          (λ more. let same : e ≡ n = omega (arith, lt, more) in
          let eq : s.edge ≡ x = (let g2 : slice_get code.edges n ≡ Some x = ap (slice_get code.edges) (sym same) ∙ ge in cc) in
          last n s es (kind_number x.kind) (ap (λ (w : Edge). kind_number w.kind) eq)
          (none_of n es (kind_number x.kind) so.each (λ z m. subst (λ (w : Edge). kind_number z.edge.kind ≢ kind_number w.kind) eq (off_next n s.edge get here z m))) so.each
          ∙ (has ∙ ap frags (sym same)))
          (Rattle.std.proofs.lemmas.Bool.cases_lt e n);
    }

    pub marked_all : (n : ℕ) (es : List StubEdge) → AreMarkedEdges v frags at n es → n ≤ length code.edges → ((e : ℕ) → n ≤ e → e < length code.edges → edge_at (slice_get code.edges e) ≡ at → ⊥) → AreMarkedEdges v frags at (length code.edges) es
    marked_all n es so le off = record {
      each = λ k d lt. let m = so.each k d lt in record { number = m.number; below = (let b = m.below in omega (arith, b)); get = m.get; starts = m.starts; has = m.has; some = m.some };
      whole = λ e x lt get here. ⊎_elim (λ less. so.whole e x less get here) (λ more. absurd (off e more lt (ap edge_at get ∙ here))) (Rattle.std.proofs.lemmas.Bool.cases_lt e n);
    }

-- ---- lists that are empty

pub length_none : {A : Type 0} (xs : List A) → length xs ≡ 0 → xs ≡ []
length_none [] e = refl
length_none (x ∷ xs) e = let bad : ⊥ = omega (arith, e) in absurd bad

pub map_none : {A B : Type 0} (f : A → B) (xs : List A) → xs ≡ [] → Rattle.std.proofs.Common.map f xs ≡ []
map_none f [] e = refl
map_none f (x ∷ xs) e = let bad : ⊥ = cc in absurd bad

pub map_some : {A B : Type 0} (f : A → B) (xs : List A) → Rattle.std.proofs.Common.map f xs ≡ [] → xs ≡ []
map_some f [] e = refl
map_some f (x ∷ xs) e = let bad : ⊥ = cc in absurd bad
