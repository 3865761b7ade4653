-- The graph over reached code: its walks reach what is reached.
use Rattle.std.proofs.Common.{◌≡◌, ℕ, zero, suc, ◌+◌, ◌<◌, Bool, true, false, ◌⊎◌, inl, inr, List, [], ◌∷◌, ◌++◌, length, slice_get, flat_map, Some, refl, sym, ap, ◌∙◌, subst, ⊎_elim}
use Rattle.std.proofs.lemmas.Option.{slice_get_within}
use Rattle.cost_theory.specs.Graph.{Loops, IsWalk, end_of}
use Rattle.cost_theory.specs.declared.flow.Flow.{Flow}
use Rattle.scale_base.specs.declared.edges.Edge.{Edge}
use Rattle.cost_theory.specs.Reached.{LeadsTo, Reached, edges_of, Code, place_after, edge_at, edge_to, call_returns, graph_of, IsCodeOf}
use Rattle.cost_theory.specs.declared.flow.Flow.TheVariants as flow
use Rattle.scale_base.specs.declared.edges.EdgeKind.TheVariants.{Taken, Untaken, Jump, Next, CallNext}
use Rattle.cost_theory.specs.Reached.Reached.{main, onward, back, called}
use Rattle.cost_theory.proofs.Append.{walk-append, end_of-append}

abbrev pub no_loops : Loops
no_loops = record { loops = 0; header = λ k. 0; bound = λ k. 0; least_trips = λ k. 0; inside = λ k v. false }

-- an element of a list
abbrev pub Within : {X : Type 0} → X → List X → Type 0
Within x [] = ⊥
Within x (y ∷ ys) = (y ≡ x) ⊎ Within x ys

pub get_within : {X : Type 0} (xs : List X) (i : ℕ) (x : X) → slice_get xs i ≡ Some x → Within x xs
get_within [] i x e = let bad : ⊥ = cc in absurd bad
get_within (y ∷ ys) zero x e = inl (let r : y ≡ x = cc in r)
get_within (y ∷ ys) (suc i) x e = inr (get_within ys i x e)

pub within_get : {X : Type 0} (xs : List X) (x : X) → Within x xs → (i : ℕ) × (slice_get xs i ≡ Some x)
within_get [] x h = absurd h
within_get (y ∷ ys) x h = ⊎_elim (λ e. (0, ap Some e)) (λ w. let r : (i : ℕ) × (slice_get ys i ≡ Some x) = within_get ys x w in (suc r.0, r.1)) h

pub within_left : {X : Type 0} (xs ys : List X) (x : X) → Within x xs → Within x (xs ++ ys)
within_left [] ys x h = absurd h
within_left (z ∷ zs) ys x h = ⊎_elim (λ e. inl e) (λ w. inr (within_left zs ys x w)) h

pub within_right : {X : Type 0} (xs ys : List X) (x : X) → Within x ys → Within x (xs ++ ys)
within_right [] ys x h = h
within_right (z ∷ zs) ys x h = inr (within_right zs ys x h)

pub within_either : {X : Type 0} (xs ys : List X) (x : X) → Within x (xs ++ ys) → Within x xs ⊎ Within x ys
within_either [] ys x h = inr h
within_either (z ∷ zs) ys x h = ⊎_elim (λ e. inl (inl e)) (λ w. ⊎_elim (λ a. inl (inr a)) (λ b. inr b) (within_either zs ys x w)) h

pub flat_within : {X A : Type 0} (f : X → List A) (vs : List X) (v : X) (x : A) → Within v vs → Within x (f v) → Within x (flat_map f vs)
flat_within f [] v x at h = absurd at
flat_within f (u ∷ us) v x at h = ⊎_elim
    (λ e. within_left (f u) (flat_map f us) x (subst (λ w. Within x (f w)) (sym e) h))
    (λ w. within_right (f u) (flat_map f us) x (flat_within f us v x w h)) at

pub within_flat : {X A : Type 0} (f : X → List A) (vs : List X) (x : A) → Within x (flat_map f vs) → (v : X) × Within v vs × Within x (f v)
within_flat f [] x h = absurd h
within_flat f (u ∷ us) x h = ⊎_elim
    (λ a. (u, inl refl, a))
    (λ b. let r : (v : _) × Within v us × Within x (f v) = within_flat f us x b in (r.0, inr r.1, r.2)) (within_either (f u) (flat_map f us) x h)

-- the edges of a word at v start there
pub edges-at : (w : Flow) (v : ℕ) (b : Bool) (x : Edge) → Within x (edges_of w v b) → x.at ≡ v
edges-at (flow.Branch to) v b x h = ⊎_elim (λ e. sym (ap (λ y. y.at) e)) (λ r. ⊎_elim (λ e. sym (ap (λ y. y.at) e)) (λ n. absurd n) r) h
edges-at (flow.Jump to) v b x h = ⊎_elim (λ e. sym (ap (λ y. y.at) e)) (λ n. absurd n) h
edges-at (flow.Call to) v true x h = ⊎_elim (λ e. sym (ap (λ y. y.at) e)) (λ r. ⊎_elim (λ e. sym (ap (λ y. y.at) e)) (λ n. absurd n) r) h
edges-at (flow.Call to) v false x h = ⊎_elim (λ e. sym (ap (λ y. y.at) e)) (λ n. absurd n) h
edges-at flow.Return v b x h = ⊎_elim (λ e. sym (ap (λ y. y.at) e)) (λ n. absurd n) h
edges-at flow.Exit v b x h = ⊎_elim (λ e. sym (ap (λ y. y.at) e)) (λ n. absurd n) h
edges-at flow.MayExit v b x h = ⊎_elim (λ e. sym (ap (λ y. y.at) e)) (λ r. ⊎_elim (λ e. sym (ap (λ y. y.at) e)) (λ n. absurd n) r) h
edges-at flow.Breakpoint v b x h = ⊎_elim (λ e. sym (ap (λ y. y.at) e)) (λ n. absurd n) h
edges-at flow.Next v b x h = ⊎_elim (λ e. sym (ap (λ y. y.at) e)) (λ n. absurd n) h
edges-at flow.Refused v b x h = absurd h

-- where a word leads an edge leads
pub leads_edge : (w : Flow) (v u : ℕ) (b : Bool) → LeadsTo w v u → (x : Edge) × Within x (edges_of w v b) × (place_after x.kind x.to ≡ Some u)
leads_edge (flow.Branch to) v u b h = ⊎_elim
    (λ e. (record { at = v; kind = Taken; to = to }, inl refl, ap Some (sym e)))
    (λ e. (record { at = v; kind = Untaken; to = v + 4 }, inr (inl refl), ap Some (sym e))) h
leads_edge (flow.Jump to) v u b h = (record { at = v; kind = Jump; to = to }, inl refl, ap Some (sym h))
leads_edge (flow.Call to) v u b h = absurd h
leads_edge flow.Return v u b h = absurd h
leads_edge flow.Exit v u b h = absurd h
leads_edge flow.MayExit v u b h = (record { at = v; kind = Next; to = v + 4 }, inl refl, ap Some (sym h))
leads_edge flow.Breakpoint v u b h = absurd h
leads_edge flow.Next v u b h = (record { at = v; kind = Next; to = v + 4 }, inl refl, ap Some (sym h))
leads_edge flow.Refused v u b h = absurd h

module _ (word : ℕ → Flow) (first : ℕ) (code : Code) (is : IsCodeOf word first code) where
  -- each edge is one of a reached word
  pub edge_of_word : (e : ℕ) (x : Edge) → slice_get code.edges e ≡ Some x →
      (v : ℕ) × ((f : ℕ) × Reached word first f v) × Within x (edges_of (word v) v (call_returns code (word v))) × (x.at ≡ v)
  edge_of_word e x at =
      let here : Within x (flat_map (λ v. edges_of (word v) v (call_returns code (word v))) code.nodes) = subst (λ es. Within x es) is.edges (get_within code.edges e x at) in
      let r : (v : ℕ) × Within v code.nodes × Within x (edges_of (word v) v (call_returns code (word v))) = within_flat (λ v. edges_of (word v) v (call_returns code (word v))) code.nodes x here in
      (r.0, (is.nodes r.0).0 (within_get code.nodes r.0 r.1), r.2, edges-at (word r.0) r.0 (call_returns code (word r.0)) x r.2)

  -- and each edge of a reached word is there
  pub word_edge : (f v : ℕ) (x : Edge) → Reached word first f v → Within x (edges_of (word v) v (call_returns code (word v))) → (e : ℕ) × (e < length code.edges) × (slice_get code.edges e ≡ Some x)
  word_edge f v x reached h =
      let node : (i : ℕ) × (slice_get code.nodes i ≡ Some v) = (is.nodes v).1 (f, reached) in
      let here : Within x (flat_map (λ v. edges_of (word v) v (call_returns code (word v))) code.nodes) = flat_within (λ v. edges_of (word v) v (call_returns code (word v))) code.nodes v x (get_within code.nodes node.0 v node.1) h in
      let r : (e : ℕ) × (slice_get code.edges e ≡ Some x) = within_get code.edges x (subst (λ es. Within x es) (sym is.edges) here) in
      (r.0, slice_get_within code.edges r.0 x r.1, r.1)

  -- one edge more
  pub walk_on : (f v u : ℕ) (x : Edge) → Reached word first f v → Within x (edges_of (word v) v (call_returns code (word v))) → place_after x.kind x.to ≡ Some u →
      ((es : List ℕ) × IsWalk (graph_of word code) (Some f) es × (end_of (graph_of word code) (Some f) es ≡ Some v)) →
      (es : List ℕ) × IsWalk (graph_of word code) (Some f) es × (end_of (graph_of word code) (Some f) es ≡ Some u)
  walk_on f v u x reached h to way =
      let e : (e : ℕ) × (e < length code.edges) × (slice_get code.edges e ≡ Some x) = word_edge f v x reached h in
      let source : edge_at (slice_get code.edges e.0) ≡ v = ap edge_at e.2 ∙ edges-at (word v) v (call_returns code (word v)) x h in
      let target : edge_to (slice_get code.edges e.0) ≡ Some u = ap edge_to e.2 ∙ to in (
        way.0 ++ e.0 ∷ [],
        walk-append (graph_of word code) no_loops way.0 (e.0 ∷ []) (Some f) way.1 (e.1, way.2 ∙ ap Some (sym source), tt),
        end_of-append (graph_of word code) no_loops way.0 (e.0 ∷ []) (Some f) ∙ target,
      )

  -- what is reached a walk from the function's entry reaches
  pub reached_walk : {f v : ℕ} → Reached word first f v → (es : List ℕ) × IsWalk (graph_of word code) (Some f) es × (end_of (graph_of word code) (Some f) es ≡ Some v)
  reached_walk main = ([], tt, refl)
  reached_walk (onward {f = f} {v = v} u r leads) =
      let x : (x : Edge) × Within x (edges_of (word v) v (call_returns code (word v))) × (place_after x.kind x.to ≡ Some u) = leads_edge (word v) v u (call_returns code (word v)) leads in
      walk_on f v u x.0 r x.1 x.2 (reached_walk r)
  reached_walk (back {f = f} {v = v} h r rv calls rr returns) =
      let b : call_returns code (word v) ≡ true = ap (call_returns code) calls ∙ (is.returns h).1 (r, rr, returns) in
      let x : Edge = record { at = v; kind = CallNext; to = v + 4 } in
      let here : Within x (edges_of (word v) v (call_returns code (word v))) = subst (λ t. Within x (edges_of (word v) v t)) (sym b) (subst (λ w. Within x (edges_of w v true)) (sym calls) (inl refl)) in
      walk_on f v (v + 4) x rv here refl (reached_walk rv)
  reached_walk (called h r calls) = ([], tt, refl)
