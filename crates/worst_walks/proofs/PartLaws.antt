-- A path, and an iteration, over one more edge.
use Rattle.std.proofs.Common.{◌≡◌, ℕ, ◌+◌, ◌<◌, true, inl, inr, List, [], ◌∷◌, ◌++◌, length, get_or, take, Option, Some, None, slice_get, refl, sym, ap, ◌∙◌, subst, add-one}
use Rattle.std.proofs.Math.Seq.{take-suc, take-length}
use Rattle.cost_theory.specs.Graph.{Graph, Loops, end_of, is_round, is_back, IsPlain, IsPlainPath, IsClosing}
use Rattle.flow_graph.specs.FlowGraph.{FlowGraph, graph}
use Rattle.worst_walks.specs.Tallies.{place_of}

-- a plain path within loop k
abbrev pub IsPlainWithin : Graph → Loops → ℕ → Option ℕ → List ℕ → Type 0
IsPlainWithin g l k p [] = Unit {0}
IsPlainWithin g l k p (e ∷ es) = (e < g.edges) × (p ≡ Some (g.source e)) × IsPlain g l e × (is_round l k (g.target e) ≡ true) × IsPlainWithin g l k (g.target e) es

module _ (g : Graph) (l : Loops) where
  path_snoc : (es : List ℕ) (p : Option ℕ) (e : ℕ) → IsPlainPath g l p es → end_of g p es ≡ Some (g.source e) → e < g.edges → IsPlain g l e →
      IsPlainPath g l p (es ++ e ∷ []) × (end_of g p (es ++ e ∷ []) ≡ g.target e)
  path_snoc [] p e path ends lt plain = ((lt, ends, plain, tt), refl)
  path_snoc (x ∷ es) p e path ends lt plain =
      let more : IsPlainPath g l (g.target x) (es ++ e ∷ []) × (end_of g (g.target x) (es ++ e ∷ []) ≡ g.target e) = path_snoc es (g.target x) e path.3 ends lt plain in
      ((path.0, path.1, path.2, more.0), more.1)

  within_snoc : (k : ℕ) (es : List ℕ) (p : Option ℕ) (e : ℕ) → IsPlainWithin g l k p es → end_of g p es ≡ Some (g.source e) → e < g.edges → IsPlain g l e → is_round l k (g.target e) ≡ true →
      IsPlainWithin g l k p (es ++ e ∷ []) × (end_of g p (es ++ e ∷ []) ≡ g.target e)
  within_snoc k [] p e path ends lt plain round = ((lt, ends, plain, round, tt), refl)
  within_snoc k (x ∷ es) p e path ends lt plain round =
      let more : IsPlainWithin g l k (g.target x) (es ++ e ∷ []) × (end_of g (g.target x) (es ++ e ∷ []) ≡ g.target e) = within_snoc k es (g.target x) e path.4 ends lt plain round in
      ((path.0, path.1, path.2, path.3, more.0), more.1)

  -- closed by a back edge
  pub closed : (k : ℕ) (es : List ℕ) (p : Option ℕ) (e : ℕ) → IsPlainWithin g l k p es → end_of g p es ≡ Some (g.source e) → e < g.edges → is_back g l k e ≡ true →
      IsClosing g l k p (es ++ e ∷ [])
  closed k [] p e path ends lt back = (lt, ends, inl (back, refl))
  closed k (x ∷ es) p e path ends lt back = (path.0, path.1, inr (path.2, path.3, closed k es (g.target x) e path.4 ends lt back))

  -- where the first j edges are a path to a place
  pub record IsPathTo (p : Option ℕ) (es : List ℕ) (j : ℕ) (at : Option ℕ) : Type 0 where
    pub path : IsPlainPath g l p (take j es)
    pub ends : end_of g p (take j es) ≡ at

  pub path_more : (p : Option ℕ) (es : List ℕ) (j e : ℕ) (at to : Option ℕ) → IsPathTo p es j at → j < length es → get_or es j 0 ≡ e → e < g.edges → at ≡ Some (g.source e) → IsPlain g l e →
      g.target e ≡ to → IsPathTo p es (j + 1) to
  path_more p es j e at to before jl is lt starts plain leads =
      let more : IsPlainPath g l p (take j es ++ e ∷ []) × (end_of g p (take j es ++ e ∷ []) ≡ g.target e) = path_snoc (take j es) p e before.path (before.ends ∙ starts) lt plain in
      let one : take (j + 1) es ≡ take j es ++ e ∷ [] = ap (λ n. take n es) (add-one j) ∙ take-suc es j 0 jl ∙ ap (λ x. take j es ++ x ∷ []) is in
      record { path = subst (λ xs. IsPlainPath g l p xs) (sym one) more.0; ends = ap (end_of g p) one ∙ more.1 ∙ leads }

  pub record IsWithinTo (k : ℕ) (p : Option ℕ) (es : List ℕ) (j : ℕ) (at : Option ℕ) : Type 0 where
    pub path : IsPlainWithin g l k p (take j es)
    pub ends : end_of g p (take j es) ≡ at

  pub within_more : (k : ℕ) (p : Option ℕ) (es : List ℕ) (j e : ℕ) (at to : Option ℕ) → IsWithinTo k p es j at → j < length es → get_or es j 0 ≡ e → e < g.edges → at ≡ Some (g.source e) → IsPlain g l e →
      is_round l k (g.target e) ≡ true → g.target e ≡ to → IsWithinTo k p es (j + 1) to
  within_more k p es j e at to before jl is lt starts plain round leads =
      let more : IsPlainWithin g l k p (take j es ++ e ∷ []) × (end_of g p (take j es ++ e ∷ []) ≡ g.target e) = within_snoc k (take j es) p e before.path (before.ends ∙ starts) lt plain round in
      let one : take (j + 1) es ≡ take j es ++ e ∷ [] = ap (λ n. take n es) (add-one j) ∙ take-suc es j 0 jl ∙ ap (λ x. take j es ++ x ∷ []) is in
      record { path = subst (λ xs. IsPlainWithin g l k p xs) (sym one) more.0; ends = ap (end_of g p) one ∙ more.1 ∙ leads }

  pub closed_at : (k : ℕ) (p : Option ℕ) (es : List ℕ) (j e : ℕ) (at : Option ℕ) → IsWithinTo k p es j at → j < length es → get_or es j 0 ≡ e → e < g.edges → at ≡ Some (g.source e) → is_back g l k e ≡ true →
      j + 1 ≡ length es → IsClosing g l k p es
  closed_at k p es j e at before jl is lt starts back full =
      let one : take (j + 1) es ≡ take j es ++ e ∷ [] = ap (λ n. take n es) (add-one j) ∙ take-suc es j 0 jl ∙ ap (λ x. take j es ++ x ∷ []) is in
      let all : take (j + 1) es ≡ es = ap (λ n. take n es) full ∙ take-length es in
      subst (λ xs. IsClosing g l k p xs) (sym one ∙ all) (closed k (take j es) p e before.path (before.ends ∙ starts) lt back)

-- what target answers
pub leads_to : (v : FlowGraph) (e : ℕ) (o : Option ℕ) → ((k : ℕ) → o ≡ Some k → (graph v).target e ≡ slice_get v.code.nodes k) → (o ≡ None → (graph v).target e ≡ None) → (graph v).target e ≡ place_of v o
leads_to v e None some none = none refl
leads_to v e (Some k) some none = some k refl
