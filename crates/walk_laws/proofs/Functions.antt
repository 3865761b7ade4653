-- What functions go through with all that they call.
use Rattle.std.proofs.Common.{◌≡◌, ℕ, zero, suc, ◌+◌, ◌<◌, List, [], ◌∷◌, ◌++◌, Option, Some, None, refl, sym, ap, ap₂, ◌∙◌, arith}
use Rattle.cost_theory.specs.Graph.{Graph, IsWalk, total}
use Rattle.cost_theory.specs.Worst.{at_some}
use Rattle.cost_theory.specs.Accepted.{IsProgram, IsCallOrder}
use Rattle.cost_theory.proofs.Laws.{some_same}
use Rattle.walk_laws.proofs.Joined.{total-append}
use Rattle.walk_laws.specs.Walks.{called_edges, with_calls}

abbrev pub whole_at : Graph → (ℕ → List ℕ) → ℕ → ℕ → List ℕ
whole_at g own zero f = []
whole_at g own (suc m) f = with_calls g (whole_at g own m) (own f)

-- what an edge costs with the function that it calls
abbrev pub called_cost : Graph → (ℕ → List ℕ) → (ℕ → ℕ) → ℕ → ℕ
called_cost g whole c e = c e + at_some (g.callee e) (λ f. total c (whole f))

pub calls_cost : (g : Graph) (whole : ℕ → List ℕ) (c : ℕ → ℕ) (es : List ℕ) → total c (with_calls g whole es) ≡ total (called_cost g whole c) es
calls_cost g whole c [] = refl
calls_cost g whole c (e ∷ es) =
    total-append c (e ∷ called_edges whole (g.callee e)) (with_calls g whole es) ∙
    ap₂ (λ x y. x + y) (go (g.callee e)) (calls_cost g whole c es)
  where
    go : (o : Option ℕ) → c e + total c (called_edges whole o) ≡ c e + at_some o (λ f. total c (whole f))
    go None = refl
    go (Some f) = refl

module _ (g : Graph) (prog : IsProgram g) (order : ℕ → ℕ) (calls : IsCallOrder g order)
    (own : ℕ → List ℕ) (walks : (f : ℕ) → f < g.functions → IsWalk g (Some (g.entry f)) (own f)) where
  same_called : (whole whole' : ℕ → List ℕ) (f e : ℕ) → e < g.edges → g.owner (g.source e) ≡ f →
      ((h : ℕ) → h < g.functions → order h < order f → whole h ≡ whole' h) → called_edges whole (g.callee e) ≡ called_edges whole' (g.callee e)
  same_called whole whole' f e lt owner same = go (g.callee e) refl
    where
      go : (o : Option ℕ) → g.callee e ≡ o → called_edges whole o ≡ called_edges whole' o
      go None is = refl
      go (Some h) is =
          let low : order h < order (g.owner (g.source e)) = calls.falls (g.source e) h (e, lt, refl, is) in
          let eq : order (g.owner (g.source e)) ≡ order f = ap order owner in
          same h (prog.callee_function e h lt is) (omega arith)

  same_calls : (whole whole' : ℕ → List ℕ) (f : ℕ) (es : List ℕ) (p : Option ℕ) → ((v : ℕ) → p ≡ Some v → g.owner v ≡ f) → IsWalk g p es →
      ((h : ℕ) → h < g.functions → order h < order f → whole h ≡ whole' h) → with_calls g whole es ≡ with_calls g whole' es
  same_calls whole whole' f [] p owned walk same = refl
  same_calls whole whole' f (e ∷ es) p owned walk same =
      let here : g.owner (g.source e) ≡ f = owned (g.source e) walk.1 in
      ap₂ (λ xs ys. (e ∷ xs) ++ ys) (same_called whole whole' f e walk.0 here same)
      (same_calls whole whole' f es (g.target e) (λ v to. (prog.stays e v walk.0 to).1 ∙ here) walk.2 same)

  stable : (m f : ℕ) → f < g.functions → order f < m → whole_at g own (suc m) f ≡ whole_at g own m f
  stable zero f fl low = let bad : ⊥ = omega arith in absurd bad
  stable (suc m) f fl low = same_calls (whole_at g own (suc m)) (whole_at g own m) f (own f) (Some (g.entry f))
      (λ v e. ap g.owner (sym (some_same (g.entry f) v e)) ∙ prog.entry_owner f fl) (walks f fl)
      (λ h hl less. stable m h hl (omega arith))

  pub wholes_exist : (whole : ℕ → List ℕ) × ((f : ℕ) → f < g.functions → whole f ≡ with_calls g whole (own f))
  wholes_exist = (whole_at g own g.functions, λ f fl. sym (stable g.functions f fl (calls.below f fl)))
