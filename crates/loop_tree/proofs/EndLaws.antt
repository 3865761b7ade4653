-- The ends of a graph's edges, and one element more behind a list.
use Rattle.std.proofs.Common.{◌≡◌, ℕ, zero, suc, List, [], ◌∷◌, ◌++◌, length, refl, arith, Option, Some, ◌⊎◌, inl, inr, ⊎_elim}
use Rattle.std.specs.Prelude.{slice_get}
use Rattle.flow_graph.specs.Ends.{AreEdgeEnds}
use Rattle.flow_graph.specs.FlowGraph.{FlowGraph}

pub push_cases : {A : Type 0} (xs : List A) (x v : A) (p : ℕ) → slice_get (xs ++ x ∷ []) p ≡ Some v → (slice_get xs p ≡ Some v) ⊎ ((p ≡ length xs) × (x ≡ v))
push_cases [] x v zero h = let same : x ≡ v = cc in inr (refl, same)
push_cases [] x v (suc p) h = let bad : ⊥ = cc in absurd bad
push_cases (y ∷ ys) x v zero h = inl h
push_cases (y ∷ ys) x v (suc p) h = ⊎_elim (λ old. inl old) (λ new. let at = new.0 in inr ((let r : suc p ≡ length (y ∷ ys) = omega arith in r), new.1)) (push_cases ys x v p h)

-- the sources and the targets that are told each by itself
pub both_ends : (v : FlowGraph) (sources : List ℕ) (targets : List (Option ℕ)) → ((others : List (Option ℕ)) × AreEdgeEnds v sources others) → ((others : List ℕ) × AreEdgeEnds v others targets) → AreEdgeEnds v sources targets
both_ends v sources targets from to = record {
  sources_size = from.1.sources_size;
  targets_size = to.1.targets_size;
  source = from.1.source;
  target = to.1.target;
  end = to.1.end;
}
