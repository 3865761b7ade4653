-- The worst cycles of functions hold walks from their entries in range.
use Rattle.std.proofs.Common.{◌≡◌, ℕ, ◌+◌, ◌^◌, ◌<◌, ◌≤◌, Bool, true, false, ◌&&◌, inl, inr, List, [], ◌∷◌, ◌++◌, Option, Some, None, is_some, refl, ap, ◌∙◌, arith}
use Rattle.cost_theory.specs.Graph.{Graph, Loops, total, end_of, IsPlain, IsPlainPath, goes_back}
use Rattle.cost_theory.specs.Worst.{Numbers, at_some, cost, charged}
use Rattle.cost_theory.proofs.Laws.{worst_equation, function-worst, call_order, plain_from_entry}
use Rattle.least_cycles.specs.Tables.{AreFunctionLimits}
use Rattle.cost_theory.specs.Least.{EndsWith}
use Rattle.cost_theory.specs.Laws.{IsAnalyzed}

-- an edge that leads to no node is no back edge
end_plain : (g : Graph) (l : Loops) (e : ℕ) → g.target e ≡ None → IsPlain g l e
end_plain g l e none k kl = ap (goes_back l k (g.source e)) none ∙ never (l.inside k (g.source e))
  where
    never : (b : Bool) → (b && false) ≡ false
    never true = refl
    never false = refl

-- a plain path and a last edge are a walk that ends with it, and a plain path
module _ (g : Graph) (l : Loops) (last : ℕ → Type 0) (e : ℕ) (lt : e < g.edges) (is_last : last e) (plain : IsPlain g l e) where
  leads : (p : Option ℕ) (xs : List ℕ) → IsPlainPath g l p xs → end_of g p xs ≡ Some (g.source e) → is_some p ≡ true
  leads p [] path ends = ap is_some ends
  leads p (x ∷ xs) path ends = ap is_some path.1

  pub as_walk : (xs : List ℕ) (p : Option ℕ) → IsPlainPath g l p xs → end_of g p xs ≡ Some (g.source e) → EndsWith g last p (xs ++ e ∷ [])
  as_walk [] p path ends = (lt, ends, inl (refl, is_last))
  as_walk (x ∷ xs) p path ends = (path.0, path.1, inr (leads (g.target x) xs path.3 ends, as_walk xs (g.target x) path.3 ends))

  pub as_path : (xs : List ℕ) (p : Option ℕ) → IsPlainPath g l p xs → end_of g p xs ≡ Some (g.source e) → IsPlainPath g l p (xs ++ e ∷ [])
  as_path [] p path ends = (lt, ends, plain, tt)
  as_path (x ∷ xs) p path ends = (path.0, path.1, path.2, as_path xs (g.target x) path.3 ends)

module _ (g : Graph) (l : Loops) (c d : ℕ → ℕ) (less : (e : ℕ) → e < g.edges → c e ≤ d e) where
  path_le : (es : List ℕ) (p : Option ℕ) → IsPlainPath g l p es → total c es ≤ total d es
  path_le [] p path = omega arith
  path_le (e ∷ es) p path = let a = less e path.0 in let b = path_le es (g.target e) path.3 in omega arith

module _ (g : Graph) (l : Loops) (extent : ℕ → ℕ → Bool) (w : ℕ → ℕ) (n : Numbers) (is : IsAnalyzed g l extent w n) where
  -- The worst cycles of functions are limits, where no edge costs more than it is charged there.
  pub limits_hold : n.worst 0 ≤ 2 ^ 48 → (own : ℕ → ℕ) →
      ((e : ℕ) → e < g.edges → own e + at_some (g.callee e) n.worst ≤ charged g l n (cost g n w) e) → AreFunctionLimits g own n.worst
  limits_hold few own less = record {
    small = λ f fl. let a = function-worst g l extent w n is.program is.accepted is.weights is.numbers (call_order g is.program).0 (call_order g is.program).1 f fl in omega arith;
    way = λ e lt none.
        let way = plain_from_entry g l extent is.program is.accepted e lt in
        let start = Some (g.entry (g.owner (g.source e))) in
        let fl = is.program.owner_function e lt in
        let path = as_path g l (λ d. d ≡ e) e lt refl (end_plain g l e none) way.0 start way.1 way.2 in
        let a = path_le g l (λ d. own d + at_some (g.callee d) n.worst) (charged g l n (cost g n w)) less (way.0 ++ e ∷ []) start path in
        let b = (is.numbers.loops.plain (g.entry (g.owner (g.source e)))).most (way.0 ++ e ∷ []) path in
        let c = (is.numbers.loops.left (g.entry (g.owner (g.source e)))).over_plain in
        let d = worst_equation g l extent w n is.program is.accepted is.weights is.numbers (g.owner (g.source e)) fl in
        (way.0 ++ e ∷ [], as_walk g l (λ d. d ≡ e) e lt refl (end_plain g l e none) way.0 start way.1 way.2, omega arith);
  }
