-- The least cycles to a return and to an exit. Loop bounds are ignored.
use Rattle.std.specs.Prelude.{◌≡◌, ℕ, ◌+◌, ◌<◌, ◌≤◌, true, ◌⊎◌, List, [], ◌∷◌, Option, Some, None, IsSome, unwrap_or}
use Rattle.cost_theory.specs.Graph.{Graph, total}
use Rattle.cost_theory.specs.Worst.{at_some}

-- some thing has this value, and none has a lesser one
pub record IsLeast {A : Type 0} (P : A → Type 0) (value : A → ℕ) (m : ℕ) : Type 0 where
  pub reached : (a : A) × P a × (value a ≡ m)
  pub least : (a : A) → P a → m ≤ value a

abbrev pub IsLeastIfAny : {A : Type 0} → (A → Type 0) → (A → ℕ) → Option ℕ → Type 0
IsLeastIfAny {A = A} P value None = (a : A) → P a → ⊥
IsLeastIfAny P value (Some m) = IsLeast P value m

-- a number that is there and at most m
abbrev pub IsUpTo : Option ℕ → ℕ → Type 0
IsUpTo o m = (z : ℕ) × (o ≡ Some z) × (z ≤ m)

-- by node: the least cycles to a return of its function, to an exit before that return, and to an end of the run
pub record Least : Type 0 where
  pub to_return : ℕ → Option ℕ
  pub to_exit : ℕ → Option ℕ
  pub to_end : ℕ → Option ℕ

-- a walk whose last edge is one of these, and whose other edges lead on
abbrev pub EndsWith : Graph → (ℕ → Type 0) → Option ℕ → List ℕ → Type 0
EndsWith g last p [] = ⊥
EndsWith g last p (e ∷ es) = (e < g.edges) × (p ≡ Some (g.source e)) ×
    (((es ≡ []) × last e) ⊎ (IsSome (g.target e) × EndsWith g last (g.target e) es))

-- a table of optional numbers at an edge's callee: 0 where there is none
abbrev pub callee_value : Graph → (ℕ → Option ℕ) → ℕ → ℕ
callee_value g table e = at_some (g.callee e) (λ f. unwrap_or (table (g.entry f)) 0)

-- The cost of an edge: a completed call's with the least to the callee's return, and that of a call
-- in which the run exits, its End edge, with the least to that exit.
abbrev pub least_call : Graph → Least → ℕ → Option ℕ → ℕ
least_call g n e None = callee_value g n.to_exit e
least_call g n e (Some v) = callee_value g n.to_return e

abbrev pub least_cost : Graph → (ℕ → ℕ) → Least → ℕ → ℕ
least_cost g w n e = w e + least_call g n e (g.target e)

-- the last edge of a walk to a return, and of a walk to an exit: an exit, or a call in which the run exits
abbrev pub IsReturn : Graph → ℕ → Type 0
IsReturn g e = g.returns e ≡ true

abbrev pub IsExit : Graph → Least → ℕ → Type 0
IsExit g n e = (g.exits e ≡ true) ⊎
    ((g.target e ≡ None) × ((f : ℕ) × (g.callee e ≡ Some f) × IsSome (n.to_exit (g.entry f))))

-- An end after a return: the edge by which a call of v's function comes back.
abbrev pub IsReturnTo : Graph → Least → ℕ → ℕ → Type 0
IsReturnTo g n v e = (e < g.edges) × (g.callee e ≡ Some (g.owner v)) × ((u : ℕ) × (g.target e ≡ Some u) × IsSome (n.to_end u))

abbrev pub end_after : Graph → Least → ℕ → ℕ
end_after g n e = at_some (g.target e) (λ u. unwrap_or (n.to_end u) 0)

-- the ways from v to the end of the run: an exit before a return, or a return and then the end
pub data WayToEnd : Type 0 where
  Exits : WayToEnd
  Returns : (e : ℕ) → WayToEnd

abbrev pub IsWay : Graph → Least → ℕ → WayToEnd → Type 0
IsWay g n v Exits = IsSome (n.to_exit v)
IsWay g n v (Returns e) = IsSome (n.to_return v) × IsReturnTo g n v e

abbrev pub way_cost : Graph → Least → ℕ → WayToEnd → ℕ
way_cost g n v Exits = unwrap_or (n.to_exit v) 0
way_cost g n v (Returns e) = unwrap_or (n.to_return v) 0 + end_after g n e

pub record AreLeast (g : Graph) (w : ℕ → ℕ) (n : Least) : Type 0 where
  pub to_return : (v : ℕ) → IsLeastIfAny (EndsWith g (IsReturn g) (Some v)) (total (least_cost g w n)) (n.to_return v)
  pub to_exit : (v : ℕ) → IsLeastIfAny (EndsWith g (IsExit g n) (Some v)) (total (least_cost g w n)) (n.to_exit v)
  pub to_end : (v : ℕ) → IsLeastIfAny (IsWay g n v) (way_cost g n v) (n.to_end v)
