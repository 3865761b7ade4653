-- Worst cycles grow with the weights.
use Rattle.std.proofs.Common.{◌≡◌, ℕ, zero, suc, ◌<◌, ◌≤◌, List, [], ◌∷◌, Option, Some, None, refl, ap, ◌∙◌, subst, arith}
use Rattle.cost_theory.specs.Graph.{Graph, Loops, IsWalk, total}
use Rattle.cost_theory.specs.Accepted.{IsProgram, IsCallOrder}
use Rattle.cost_theory.specs.Worst.{Numbers, AreWorst, cost, at_some}
use Rattle.cost_theory.proofs.Laws.{call_order}

module _ (g : Graph) (l : Loops) (prog : IsProgram g) (w other : ℕ → ℕ) (n m : Numbers) (worst : AreWorst g l w n) (others : AreWorst g l other m) (le : (e : ℕ) → e < g.edges → w e ≤ other e) (rank : ℕ → ℕ) (order : IsCallOrder g rank) where
  abbrev Owned : ℕ → Option ℕ → Type 0
  Owned f None = Unit {0}
  Owned f (Some v) = g.owner v ≡ f

  callee_le : (o : Option ℕ) → ((h : ℕ) → o ≡ Some h → n.worst h ≤ m.worst h) → at_some o n.worst ≤ at_some o m.worst
  callee_le None h = omega arith
  callee_le (Some f) h = h f refl

  walk_le : (f : ℕ) → ((h : ℕ) → h < g.functions → rank h < rank f → n.worst h ≤ m.worst h) → (p : Option ℕ) (es : List ℕ) → IsWalk g p es → Owned f p → total (cost g n w) es ≤ total (cost g m other) es
  walk_le f below p [] walk own = omega arith
  walk_le f below p (e ∷ es) walk own =
      let lt = walk.0 in
      let here : g.owner (g.source e) ≡ f = subst (Owned f) walk.1 own in
      let call = callee_le (g.callee e) (λ h is. below h (prog.callee_function e h lt is) (let r = order.falls (g.source e) h (e, lt, refl, is) in let q = ap rank here in omega (arith, r, q))) in
      let rest = walk_le f below (g.target e) es walk.2 (next (g.target e) refl) in
      let one = le e lt in
      omega (arith, call, rest, one)
    where
      next : (o : Option ℕ) → g.target e ≡ o → Owned f o
      next None to = tt
      next (Some v) to = (prog.stays e v walk.0 to).1 ∙ subst (Owned f) walk.1 own

  worst_le : (r f : ℕ) → f < g.functions → rank f < r → n.worst f ≤ m.worst f
  worst_le zero f lt small = let bad : ⊥ = omega (arith, small) in absurd bad
  worst_le (suc r) f lt small =
      let reached = (worst f lt).reached in
      let most = (others f lt).most reached.0 reached.1 in
      let walk = walk_le f (λ h hl falls. worst_le r h hl (omega (arith, falls, small))) (Some (g.entry f)) reached.0 reached.1.0 (prog.entry_owner f lt) in
      let is = reached.2 in
      omega (arith, most, walk, is)

-- where no weight is greater, neither are the worst cycles of a function
pub worst_grows : (g : Graph) (l : Loops) → IsProgram g → (w other : ℕ → ℕ) (n m : Numbers) → AreWorst g l w n → AreWorst g l other m → ((e : ℕ) → e < g.edges → w e ≤ other e) → (f : ℕ) → f < g.functions → n.worst f ≤ m.worst f
worst_grows g l prog w other n m worst others le f lt =
    let o = call_order g prog in
    worst_le g l prog w other n m worst others le o.0 o.1 (suc (o.0 f)) f lt (omega arith)
