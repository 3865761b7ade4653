-- Worst cycles exist, from the called functions upwards.
use Rattle.std.proofs.Common.{◌≡◌, ℕ, zero, suc, ◌+◌, ◌<◌, Bool, true, false, cond, ltb, List, [], ◌∷◌, Option, Some, None, refl, sym, ap, ◌∙◌, subst, arith, lt-ltb, ltb-true}
use Rattle.cost_theory.specs.Graph.{Graph, Loops, IsWalk, total, sum_below, only}
use Rattle.cost_theory.specs.Worst.{Numbers, IsGreatest, at_some, cost, all_of, AreLoopNumbers, AreWorst, IsBoundedWalk}
use Rattle.cost_theory.specs.Accepted.{IsProgram, AreAccepted, IsPlainOrder, IsCallOrder}
use Rattle.cost_theory.proofs.Nesting.{some_same, nested, entry_header, accepted_entered}
use Rattle.cost_theory.proofs.Equation.{worst_is}
use Rattle.cost_theory.proofs.Tables.{greatest_value}
use Rattle.cost_theory.proofs.Lefts.{loop_numbers}

-- numbers of which only the worst cycles are meant
abbrev pub worst_table : (ℕ → ℕ) → Numbers
worst_table f = record { worst = f; iteration = λ k. 0; plain = λ v. 0; closing = λ k v. None; left = λ v. 0; context = λ f. 0 }

module _ (g : Graph) (l : Loops) (extent : ℕ → ℕ → Bool) (prog : IsProgram g) (acc : AreAccepted g l extent)
    (count : ℕ) (place : ℕ → ℕ) (plainly : IsPlainOrder g l count place) (order : ℕ → ℕ) (calls : IsCallOrder g order) (w : ℕ → ℕ) where
  -- two costs that agree on a function's edges agree on its walks
  pub walk_same : (c c' : ℕ → ℕ) (f : ℕ) → ((e : ℕ) → e < g.edges → g.owner (g.source e) ≡ f → c e ≡ c' e) →
      (es : List ℕ) (p : Option ℕ) → ((v : ℕ) → p ≡ Some v → g.owner v ≡ f) → IsWalk g p es → total c es ≡ total c' es
  walk_same c c' f same [] p owned walk = refl
  walk_same c c' f same (e ∷ es) p owned walk =
      let here : g.owner (g.source e) ≡ f = owned (g.source e) walk.1 in
      let a : c e ≡ c' e = same e walk.0 here in
      let b : total c es ≡ total c' es = walk_same c c' f same es (g.target e) (λ v to. (prog.stays e v walk.0 to).1 ∙ here) walk.2 in
      omega arith

  -- a cost under two tables of worst cycles, at an edge of f
  pub cost_same : (a b : ℕ → ℕ) (f : ℕ) → ((h : ℕ) → h < g.functions → order h < order f → a h ≡ b h) →
      (e : ℕ) → e < g.edges → g.owner (g.source e) ≡ f → cost g (worst_table a) w e ≡ cost g (worst_table b) w e
  cost_same a b f same e lt owner = go (g.callee e) refl
    where
      go : (o : Option ℕ) → g.callee e ≡ o → w e + at_some (g.callee e) a ≡ w e + at_some (g.callee e) b
      go None is = ap (λ o. w e + at_some o a) is ∙ sym (ap (λ o. w e + at_some o b) is)
      go (Some h) is =
          let low : order h < order (g.owner (g.source e)) = calls.falls (g.source e) h (e, lt, refl, is) in
          let eq : order (g.owner (g.source e)) ≡ order f = ap order owner in
          ap (λ o. w e + at_some o a) is ∙ ap (λ x. w e + x) (same h (prog.callee_function e h lt is) (omega arith)) ∙ sym (ap (λ o. w e + at_some o b) is)

  abbrev pub IsWorstBelow : ℕ → (ℕ → ℕ) → Type 0
  IsWorstBelow m a = (f : ℕ) → f < g.functions → order f < m → IsGreatest (IsBoundedWalk g l (g.entry f)) (total (cost g (worst_table a) w)) (a f)

  pub worst_below : (m : ℕ) → (a : ℕ → ℕ) × IsWorstBelow m a
  worst_below zero = (λ f. 0, λ f fl low. absurd (let bad : ⊥ = omega arith in bad))
  worst_below (suc m) = next (worst_below m)
    where
      next : (a : ℕ → ℕ) × ((f : ℕ) → f < g.functions → order f < m → IsGreatest (IsBoundedWalk g l (g.entry f)) (total (cost g (worst_table a) w)) (a f)) →
          (a : ℕ → ℕ) × ((f : ℕ) → f < g.functions → order f < suc m → IsGreatest (IsBoundedWalk g l (g.entry f)) (total (cost g (worst_table a) w)) (a f))
      next before = (new, good)
        where
          found : (n : Numbers) × AreLoopNumbers g l (cost g (worst_table before.0) w) n × (n.worst ≡ before.0) × (n.context ≡ before.0)
          found = loop_numbers g l extent prog acc count place plainly (cost g (worst_table before.0) w) before.0 before.0

          value : ℕ → ℕ
          value f = found.0.left (g.entry f) + sum_below l.loops (λ k. only (l.inside k (g.entry f)) (all_of l found.0 k))

          new : ℕ → ℕ
          new f = cond (ltb (order f) m) (before.0 f) (value f)

          old_is : (f : ℕ) → order f < m → before.0 f ≡ new f
          old_is f low = sym (ap (λ b. cond b (before.0 f) (value f)) (lt-ltb (order f) m low))

          same : (f : ℕ) → f < g.functions → order f < suc m → (es : List ℕ) → IsBoundedWalk g l (g.entry f) es →
              total (cost g (worst_table before.0) w) es ≡ total (cost g (worst_table new) w) es
          same f fl low es walk = walk_same (cost g (worst_table before.0) w) (cost g (worst_table new) w) f
              (cost_same before.0 new f (λ h hl less. old_is h (omega arith))) es (Some (g.entry f))
              (λ v e. ap g.owner (sym (some_same (g.entry f) v e)) ∙ prog.entry_owner f fl) walk.0

          good : (f : ℕ) → f < g.functions → order f < suc m → IsGreatest (IsBoundedWalk g l (g.entry f)) (total (cost g (worst_table new) w)) (new f)
          good f fl low = pick (ltb (order f) m) refl
            where
              pick : (b : Bool) → ltb (order f) m ≡ b → IsGreatest (IsBoundedWalk g l (g.entry f)) (total (cost g (worst_table new) w)) (cond b (before.0 f) (value f))
              pick true is = greatest_value (IsBoundedWalk g l (g.entry f)) (total (cost g (worst_table before.0) w)) (total (cost g (worst_table new) w)) (before.0 f) (same f fl low)
                  (before.1 f fl (ltb-true (order f) m is))
              pick false is = greatest_value (IsBoundedWalk g l (g.entry f)) (total (cost g (worst_table before.0) w)) (total (cost g (worst_table new) w)) (value f) (same f fl low)
                  (worst_is g l (cost g (worst_table before.0) w) found.0 (nested g l extent prog (accepted_entered acc)) found.1 (g.entry f) (λ k kl r. entry_header g l extent prog (accepted_entered acc) f k fl kl r))

  -- the worst cycles and the numbers of all loops
  pub worst_numbers : (context : ℕ → ℕ) → (n : Numbers) × AreLoopNumbers g l (cost g n w) n × AreWorst g l w n × (n.context ≡ context)
  worst_numbers context = go (loop_numbers g l extent prog acc count place plainly (cost g (worst_table table.0) w) table.0 context)
    where
      table : (a : ℕ → ℕ) × IsWorstBelow g.functions a
      table = worst_below g.functions

      go : (n : Numbers) × AreLoopNumbers g l (cost g (worst_table table.0) w) n × (n.worst ≡ table.0) × (n.context ≡ context) →
          (n : Numbers) × AreLoopNumbers g l (cost g n w) n × AreWorst g l w n × (n.context ≡ context)
      go found = (
        found.0,
        subst (λ a. AreLoopNumbers g l (cost g (worst_table a) w) found.0) (sym found.2) found.1,
        subst (λ a. (f : ℕ) → f < g.functions → IsGreatest (IsBoundedWalk g l (g.entry f)) (total (cost g (worst_table a) w)) (a f)) (sym found.2)
            (λ f fl. table.1 f fl (calls.below f fl)),
        found.3,
      )
