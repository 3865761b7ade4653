-- What an edge is charged, by the header that it leads to.
use Rattle.std.proofs.Common.{◌≡◌, ℕ, ◌+◌, ◌<◌, Bool, true, false, not, ◌&&◌, Some, refl, ap, sym, subst, arith, eq-eqb}
use Rattle.cost_theory.specs.Graph.{Graph, Loops, sum_below, only, is_round, is_header, is_back, enters}
use Rattle.cost_theory.specs.Worst.{Numbers, cost, all_of, charged}
use Rattle.cost_theory.specs.Laws.{IsAnalyzed}
use Rattle.cost_theory.proofs.Laws.{sum-none, only_false, and_both, AreNested, entered-header, back_charged, charged_entering, header_held, nested, accepted_entered}
use Rattle.cycle_laws.specs.Passes.{ChargedOn, ChargedBack, ChargedInto}

module _ (g : Graph) (l : Loops) (extent : ℕ → ℕ → Bool) (w : ℕ → ℕ) (n : Numbers) (is : IsAnalyzed g l extent w n) where
  nest : AreNested g l
  nest = nested g l extent is.program (accepted_entered is.accepted)

  -- an edge that enters no loop is charged its cost
  enters_none : (e : ℕ) → ((k : ℕ) → k < l.loops → enters l k (g.source e) (g.target e) ≡ false) → charged g l n (cost g n w) e ≡ cost g n w e
  enters_none e none =
      let z : sum_below l.loops (λ k. only (enters l k (g.source e) (g.target e)) (all_of l n k)) ≡ 0 =
      sum-none l.loops (λ k. only (enters l k (g.source e) (g.target e)) (all_of l n k))
      (λ k kl. only_false (enters l k (g.source e) (g.target e)) (all_of l n k) (none k kl)) in
      omega arith

  entered : (e k : ℕ) → e < g.edges → k < l.loops → enters l k (g.source e) (g.target e) ≡ true → g.target e ≡ Some (l.header k)
  entered e k lt kl en = entered-header g l (cost g n w) n nest e k lt kl en

  on : (e : ℕ) → e < g.edges → ((k : ℕ) → k < l.loops → g.target e ≡ Some (l.header k) → ⊥) → charged g l n (cost g n w) e ≡ cost g n w e
  on e lt away = enters_none e (λ k kl. go k kl (enters l k (g.source e) (g.target e)) refl)
    where
      go : (k : ℕ) → k < l.loops → (b : Bool) → enters l k (g.source e) (g.target e) ≡ b → b ≡ false
      go k kl false at = refl
      go k kl true at = absurd (away k kl (entered e k lt kl at))

  into : (e k : ℕ) → e < g.edges → k < l.loops → g.target e ≡ Some (l.header k) → is_back g l k e ≡ false → charged g l n (cost g n w) e ≡ cost g n w e + all_of l n k
  into e k lt kl to not_back = charged_entering g l (cost g n w) n nest e k lt kl
      (and_both (not (l.inside k (g.source e))) (is_round l k (g.target e)) (ap not out) round)
    where
      at : is_header l k (g.target e) ≡ true
      at = subst (λ o. is_header l k o ≡ true) (sym to) (eq-eqb (l.header k) (l.header k) refl)

      outside : (a b : Bool) → b ≡ true → (a && b) ≡ false → a ≡ false
      outside a b p q = grind arith

      out : l.inside k (g.source e) ≡ false
      out = outside (l.inside k (g.source e)) (is_header l k (g.target e)) at not_back

      round : is_round l k (g.target e) ≡ true
      round = subst (λ o. is_round l k o ≡ true) (sym to) (header_held g l extent is.program (accepted_entered is.accepted) k kl)

pub charged_on : ChargedOn
charged_on g l extent w n is e lt away = on g l extent w n is e lt away

pub charged_back : ChargedBack
charged_back g l extent w n is e k lt kl goes = back_charged g l (cost g n w) n (nest g l extent w n is) e k lt kl goes

pub charged_into : ChargedInto
charged_into g l extent w n is e k lt kl to not_back = into g l extent w n is e k lt kl to not_back
