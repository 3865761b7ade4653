-- What an edge is charged, by the header that it leads to.
use Rattle.std.proofs.Common.{◌≡◌, ◌≢◌, ℕ, ◌*◌, ◌<◌, Bool, true, false, not, ◌&&◌, nat_lt, Option, Some, None, refl, sym, ap, ◌∙◌, subst, eqb-true, eq-eqb}
use Rattle.cost_theory.specs.Graph.{Graph, Loops, is_round, is_header, is_back, enters}
use Rattle.cost_theory.specs.Accepted.{IsProgram, AreAccepted, AreWeights}
use Rattle.cost_theory.proofs.Laws.{and_left, and_right, and_both, not_true, some_same, entered-header, no_numbers, charge_none, charge_one}
use Rattle.cycle_laws.specs.Charged.{Charged, charged_trips, charge_of, AreCharged}
use Rattle.cycle_laws.proofs.Laws.{nest}

-- an accepted program with weights and its least cycles
pub record IsNumbered (g : Graph) (l : Loops) (extent : ℕ → ℕ → Bool) (w : ℕ → ℕ) (n : Charged) : Type 0 where
  pub program : IsProgram g
  pub accepted : AreAccepted g l extent
  pub weights : AreWeights g w
  pub numbers : AreCharged g l w n

module _ (g : Graph) (l : Loops) (extent : ℕ → ℕ → Bool) (w : ℕ → ℕ) (n : Charged) (prog : IsProgram g) (acc : AreAccepted g l extent) where
  abbrev trips : ℕ → ℕ
  trips = charged_trips g l n.least

  to_header : (k d : ℕ) → is_back g l k d ≡ true → g.target d ≡ Some (l.header k)
  to_header k d back = go (g.target d) (and_right (l.inside k (g.source d)) (is_header l k (g.target d)) back)
    where
      go : (o : Option ℕ) → is_header l k o ≡ true → o ≡ Some (l.header k)
      go None at = let bad : ⊥ = cc in absurd bad
      go (Some v) at = ap Some (eqb-true v (l.header k) at)

  entered : (e j : ℕ) → e < g.edges → j < l.loops → enters l j (g.source e) (g.target e) ≡ true → g.target e ≡ Some (l.header j)
  entered e j el jl en = entered-header g l w no_numbers (nest g l extent w prog acc) e j el jl en

  pub charged_on : (e : ℕ) → e < g.edges → ((k : ℕ) → k < l.loops → g.target e ≢ Some (l.header k)) → charge_of g l n e ≡ 0
  charged_on e el away = charge_none g l w trips n.turn (nest g l extent w prog acc) e (λ j jl. each j jl (enters l j (g.source e) (g.target e)) refl)
    where
      each : (j : ℕ) → j < l.loops → (b : Bool) → enters l j (g.source e) (g.target e) ≡ b → (enters l j (g.source e) (g.target e) && nat_lt 0 (trips j)) ≡ false
      each j jl false h = ap (λ b. b && nat_lt 0 (trips j)) h
      each j jl true h = absurd (away j jl (entered e j el jl h))

  pub charged_back : (e k : ℕ) → e < g.edges → k < l.loops → is_back g l k e ≡ true → charge_of g l n e ≡ 0
  charged_back e k el kl back = charge_none g l w trips n.turn (nest g l extent w prog acc) e (λ j jl. each j jl (enters l j (g.source e) (g.target e)) refl)
    where
      each : (j : ℕ) → j < l.loops → (b : Bool) → enters l j (g.source e) (g.target e) ≡ b → (enters l j (g.source e) (g.target e) && nat_lt 0 (trips j)) ≡ false
      each j jl false h = ap (λ b. b && nat_lt 0 (trips j)) h
      each j jl true h =
          let same : j ≡ k = (nest g l extent w prog acc).distinct j k jl kl (some_same _ _ (sym (entered e j el jl h) ∙ to_header k e back)) in
          let inn : l.inside j (g.source e) ≡ true = subst (λ i. l.inside i (g.source e) ≡ true) (sym same) (and_left (l.inside k (g.source e)) (is_header l k (g.target e)) back) in
          let out : l.inside j (g.source e) ≡ false = not_true (l.inside j (g.source e)) (and_left (not (l.inside j (g.source e))) (is_round l j (g.target e)) h) in
          let bad : ⊥ = cc in absurd bad

  pub charged_into : (e k : ℕ) → e < g.edges → k < l.loops → g.target e ≡ Some (l.header k) → is_back g l k e ≡ false → charge_of g l n e ≡ trips k * n.turn k
  charged_into e k el kl to no_back = charge_one g l w trips n.turn (nest g l extent w prog acc) e k el kl
      (and_both (not (l.inside k (g.source e))) (is_round l k (g.target e)) (ap not out) (subst (λ o. is_round l k o ≡ true) (sym to) ((nest g l extent w prog acc).ways.holds_header k kl)))
    where
      at : is_header l k (g.target e) ≡ true
      at = subst (λ o. is_header l k o ≡ true) (sym to) (eq-eqb (l.header k) (l.header k) refl)

      out : l.inside k (g.source e) ≡ false
      out = go (l.inside k (g.source e)) refl
        where
          go : (b : Bool) → l.inside k (g.source e) ≡ b → l.inside k (g.source e) ≡ false
          go false h = h
          go true h = let clash : is_back g l k e ≡ true = and_both (l.inside k (g.source e)) (is_header l k (g.target e)) h at in let bad : ⊥ = cc in absurd bad
