-- The bars of a run take together what the run takes.
use Rattle.std.proofs.Common.{◌≡◌, ℕ, ◌+◌, ◌≤◌, List, [], ◌∷◌, ◌++◌, length, refl, sym, ap, ◌∙◌, subst, arith}
use Rattle.std.specs.Prelude.{◌-◌}
use Rattle.std.specs.List.{fold}
use Rattle.scale_base.specs.declared.stepping.Stepped.{Stepped}
use Rattle.power_model.specs.Numbers.{PowerModel, RunPrice}
use Rattle.power_model.specs.Price.{metered, price, unstarted}
use Rattle.run_stretches.specs.declared.bars.BarEnd.{BarEnd}
use Rattle.run_stretches.specs.Stretches.{joined, price_behind, bar_end, bars_from, no_end, taken_from, AreBarsOf, BarsTakeTheRun}
use Rattle.run_stretches.proofs.Joined.{behind-append}

module _ (power : PowerModel) (of : RunPrice → ℕ) (grows : (n : RunPrice) (x : Stepped) → of n ≤ of (metered power n x)) where
  all_grow : (n : RunPrice) (xs : List Stepped) → of n ≤ of (fold (metered power) n xs)
  all_grow n [] = let r : of n ≤ of n = omega arith in r
  all_grow n (x ∷ xs) =
      let one = grows n x in
      let more = all_grow (metered power n x) xs in
      omega (arith, one, more)

  module _ (what : BarEnd → ℕ) (same : (paid : RunPrice) (count : ℕ) (g : List (List Stepped)) → what (bar_end power paid count g) ≡ of (price_behind power paid g)) where
    take_groups : (paid : RunPrice) (count : ℕ) (begin : BarEnd) (gs : List (List (List Stepped))) → what begin ≡ of paid
        → taken_from what begin (bars_from power paid count gs) + of paid ≡ of (price_behind power paid (joined gs))
    take_groups paid count begin [] e = let r : 0 + of paid ≡ of paid = omega arith in r
    take_groups paid count begin (g ∷ gs) e =
        let bar : BarEnd = bar_end power paid count g in
        let behind : RunPrice = price_behind power paid g in
        let here : what bar ≡ of behind = same paid count g in
        let up : of paid ≤ of behind = all_grow paid (joined g) in
        let rest : taken_from what bar (bars_from power behind (count + length g) gs) + of behind ≡ of (price_behind power behind (joined gs)) = take_groups behind (count + length g) bar gs here in
        let whole : of (price_behind power behind (joined gs)) ≡ of (price_behind power paid (g ++ joined gs)) = ap of (sym (behind-append power paid g (joined gs))) in
        omega (arith, here, up, rest, whole, e)

time_grows : (power : PowerModel) (n : RunPrice) (x : Stepped) → n.time ≤ (metered power n x).time
time_grows power n x = omega arith

energy_grows : (power : PowerModel) (n : RunPrice) (x : Stepped) → n.energy ≤ (metered power n x).energy
energy_grows power n x = omega arith

pub all_taken : BarsTakeTheRun
all_taken power level steps bars are =
    let first : RunPrice = unstarted level in
    let whole : joined (joined are.groups) ≡ steps = ap joined are.groups_are ∙ are.stretches_are.all in
    let end : price_behind power first (joined are.groups) ≡ price power level steps = ap (fold (metered power) first) whole in
    let time = take_groups power (λ n. n.time) (time_grows power) (λ bar. bar.time) (λ paid count g. refl) first 0 no_end are.groups refl in
    let energy = take_groups power (λ n. n.energy) (energy_grows power) (λ bar. bar.energy) (λ paid count g. refl) first 0 no_end are.groups refl in
    let end_time : (price_behind power first (joined are.groups)).time ≡ (price power level steps).time = ap (λ n. n.time) end in
    let end_energy : (price_behind power first (joined are.groups)).energy ≡ (price power level steps).energy = ap (λ n. n.energy) end in
    record {
      time =
          ap (taken_from (λ bar. bar.time) no_end) are.bars_are
          ∙ (let r : taken_from (λ bar. bar.time) no_end (bars_from power first 0 are.groups) ≡ (price power level steps).time = omega (arith, time, end_time) in r);
      energy =
          ap (taken_from (λ bar. bar.energy) no_end) are.bars_are
          ∙ (let r : taken_from (λ bar. bar.energy) no_end (bars_from power first 0 are.groups) ≡ (price power level steps).energy = omega (arith, energy, end_energy) in r);
    }
