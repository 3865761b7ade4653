-- The price of a run, step by step.
use Rattle.std.proofs.Common.{◌≡◌, ℕ, ◌+◌, ◌*◌, ◌==◌, true, List, [], ◌∷◌, ◌++◌, All, None, length, fold, sum_by, refl, arith}
use Rattle.std.proofs.Math.Nat.{add-mul}
use Rattle.std.proofs.lemmas.Bool.Decides.{nat_tests}
use Rattle.std.proofs.lemmas.List.Elements.{All-tail}
use Rattle.scale_base.specs.declared.stepping.Stepped.{Stepped}
use Rattle.power_model.specs.Levels.{level}
use Rattle.power_model.specs.Numbers.{PowerModel, RunPrice}
use Rattle.power_model.specs.Price.{price, metered, unstarted, step_cycles, keyed_cycles, IsHeldPrice}

one_more-from : (power : PowerModel) (n : RunPrice) (steps : List Stepped) (step : Stepped)
    → fold (metered power) n (steps ++ step ∷ []) ≡ metered power (fold (metered power) n steps) step
one_more-from power n [] step = refl
one_more-from power n (s ∷ ss) step = one_more-from power (metered power n s) ss step

pub one_more : (power : PowerModel) (start : ℕ) (steps : List Stepped) (step : Stepped)
    → price power start (steps ++ step ∷ []) ≡ metered power (price power start steps) step
one_more power start steps step = one_more-from power (unstarted start) steps step

start-from : (power : PowerModel) (n : RunPrice) (steps : List Stepped) → (fold (metered power) n steps).start ≡ n.start
start-from power n [] = refl
start-from power n (s ∷ ss) = start-from power (metered power n s) ss

pub start-price : (power : PowerModel) (start : ℕ) (steps : List Stepped) → (price power start steps).start ≡ start
start-price power start steps = start-from power (unstarted start) steps

steps-from : (power : PowerModel) (n : RunPrice) (steps : List Stepped) → (fold (metered power) n steps).steps ≡ n.steps + length steps
steps-from power n [] = omega arith
steps-from power n (s ∷ ss) = omega (arith, steps-from power (metered power n s) ss)

pub steps-price : (power : PowerModel) (start : ℕ) (steps : List Stepped) → (price power start steps).steps ≡ length steps
steps-price power start steps = omega (arith, steps-from power (unstarted start) steps)

cycles-from : (power : PowerModel) (n : RunPrice) (steps : List Stepped)
    → (fold (metered power) n steps).cycles ≡ fold (λ a t. a + step_cycles power t) n.cycles steps
cycles-from power n [] = refl
cycles-from power n (s ∷ ss) = cycles-from power (metered power n s) ss

pub cycles-price : (power : PowerModel) (start : ℕ) (steps : List Stepped)
    → (price power start steps).cycles ≡ sum_by (step_cycles power) steps
cycles-price power start steps = cycles-from power (unstarted start) steps

keyed-from : (power : PowerModel) (n : RunPrice) (steps : List Stepped)
    → (fold (metered power) n steps).keyed ≡ fold (λ a t. a + keyed_cycles power t) n.keyed steps
keyed-from power n [] = refl
keyed-from power n (s ∷ ss) = keyed-from power (metered power n s) ss

pub keyed-price : (power : PowerModel) (start : ℕ) (steps : List Stepped)
    → (price power start steps).keyed ≡ sum_by (keyed_cycles power) steps
keyed-price power start steps = keyed-from power (unstarted start) steps

-- more cycles at a level
more_cycles : (rate price cycles more : ℕ) → price ≡ cycles * rate → price + more * rate + 0 ≡ (cycles + more) * rate
more_cycles rate price cycles more e = omega (arith, add-mul cycles more rate)

-- one more step that does not store at the port
held-step : (power : PowerModel) (start : ℕ) (n : RunPrice) (s : Stepped) → s.port ≡ None → IsHeldPrice power start n → IsHeldPrice power start (metered power n s)
held-step power start n s quiet held =
    let same : (start == start) ≡ true = grind (arith, nat_tests) in
    let rates = level power.levels start in
    rw (quiet, held.level, same) (record {
      level = refl;
      time = more_cycles rates.period n.time n.cycles (step_cycles power s) held.time;
      energy = more_cycles rates.energy n.energy n.cycles (step_cycles power s) held.energy;
      switches = omega arith;
    })

held-from : (power : PowerModel) (start : ℕ) (n : RunPrice) (steps : List Stepped) → All (λ s. s.port ≡ None) steps → IsHeldPrice power start n
    → IsHeldPrice power start (fold (metered power) n steps)
held-from power start n [] quiet held = held
held-from power start n (s ∷ ss) quiet held = held-from power start (metered power n s) ss (All-tail (λ (t : Stepped). t.port ≡ None) s ss quiet) (held-step power start n s (quiet 0 s (omega arith)) held)

pub held-price : (power : PowerModel) (start : ℕ) (steps : List Stepped) → All (λ s. s.port ≡ None) steps → IsHeldPrice power start (price power start steps)
held-price power start steps quiet = held-from power start (unstarted start) steps quiet (record { level = refl; time = omega arith; energy = omega arith; switches = refl })
