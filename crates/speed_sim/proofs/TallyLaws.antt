-- The price of a run as its numbers up to a step and the cycles behind it.
use Rattle.std.proofs.Common.{◌≡◌, ℕ, ◌+◌, ◌*◌, ◌==◌, true, [], ◌∷◌, None, refl, ap, sym, ◌∙◌, arith}
use Rattle.std.specs.Prelude.{unwrap_or}
use Rattle.std.proofs.Math.Nat.{add-mul, zero-mul}
use Rattle.std.proofs.lemmas.Bool.{cond-true}
use Rattle.std.proofs.lemmas.Bool.Decides.{nat_tests}
use Rattle.scale_base.specs.declared.stepping.Class.TheVariants.{Alu, Load, Store, Taken, Untaken, Jump, Mul, Div, Ecall, Fence}
use Rattle.scale_base.specs.declared.stepping.Stepped.{Stepped}
use Rattle.scale_base.specs.Step.{PortBelow}
use Rattle.rv_machine.specs.declared.decoded.Decoded.{Decoded}
use Rattle.rv_machine.specs.declared.decoded.Effect.{Effect}
use Rattle.rv_machine.specs.declared.decoded.Effect.TheVariants.{Went, Branched, Switched, Exited, Trapped}
use Rattle.rv_machine.specs.Decoded.{decoded_end, LevelBelow}
use Rattle.power_model.specs.declared.power.Costs.{Costs}
use Rattle.power_model.specs.Levels.{level}
use Rattle.power_model.specs.Numbers.{PowerModel, RunPrice}
use Rattle.power_model.specs.Price.{metered, step_cycles, keyed_cycles, switch_time, switch_energy, one_switch, level_after}
use Rattle.speed_sim.specs.Tallied.{with_cycles, AreCosts}

-- the costs, each in the place of its class
pub costs_in_place : (costs : Costs) →
    AreCosts costs (costs.alu ∷ costs.load ∷ costs.store ∷ costs.taken ∷ costs.untaken ∷ costs.jump ∷ costs.mul ∷ costs.div ∷ costs.ecall ∷ costs.fence ∷ [])
costs_in_place costs Alu = refl
costs_in_place costs Load = refl
costs_in_place costs Store = refl
costs_in_place costs Taken = refl
costs_in_place costs Untaken = refl
costs_in_place costs Jump = refl
costs_in_place costs Mul = refl
costs_in_place costs Div = refl
costs_in_place costs Ecall = refl
costs_in_place costs Fence = refl

-- numbers from a list of them
abbrev numbers : ℕ → ℕ → ℕ → ℕ → ℕ → ℕ → ℕ → ℕ → RunPrice
numbers start level steps cycles time energy switches keyed =
    record { start = start; level = level; steps = steps; cycles = cycles; time = time; energy = energy; switches = switches; keyed = keyed }

same_numbers : (start start' level level' steps steps' cycles cycles' time time' energy energy' switches switches' keyed keyed' : ℕ) →
    start ≡ start' → level ≡ level' → steps ≡ steps' → cycles ≡ cycles' → time ≡ time' → energy ≡ energy' → switches ≡ switches' → keyed ≡ keyed' →
    numbers start level steps cycles time energy switches keyed ≡ numbers start' level' steps' cycles' time' energy' switches' keyed'
same_numbers start start' level level' steps steps' cycles cycles' time time' energy energy' switches switches' keyed keyed' a b c d e f g h = cc

-- no cycles more
no_more : (n rate : ℕ) → n + 0 * rate ≡ n
no_more n rate = omega (arith, zero-mul rate)

pub none_more : (power : PowerModel) (n : RunPrice) → with_cycles power n 0 0 0 ≡ n
none_more power n =
    same_numbers _ _ _ _ _ _ _ _ _ _ _ _ _ _ _ _
    refl refl (omega arith) (omega arith) (no_more n.time (level power.levels n.level).period) (no_more n.energy (level power.levels n.level).energy) refl (omega arith)

-- more cycles at a level, and nothing for a change of it
more_price : (rate price cycles more none : ℕ) → none ≡ 0 → price + (cycles + more) * rate ≡ price + cycles * rate + more * rate + none
more_price rate price cycles more none e = omega (arith, add-mul cycles more rate)

-- one step more that stores nothing at the speed port
pub one_step_more : (power : PowerModel) (n : RunPrice) (steps cycles keyed cost more : ℕ) (x : Stepped) → x.port ≡ None → cost ≡ step_cycles power x → more ≡ keyed_cycles power x →
    with_cycles power n (steps + 1) (cycles + cost) (keyed + more) ≡ metered power (with_cycles power n steps cycles keyed) x
one_step_more power n steps cycles keyed cost more x quiet is is_keyed =
    let rates = level power.levels n.level in
    let stays : n.level ≡ level_after n.level x = ap (λ o. unwrap_or o n.level) (sym quiet) in
    let same : (n.level == n.level) ≡ true = grind (arith, nat_tests) in
    let time : switch_time power n.level (level_after n.level x) ≡ 0 = ap (switch_time power n.level) (sym stays) ∙ cond-true _ _ _ same in
    let energy : switch_energy power n.level (level_after n.level x) ≡ 0 = ap (switch_energy power n.level) (sym stays) ∙ cond-true _ _ _ same in
    let switches : one_switch n.level (level_after n.level x) ≡ 0 = ap (one_switch n.level) (sym stays) ∙ cond-true _ _ _ same in
    same_numbers _ _ _ _ _ _ _ _ _ _ _ _ _ _ _ _
    refl stays (omega arith) (omega (arith, is))
    (ap (λ m. n.time + (cycles + m) * rates.period) is ∙ more_price rates.period n.time cycles (step_cycles power x) _ time)
    (ap (λ m. n.energy + (cycles + m) * rates.energy) is ∙ more_price rates.energy n.energy cycles (step_cycles power x) _ energy)
    (omega (arith, switches)) (omega (arith, is_keyed))

-- what was stored at the port is a level
pub port_below : (d : Decoded) (pc : ℕ) (effect : Effect) (next levels : ℕ) → LevelBelow effect levels → PortBelow (decoded_end d pc effect next) levels
port_below d pc Went next levels h = tt
port_below d pc Branched next levels h = tt
port_below d pc (Switched level) next levels h = h
port_below d pc (Exited status) next levels h = refl
port_below d pc (Trapped trap) next levels h = tt
