-- The price of a run: folds over its completed steps. An instruction is priced at the level before it, and a change of level
-- adds the time and the energy of its pair of levels once.
use Rattle.std.specs.Prelude.{◌≡◌, ℕ, ◌+◌, ◌*◌, ◌==◌, if◌then◌else◌, List, fold, unwrap_or}
use Rattle.scale_base.specs.declared.stepping.Class.{Class}
use Rattle.scale_base.specs.declared.stepping.Class.TheVariants.{Alu, Load, Store, Taken, Untaken, Jump, Mul, Div, Ecall, Fence}
use Rattle.scale_base.specs.declared.stepping.Stepped.{Stepped}
use Rattle.power_model.specs.declared.power.Costs.{Costs}
use Rattle.power_model.specs.Levels.{level}
use Rattle.power_model.specs.Numbers.{PowerModel, RunPrice}
use Rattle.power_model.specs.Pairs.{pair_at}

-- the cycles of a class
abbrev pub cycles_of : Costs → Class → ℕ
cycles_of costs Alu = costs.alu
cycles_of costs Load = costs.load
cycles_of costs Store = costs.store
cycles_of costs Taken = costs.taken
cycles_of costs Untaken = costs.untaken
cycles_of costs Jump = costs.jump
cycles_of costs Mul = costs.mul
cycles_of costs Div = costs.div
cycles_of costs Ecall = costs.ecall
cycles_of costs Fence = costs.fence

-- the time and the energy of a change from one level to another: nothing where they are the same
abbrev pub switch_time : PowerModel → ℕ → ℕ → ℕ
switch_time power i l = if i == l then 0 else pair_at power.switch_time i l

abbrev pub switch_energy : PowerModel → ℕ → ℕ → ℕ
switch_energy power i l = if i == l then 0 else pair_at power.switch_energy i l

-- 1 where the level changes
abbrev pub one_switch : ℕ → ℕ → ℕ
one_switch i l = if i == l then 0 else 1

-- the level after a step: the value stored at the port where there was one, else the level before
abbrev pub level_after : ℕ → Stepped → ℕ
level_after before step = unwrap_or step.port before

-- the cycles of a step, and those of it that are an instruction's of the keyed segment
abbrev pub step_cycles : PowerModel → Stepped → ℕ
step_cycles power step = cycles_of power.costs step.class

abbrev pub keyed_cycles : PowerModel → Stepped → ℕ
keyed_cycles power step = if step.keyed then step_cycles power step else 0

-- the numbers after one more step
abbrev pub metered : PowerModel → RunPrice → Stepped → RunPrice
metered power n step =
    let cycles = step_cycles power step in
    let before = level power.levels n.level in
    let after = level_after n.level step in
    record {
      start = n.start;
      level = after;
      steps = n.steps + 1;
      cycles = n.cycles + cycles;
      time = n.time + cycles * before.period + switch_time power n.level after;
      energy = n.energy + cycles * before.energy + switch_energy power n.level after;
      switches = n.switches + one_switch n.level after;
      keyed = n.keyed + keyed_cycles power step;
    }

-- the numbers before the first step
abbrev pub unstarted : ℕ → RunPrice
unstarted start = record { start = start; level = start; steps = 0; cycles = 0; time = 0; energy = 0; switches = 0; keyed = 0 }

-- the numbers of a run from a level
abbrev pub price : PowerModel → ℕ → List Stepped → RunPrice
price power start steps = fold (metered power) (unstarted start) steps

-- the time and the energy of so many cycles at a level
abbrev pub time_at : PowerModel → ℕ → ℕ → ℕ
time_at power i cycles = cycles * (level power.levels i).period

abbrev pub energy_at : PowerModel → ℕ → ℕ → ℕ
energy_at power i cycles = cycles * (level power.levels i).energy

-- what the cycles of a run cost at its starting level
abbrev pub held_energy : PowerModel → RunPrice → ℕ
held_energy power n = energy_at power n.start n.cycles

-- the numbers are those of a run that stayed at its starting level
pub record IsHeldPrice (power : PowerModel) (start : ℕ) (n : RunPrice) : Type 0 where
  pub level : n.level ≡ start
  pub time : n.time ≡ time_at power start n.cycles
  pub energy : n.energy ≡ energy_at power start n.cycles
  pub switches : n.switches ≡ 0
