-- Scaffold: the price of a run as its numbers up to a step and the cycles behind it at the same level.
use Rattle.std.specs.Prelude.{◌≡◌, ℕ, ◌+◌, List, slice_index, Option, Some, None}
use Rattle.scale_base.specs.declared.endings.End.{End}
use Rattle.scale_base.specs.declared.endings.End.TheVariants as endings
use Rattle.scale_base.specs.declared.stepping.Class.{Class}
use Rattle.scale_base.specs.declared.stepping.Class.TheVariants.{Alu, Load, Store, Taken, Untaken, Jump, Mul, Div, Ecall, Fence}
use Rattle.scale_base.specs.declared.stepping.StepEnd.{StepEnd}
use Rattle.scale_base.specs.declared.stepping.StepEnd.TheVariants.{Went, Exited, Trapped}
use Rattle.scale_base.specs.State.{State}
use Rattle.scale_base.specs.Step.{Outcome}
use Rattle.power_model.specs.declared.power.Costs.{Costs}
use Rattle.power_model.specs.Numbers.{PowerModel, RunPrice}
use Rattle.power_model.specs.Price.{cycles_of, metered, time_at, energy_at}
use Rattle.scale_base.specs.declared.stepping.Stepped.{Stepped}
use Rattle.speed_sim.specs.Seen.{seen_after}
use Rattle.speed_sim.specs.declared.tally.Tally.{Tally}

-- the numbers after more steps at the same level, of so many cycles, so many of them of keyed instructions
abbrev pub with_cycles : PowerModel → RunPrice → ℕ → ℕ → ℕ → RunPrice
with_cycles power n steps cycles keyed = record {
  start = n.start;
  level = n.level;
  steps = n.steps + steps;
  cycles = n.cycles + cycles;
  time = n.time + time_at power n.level cycles;
  energy = n.energy + energy_at power n.level cycles;
  switches = n.switches;
  keyed = n.keyed + keyed;
}

abbrev pub tallied : PowerModel → Tally → RunPrice
tallied power t = with_cycles power t.meter t.steps t.cycles t.keyed

-- the place of a class in a table
abbrev pub class_number : Class → ℕ
class_number Alu = 0
class_number Load = 1
class_number Store = 2
class_number Taken = 3
class_number Untaken = 4
class_number Jump = 5
class_number Mul = 6
class_number Div = 7
class_number Ecall = 8
class_number Fence = 9

abbrev pub AreCosts : Costs → List ℕ → Type 0
AreCosts costs items = (class : Class) → slice_index items (class_number class) ≡ cycles_of costs class

-- the numbers after a step that ended so: a step that traps costs nothing
abbrev pub IsPaid : PowerModel → StepEnd → RunPrice → RunPrice → Type 0
IsPaid power (Went x) old new = new ≡ metered power old x
IsPaid power (Exited x status) old new = new ≡ metered power old x
IsPaid power (Trapped trap) old new = new ≡ old

-- how the run ended, if a step that ended so ended it
abbrev pub ended_by : StepEnd → Option End
ended_by (Went x) = None
ended_by (Exited x status) = Some (endings.Exited status)
ended_by (Trapped trap) = Some (endings.Trapped trap)

-- after a step that led there: the state, the price, what has seen the run, and how the run ended
pub record IsAdvance {W : Type 0} (power : PowerModel) (see : W → Stepped → W) (o : Outcome) (s : State) (old new : RunPrice)
    (seen seen' : W) (ended : Option End) : Type 0 where
  pub state : s ≡ o.state
  pub paid : IsPaid power o.end old new
  pub seen_is : seen' ≡ seen_after see o.end seen
  pub over : ended ≡ ended_by o.end
