-- Scaffold: what a leg of a stored run costs.
use Rattle.std.specs.Prelude.{◌≡◌, ℕ, ◌+◌, List, Option, Some, None}
use Rattle.power_model.specs.Numbers.{PowerModel, RunPrice}
use Rattle.power_model.specs.Price.{switch_time, time_at}
use Rattle.power_model.specs.Switches.{costs_of}
use Rattle.stub_writer.specs.Stubs.{Site}
use Rattle.stored_runs.specs.Marks.{Shadow, fragments_over, stored_cycles, tail_cycles, level_stored, shadow_more}
use Rattle.stored_runs.specs.Legs.{Leg}

-- the cycles behind the store at the port, where there is one
abbrev pub tail_if : Option ℕ → ℕ → ℕ
tail_if None tail = 0
tail_if (Some level) tail = tail

-- What a leg does to a meter: its cycles are the stored weight of its edge, in two parts. The first is priced at the level before, the second, the tail,
-- at the level behind, which is the one that the marks lead to; and a change of level adds its own time.
pub record IsPaidLeg (power : PowerModel) (sites : List Site) (h : Shadow) (l : Leg) (before after : RunPrice) : Type 0 where
  pub head : ℕ
  pub tail : ℕ
  pub parts : head + tail ≡ stored_cycles (costs_of power) sites l.step
  pub tail_is : tail ≡ tail_if (level_stored (fragments_over sites l.step) h) (tail_cycles (costs_of power) (fragments_over sites l.step))
  pub level : after.level ≡ (shadow_more sites h l.step).level
  pub time : after.time ≡ before.time + time_at power before.level head + switch_time power before.level after.level + time_at power
      after.level tail
