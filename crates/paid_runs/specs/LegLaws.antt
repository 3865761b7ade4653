-- Scaffold: the laws of the price of legs, as statements for the contracts of functions.
use Rattle.std.specs.Prelude.{◌≡◌, ℕ, ◌+◌, ◌<◌, ◌≤◌, List, length, fold}
use Rattle.std.specs.List.{sum_by}
use Rattle.scale_base.specs.declared.stepping.Stepped.{Stepped}
use Rattle.power_model.specs.Levels.{AreRanked}
use Rattle.power_model.specs.Numbers.{PowerModel, RunPrice}
use Rattle.power_model.specs.Price.{price, metered, held_energy}
use Rattle.stub_writer.specs.Stubs.{Site}
use Rattle.stored_runs.specs.Marks.{Shadow}
use Rattle.stored_runs.specs.Legs.{Leg, IsLeg}
use Rattle.power_model.specs.Switches.{NeverRises, switches_from, saved, fee, AllPay}
use Rattle.paid_runs.specs.Paid.{IsPaidLeg}

-- The steps of a leg cost what its edge and its marks say.
abbrev pub LegsArePaid : Type 0
LegsArePaid = (power : PowerModel) (sites : List Site) (h : Shadow) (l : Leg) (n : RunPrice) → IsLeg sites h l → n.level ≡ h.level →
    IsPaidLeg power sites h l n (fold (metered power) n l.steps)

-- Held energy less energy is the sum of what the switches save, less their fees.
abbrev pub EnergyIsSaved : Type 0
EnergyIsSaved = (power : PowerModel) (start : ℕ) (steps : List Stepped) → AreRanked power.levels → start < length power.levels →
    NeverRises start steps
    → held_energy power (price power start steps) + sum_by (fee power) (switches_from power start steps) ≡ (price power start steps).energy
    + sum_by (saved power) (switches_from power start steps)

-- Where each switch saves its fee, a run takes no more energy than is held.
abbrev pub SwitchesSave : Type 0
SwitchesSave = (power : PowerModel) (start : ℕ) (steps : List Stepped) → AreRanked power.levels → start < length power.levels →
    NeverRises start steps
    → AllPay power (switches_from power start steps) → (price power start steps).energy ≤ held_energy power (price power start steps)
