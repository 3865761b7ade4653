-- Scaffold: an instruction with what its steps tell, and how a step of it ends.
use Rattle.std.specs.Prelude.{◌≡◌, ◌<◌, ℕ, true, false, Option, Some, None}
use Rattle.scale_base.specs.declared.instruction.Instr.{Instr}
use Rattle.scale_base.specs.declared.stepping.Class.{Class}
use Rattle.scale_base.specs.declared.stepping.Stepped.{Stepped}
use Rattle.scale_base.specs.declared.stepping.StepEnd.{StepEnd}
use Rattle.scale_base.specs.declared.stepping.StepEnd.TheVariants as ends
use Rattle.scale_base.specs.Class.{class_of}
use Rattle.scale_base.specs.Layout.{Layout, is_keyed}
use Rattle.scale_base.specs.State.{Setting, State}
use Rattle.scale_base.specs.Step.{move_of, stepped}
use Rattle.rv_machine.specs.declared.decoded.Decoded.{Decoded}
use Rattle.rv_machine.specs.declared.decoded.Effect.{Effect}
use Rattle.rv_machine.specs.declared.decoded.Effect.TheVariants.{Went, Branched, Switched, Exited, Trapped}

-- each step of the instruction at the address tells this
pub record TellsOf (layout : Layout) (at : ℕ) (d : Decoded) : Type 0 where
  pub untaken : d.untaken ≡ class_of d.instr false
  pub taken : d.taken ≡ class_of d.instr true
  pub moved : d.moved ≡ move_of d.instr
  pub keyed : d.keyed ≡ is_keyed layout at

-- the step of an instruction at an address to another one
abbrev pub decoded_step : Decoded → ℕ → Class → Option ℕ → ℕ → Stepped
decoded_step d pc class port next = record { pc = pc; next = next; class = class; moved = d.moved; keyed = d.keyed; port = port }

-- how the step of an instruction at an address ended, by what it did and the address after it
abbrev pub decoded_end : Decoded → ℕ → Effect → ℕ → StepEnd
decoded_end d pc Went next = ends.Went (decoded_step d pc d.untaken None next)
decoded_end d pc Branched next = ends.Went (decoded_step d pc d.taken None next)
decoded_end d pc (Switched level) next = ends.Went (decoded_step d pc d.untaken (Some level) next)
decoded_end d pc (Exited status) next = ends.Exited (decoded_step d pc d.untaken None next) status
decoded_end d pc (Trapped trap) next = ends.Trapped trap

-- the same by the instruction alone, from the state before the step
abbrev pub end_by : Setting → State → Instr → Effect → ℕ → StepEnd
end_by env s i Went next = ends.Went (stepped env s i false None next)
end_by env s i Branched next = ends.Went (stepped env s i true None next)
end_by env s i (Switched level) next = ends.Went (stepped env s i false (Some level) next)
end_by env s i (Exited status) next = ends.Exited (stepped env s i false None next) status
end_by env s i (Trapped trap) next = ends.Trapped trap

-- what was stored at the speed port is a level
abbrev pub LevelBelow : Effect → ℕ → Type 0
LevelBelow Went levels = Unit {0}
LevelBelow Branched levels = Unit {0}
LevelBelow (Switched level) levels = level < levels
LevelBelow (Exited status) levels = Unit {0}
LevelBelow (Trapped trap) levels = Unit {0}
