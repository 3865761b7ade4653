-- Scaffold: what sees the steps of a run, one after another.
use Rattle.std.specs.Prelude.{ℕ, zero, suc}
use Rattle.scale_base.specs.declared.stepping.Stepped.{Stepped}
use Rattle.scale_base.specs.declared.stepping.StepEnd.{StepEnd}
use Rattle.scale_base.specs.declared.stepping.StepEnd.TheVariants.{Went, Exited, Trapped}
use Rattle.scale_base.specs.State.{Setting, State}
use Rattle.scale_base.specs.Step.{step}
use Rattle.scale_base.specs.Run.{Standing, GoesOn, HasExited, HasTrapped, run}

-- after a step that ended so: one that exits or traps isn't seen
abbrev pub seen_after : {W : Type 0} → (W → Stepped → W) → StepEnd → W → W
seen_after see (Went x) w = see w x
seen_after see (Exited x status) w = w
seen_after see (Trapped trap) w = w

-- the same of a run that stands so before the step: nothing is seen of one that has ended
abbrev pub seen_more : {W : Type 0} → (W → Stepped → W) → W → Standing → StepEnd → W
seen_more see w GoesOn end = seen_after see end w
seen_more see w (HasExited status) end = w
seen_more see w (HasTrapped trap) end = w

-- what has seen the first n steps from a state
unfoldable pub seen_from : {W : Type 0} → Setting → State → (W → Stepped → W) → W → ℕ → W
seen_from env s see first zero = first
seen_from env s see first (suc n) = seen_more see (seen_from env s see first n) (run env s n).standing (step env (run env s n).state).end
