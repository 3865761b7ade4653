-- The entries of functions.
use Rattle.std.proofs.Common.{ℕ}
use Rattle.cost_theory.specs.declared.flow.Flow.{Flow}
use Rattle.cost_theory.specs.Reached.{Reached}
use Rattle.cost_theory.specs.Reached.Reached.{main, onward, back, called}

-- a function's first word is reached in it
pub entry_reached : {word : ℕ → Flow} {first f v : ℕ} → Reached word first f v → Reached word first f f
entry_reached main = main
entry_reached (onward u r leads) = entry_reached r
entry_reached (back h r reached calls returns is_back) = entry_reached reached
entry_reached (called h r calls) = called h r calls
