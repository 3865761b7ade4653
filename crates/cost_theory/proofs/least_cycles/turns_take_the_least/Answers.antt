use Rattle.std.proofs.Common.{length, le_refl}
use Rattle.cost_theory.proofs.AtLeast.{kept-charged}
use Rattle.cost_theory.proofs.Nesting.{nested, accepted_entered}
use Rattle.cost_theory.proofs.least_cycles.turns_take_the_least.Goals as goal

pub returns : goal.returns
returns c = λ g l extent cost least turn prog acc turns last step t kind es v counts run keeps.
    kept-charged g l cost least turn (nested g l extent prog (accepted_entered acc)) turns (length es) last step t kind es v counts (le_refl (length es)) run keeps
