use Rattle.std.proofs.Common.{arith}
use Rattle.paced_images.proofs.budgeted.budgets_of.Goals as goal

pub overflow_cast-first : goal.overflow_cast-first
overflow_cast-first c =
    let late = c.requires.in_time in
    let is = c.time_at-first.ensures in
    let top = c.power.invariant.deadline_to in
    let same = Rattle.std.proofs.Common.ap (λ (p : Rattle.power_model.specs.Numbers.PowerModel). p.deadline) c.power.view_is in
    omega (arith, late, is, top, same)
