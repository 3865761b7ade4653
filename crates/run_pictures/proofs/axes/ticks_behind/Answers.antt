use Rattle.std.proofs.Common.{◌≤◌, ◌/◌, sym, subst}
use Rattle.run_pictures.proofs.axes.ticks_behind.Goals as goal

pub returns-clause-few : goal.returns-clause-few
returns-clause-few c = subst (λ n. c.args.axis.now.end / n ≤ 8) (sym c.tick_step-step.ensures.step) c.requires.few
