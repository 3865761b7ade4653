use Rattle.std.proofs.Common.{◌∙◌, ap, sym}
use Rattle.keep_monitor.specs.Watch.{Watched, watch}
use Rattle.keep_monitor.specs.contracts.monitor.Monitor.{the_view}
use Rattle.keep_monitor.proofs.StepLaws.{watch_goes_on, watch_stays}
use Rattle.keep_monitor.proofs.monitor.Monitor.take_step.Goals as goal

pub returns-in-Kept : goal.returns-in-Kept
returns-in-Kept c =
    c.watch_next-self-inside.ensures.watched ∙ watch_goes_on (the_view c.self.inside) c.args.step.now c.in-Kept.is ∙ ap (λ (v : Watched). watch v c.args.step.now) c.self.view_is

pub returns-in_default : goal.returns-in_default
returns-in_default c = sym c.self.view_is ∙ watch_stays (the_view c.self.inside) c.args.step.now c.in_default.not-Kept ∙ ap (λ (v : Watched). watch v c.args.step.now) c.self.view_is
