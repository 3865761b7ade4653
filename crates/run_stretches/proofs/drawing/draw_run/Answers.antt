use Rattle.run_stretches.proofs.RunLaws.{run_drawn}
use Rattle.run_stretches.proofs.drawing.draw_run.Goals as goal

pub returns : goal.returns
returns g c = record {
  report = c.in_ok-report.ensures.report;
  bars =
      run_drawn c.args.given.now.power.now c.args.given.now.view.now c.args.input.now c.args.given.now.start c.in_ok-report.report _ _ _ c.requires.machine c.requires.start c.in_ok-report.ensures.report c.in_ok-recorder.ensures c.in_ok-report.ensures.watched
      c.finish-bars.ensures;
}
