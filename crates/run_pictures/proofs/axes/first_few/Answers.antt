use Rattle.std.proofs.Common.{sym, ◌∙◌}
use Rattle.run_pictures.specs.Places.{are_few}
use Rattle.run_pictures.proofs.TextLoops.{find-past}
use Rattle.run_pictures.proofs.axes.first_few.Goals as goal

pub loop-k-preserved : goal.loop-k-preserved
loop-k-preserved c = find-past (are_few c.args.end) c.loop-k.k c.args.most _ c.loop-k-test.true (sym c.are_few.ensures.is ∙ c.if-are_few.false) c.loop-k.invariant
