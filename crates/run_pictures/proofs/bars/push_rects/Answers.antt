use Rattle.std.proofs.Common.{string_bytes}
use Rattle.run_pictures.proofs.BarLoops.{rects-more, rects-all}
use Rattle.run_pictures.proofs.bars.push_rects.Goals as goal

pub loop-end-preserved : goal.loop-end-preserved
loop-end-preserved c =
    rects-more c.args.axis.now c.args.levels.now c.args.base c.loop-end.begin c.args.ends.now c.loop-end.end-index _ _ (string_bytes c.loop-end.text) (string_bytes c.push_bar.new.text) c.loop-end-test.true c.in_ok-push_bar.ensures c.loop-end.invariant

pub returns : goal.returns
returns c = rects-all c.args.axis.now c.args.levels.now c.args.base c.loop-end.begin c.args.ends.now c.loop-end.end-index _ (string_bytes c.loop-end.text) c.loop-end-test.false c.loop-end.invariant
