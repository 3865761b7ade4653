use Rattle.std.proofs.Common.{string_bytes}
use Rattle.run_pictures.specs.PictureTexts.{tick_text}
use Rattle.run_pictures.proofs.TextLoops.{range-none, range-more}
use Rattle.run_pictures.proofs.frames.push_ticks.Goals as goal

pub loop-j-init : goal.loop-j-init
loop-j-init c = range-none (tick_text c.args.axis.now c.args.y) (string_bytes c.args.text.now)

pub loop-j-preserved : goal.loop-j-preserved
loop-j-preserved c = range-more (tick_text c.args.axis.now c.args.y) c.loop-j.j _ (string_bytes c.loop-j.text) (string_bytes c.push_tick.new.text) c.in_ok-push_tick.ensures c.loop-j.invariant
