use Rattle.std.proofs.Common.{string_bytes}
use Rattle.run_pictures.specs.PictureTexts.{level_text}
use Rattle.run_pictures.proofs.TextLoops.{range-none, range-more}
use Rattle.run_pictures.proofs.frames.push_levels.Goals as goal

pub loop-i-init : goal.loop-i-init
loop-i-init c = range-none (level_text c.args.levels.now c.args.y) (string_bytes c.args.text.now)

pub loop-i-preserved : goal.loop-i-preserved
loop-i-preserved c = range-more (level_text c.args.levels.now c.args.y) c.loop-i.i _ (string_bytes c.loop-i.text) (string_bytes c.push_level.new.text) c.in_ok-push_level.ensures c.loop-i.invariant
