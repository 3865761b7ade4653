use Rattle.level_reasons.specs.Program.{AreReasons}
use Rattle.level_reasons.specs.ReasonTexts.{reasons_text}
use Rattle.pace_tool.proofs.Told.{text_told}
use Rattle.pace_tool.proofs.show.show_reply.Goals as goal

pub returns : goal.returns
returns c =
    text_told (AreReasons c.args.files.now.image.now c.args.files.now.machine.now c.args.files.now.loops.now) reasons_text c.shown.result c.text_reply.result c.shown.ensures c.text_reply.ensures
