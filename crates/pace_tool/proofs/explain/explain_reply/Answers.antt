use Rattle.worst_reports.specs.Explained.{AreExplained}
use Rattle.worst_reports.specs.ExplainedTexts.{explained_text}
use Rattle.pace_tool.proofs.Told.{text_told}
use Rattle.pace_tool.proofs.explain.explain_reply.Goals as goal

pub returns : goal.returns
returns c =
    text_told (AreExplained c.args.files.now.image.now c.args.files.now.machine.now c.args.files.now.loops.now) explained_text c.explained.result c.text_reply.result c.explained.ensures c.text_reply.ensures
