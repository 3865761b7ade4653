use Rattle.jump_drafts.specs.Texts.{jumps_text}
use Rattle.pace_tool.specs.Answer.{DraftsJumps}
use Rattle.pace_tool.proofs.Told.{file_told}
use Rattle.pace_tool.proofs.jumps.jumps_reply.Goals as goal

pub returns : goal.returns
returns c = file_told (DraftsJumps c.args.image.now) jumps_text c.args.out.now c.drafted.result c.stored_reply.result c.drafted.ensures c.stored_reply.ensures
