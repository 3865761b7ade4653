use Rattle.pace_tool.specs.Answer.{SplitsImage}
use Rattle.pace_tool.specs.Texts.{split_text}
use Rattle.pace_tool.proofs.Told.{file_told}
use Rattle.pace_tool.proofs.split.split_reply.Goals as goal

pub returns : goal.returns
returns c = file_told (SplitsImage c.args.image.now) split_text c.args.out.now c.written.result c.stored_reply.result c.written.ensures c.stored_reply.ensures
