use Rattle.std.specs.Prelude.{string_bytes}
use Rattle.pace_tool.proofs.LeftLines.{left_empty}
use Rattle.pace_tool.proofs.texts.+push_left_out.Goals as goal

pub returns-in-None : goal.returns-in-None
returns-in-None t c = left_empty (string_bytes c.args.text.now) c.args.number c.args.endings.now c.in-None.ensures.cases
