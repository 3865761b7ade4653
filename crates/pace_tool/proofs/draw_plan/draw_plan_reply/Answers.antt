use Rattle.plan_texts.specs.Counts.{plan_text}
use Rattle.pace_tool.specs.Drawn.{DrawsPlan}
use Rattle.pace_tool.proofs.Told.{file_told}
use Rattle.pace_tool.proofs.draw_plan.draw_plan_reply.Goals as goal

pub returns : goal.returns
returns c =
    file_told (DrawsPlan c.args.files.now.image.now c.args.files.now.machine.now c.args.files.now.loops.now) plan_text c.args.out.now c.drawn.result c.stored_reply.result c.drawn.ensures c.stored_reply.ensures
