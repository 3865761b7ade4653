use Rattle.jump_drafts.proofs.Proved.{image_unproved}
use Rattle.jump_drafts.proofs.drafting.unproved_image.Goals as goal

pub returns : goal.returns
returns c = image_unproved c.args.view.now c.args.bytes.now c.args.notes.now c.none.result c.none.ensures.jumps c.none.ensures.returns
