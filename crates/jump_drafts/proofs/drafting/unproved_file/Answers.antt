use Rattle.jump_drafts.proofs.Proved.{file_unproved}
use Rattle.jump_drafts.proofs.drafting.unproved_file.Goals as goal

pub returns : goal.returns
returns c = file_unproved c.args.view.now c.args.file.now c.args.notes.now c.none.result c.none.ensures.jumps c.none.ensures.returns
