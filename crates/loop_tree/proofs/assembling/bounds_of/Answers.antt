use Rattle.std.proofs.Common.{◌∙◌}
use Rattle.loop_file.specs.declared.notes.LoopNote.{LoopNote}
use Rattle.loop_tree.proofs.Lists.{image_more}
use Rattle.loop_tree.proofs.assembling.bounds_of.Goals as goal

pub loop-k-preserved : goal.loop-k-preserved
loop-k-preserved c = c.in_ok-push.ensures.items ∙ image_more (λ (note : LoopNote). note.bound) c.args.notes.now c.loop-k.k c.note.result.now c.loop-k.bounds.items c.note.ensures.note c.loop-k.invariant
