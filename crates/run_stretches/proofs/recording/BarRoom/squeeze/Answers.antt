use Rattle.run_stretches.proofs.SqueezeLaws.{squeezed_by}
use Rattle.run_stretches.proofs.recording.BarRoom.squeeze.Goals as goal

pub returns : goal.returns
returns c =
    squeezed_by c.args.self.now c.args.grain _ _ _ _ _ c.copy_to-count.ensures.done c.last_bar-kept.ensures c.clear.ensures c.put_all.ensures c.put_last.ensures
