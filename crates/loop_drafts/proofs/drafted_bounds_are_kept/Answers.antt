use Rattle.loop_drafts.proofs.Promises.{bounds_kept, files_need_returns}
use Rattle.loop_drafts.proofs.drafted_bounds_are_kept.Goals as goal

pub returns-clause-filled : goal.returns-clause-filled
returns-clause-filled c = bounds_kept

pub returns-clause-printed : goal.returns-clause-printed
returns-clause-printed c = files_need_returns
