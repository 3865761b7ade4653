use Rattle.loop_drafts.proofs.Promises.{returns_go_back, files_kept}
use Rattle.loop_drafts.proofs.drafted_files_are_kept.Goals as goal

pub returns-clause-returns : goal.returns-clause-returns
returns-clause-returns c = returns_go_back

pub returns-clause-kept : goal.returns-clause-kept
returns-clause-kept c = files_kept
