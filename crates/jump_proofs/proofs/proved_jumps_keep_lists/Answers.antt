use Rattle.jump_proofs.proofs.Keeping.{all_keep_lists, keep_lists}
use Rattle.jump_proofs.proofs.proved_jumps_keep_lists.Goals as goal

pub returns-clause-each : goal.returns-clause-each
returns-clause-each c = keep_lists

pub returns-clause-all : goal.returns-clause-all
returns-clause-all c = all_keep_lists
