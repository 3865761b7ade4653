use Rattle.loop_drafts.proofs.Promises.{counts_taken}
use Rattle.loop_drafts.proofs.SameCounts.{counts_free}
use Rattle.loop_drafts.proofs.counts_are_free.Goals as goal

pub returns-clause-free : goal.returns-clause-free
returns-clause-free c = counts_free

pub returns-clause-drafted : goal.returns-clause-drafted
returns-clause-drafted c = counts_taken
