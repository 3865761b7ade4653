use Rattle.stored_runs.proofs.Follow.{patched_runs, stubbed_patched}
use Rattle.stored_runs.proofs.patched_runs_follow.Goals as goal

pub returns-clause-follow : goal.returns-clause-follow
returns-clause-follow c = patched_runs

pub returns-clause-stubbed : goal.returns-clause-stubbed
returns-clause-stubbed c = stubbed_patched
