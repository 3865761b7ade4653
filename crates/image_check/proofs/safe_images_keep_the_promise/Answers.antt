use Rattle.image_check.proofs.Tuned.{safe_tuned, safe_runs}
use Rattle.image_check.proofs.Promised.{promise_kept}
use Rattle.image_check.proofs.safe_images_keep_the_promise.Goals as goal

pub returns-clause-tuned : goal.returns-clause-tuned
returns-clause-tuned c = safe_tuned

pub returns-clause-runs : goal.returns-clause-runs
returns-clause-runs c = safe_runs

pub returns-clause-promise : goal.returns-clause-promise
returns-clause-promise c = promise_kept
