use Rattle.image_check.proofs.Paced.{safe_paced}
use Rattle.image_check.proofs.Tuned.{paced_budgeted, paced_runs}
use Rattle.image_check.proofs.Promised.{paced_promise}
use Rattle.image_check.proofs.paced_images_keep_the_promise.Goals as goal

pub returns-clause-safe : goal.returns-clause-safe
returns-clause-safe c = safe_paced

pub returns-clause-budgeted : goal.returns-clause-budgeted
returns-clause-budgeted c = paced_budgeted

pub returns-clause-runs : goal.returns-clause-runs
returns-clause-runs c = paced_runs

pub returns-clause-promise : goal.returns-clause-promise
returns-clause-promise c = paced_promise
