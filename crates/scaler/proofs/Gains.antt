-- The machine of a rewriting by another least gain.
use Rattle.std.proofs.Common.{ℕ}
use Rattle.power_model.specs.Numbers.{PowerModel, IsPowerModel}
use Rattle.scaler.specs.RewrittenAs.{with_gain}

-- the ranges of a machine say nothing of its least gain
pub model_with : (power : PowerModel) (min_gain : ℕ) → IsPowerModel power → IsPowerModel (with_gain power min_gain)
model_with power min_gain is = record {
  some = is.some;
  few = is.few;
  positive = is.positive;
  ranked = is.ranked;
  costs = is.costs;
  deadline_from = is.deadline_from;
  deadline_to = is.deadline_to;
  steps_from = is.steps_from;
  steps_to = is.steps_to;
}
