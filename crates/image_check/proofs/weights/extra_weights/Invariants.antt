use Rattle.std.proofs.Common.{◌≡◌, ℕ, ◌<◌, length, slice_index}
use Rattle.image_check.specs.Weights.{IsExtraAt}
use Rattle.image_check.proofs.weights.extra_weights.Given as goal

abbrev pub invariant-loop-e : goal.invariant-loop-e
invariant-loop-e l = record {
  size : length l.weights.items ≡ l.e;
  each : (d : ℕ) → d < l.e → IsExtraAt l.costs l.graph l.sites d (slice_index l.weights.items d);
}
