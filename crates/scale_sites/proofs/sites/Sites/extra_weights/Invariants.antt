use Rattle.std.proofs.Common.{◌≡◌, ℕ, ◌<◌, length, slice_index}
use Rattle.scale_sites.specs.Weights.{extra_of}
use Rattle.scale_sites.specs.Sites.{marks_at_edge}
use Rattle.scale_sites.proofs.sites.Sites.extra_weights.Given as goal

abbrev pub invariant-loop-e : goal.invariant-loop-e
invariant-loop-e l = record {
  size : length l.weights.items ≡ l.e;
  each : (d : ℕ) → d < l.e → slice_index l.weights.items d ≡ extra_of l.costs (slice_index l.self.jumps d) (marks_at_edge l.self d);
}
