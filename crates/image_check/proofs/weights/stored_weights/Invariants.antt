use Rattle.std.proofs.Common.{◌≡◌, ℕ, ◌+◌, ◌<◌, ◌≤◌, length, slice_index, map}
use Rattle.power_model.specs.Price.{cycles_of}
use Rattle.code_text.specs.EdgeCosts.{cost_of}
use Rattle.image_check.specs.Weights.{IsExtraAt}
use Rattle.image_check.proofs.weights.stored_weights.Given as goal

abbrev pub invariant-loop-e : goal.invariant-loop-e
invariant-loop-e l = record {
  size : length l.weights.items ≡ l.e;
  each : (d : ℕ) → d < l.e → (extra : ℕ) × IsExtraAt l.costs l.graph l.sites d extra × (slice_index l.weights.items d ≡ slice_index (map (cost_of (cycles_of l.costs)) l.graph.classes) d + extra);
  small : (d : ℕ) → d < l.e → slice_index l.weights.items d ≤ 4294967295;
}
