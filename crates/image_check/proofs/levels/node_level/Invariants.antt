use Rattle.std.proofs.Common.{ℕ, ◌<◌}
use Rattle.scale_base.specs.declared.edges.Edge.{Edge}
use Rattle.image_check.specs.Levels.{ForAllKnown, IsSortAt, IsBadAt}
use Rattle.image_check.proofs.levels.node_level.Given as goal

abbrev pub invariant-loop-e : goal.invariant-loop-e
invariant-loop-e l = ForAllKnown l.known (λ foreign found w n least. (d i : ℕ) (edge : Edge) → d < l.e → IsSortAt l.known l.k l.taken d edge → IsBadAt l.known foreign found w n least d i → ⊥)
