use Rattle.std.proofs.Common.{ℕ, ◌≡◌, ◌<◌, Some, length, All}
use Rattle.graph_algorithms.specs.Keys.{HasKey}
use Rattle.loop_drafts.specs.Numbered.{some_numbers, height}
use Rattle.loop_drafts.proofs.search.levels.body_of.Given as goal

abbrev pub invariant-loop-node : goal.invariant-loop-node
invariant-loop-node l = All (λ v. v < length l.roots) l.body.items × ((k : ℕ) → l.node ≡ Some k → (k < length l.roots) × HasKey (some_numbers l.roots) k l.root)

abbrev pub decreases-loop-node : goal.decreases-loop-node
decreases-loop-node l = height l.node
