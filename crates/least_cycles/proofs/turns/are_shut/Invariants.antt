use Rattle.std.proofs.Common.{ℕ, ◌<◌, length}
use Rattle.least_cycles.specs.Functions.{IsNodeFlagged, IsFromFirst}
use Rattle.least_cycles.proofs.turns.are_shut.Given as goal

abbrev pub invariant-loop-k : goal.invariant-loop-k
invariant-loop-k l = (d : ℕ) → d < length l.graph.code.edges → IsFromFirst l.graph l.nodes l.k-index d → IsNodeFlagged l.lasts d → ⊥
