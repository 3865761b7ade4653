use Rattle.std.proofs.Common.{◌<◌, ℕ}
use Rattle.code_graph.specs.Finding.{reach_of, IsRefusedWord}
use Rattle.code_graph.proofs.refusals.first_refused.Given as goal

abbrev pub invariant-loop-k : goal.invariant-loop-k
invariant-loop-k l = (j : ℕ) → j < l.k → IsRefusedWord (reach_of l.reach) j → ⊥
