use Rattle.std.proofs.Common.{ℕ, ◌≤◌, List, Option, length}
use Rattle.graph_algorithms.specs.Keys.{AreChains, IsLastBelow}
use Rattle.graph_algorithms.proofs.Laws.{place}
use Rattle.least_cycles.specs.Tables.{AreBackKeys, least_by}
use Rattle.least_cycles.specs.Ends.{AreBehindFrom}
use Rattle.least_cycles.proofs.ends.behind_of.Given as goal

abbrev pub invariant-loop-next : goal.invariant-loop-next
invariant-loop-next l = (keys : List (Option ℕ)) → AreBackKeys l.graph (length l.graph.code.edges) keys → AreChains keys (length l.graph.code.functions) l.chains →
    (from : ℕ) × (from ≤ length l.graph.code.edges) × IsLastBelow keys from l.f l.next × AreBehindFrom l.graph (least_by l.graph l.walks.returns.items l.walks.exits.items l.behind) l.f from l.least

abbrev pub decreases-loop-next : goal.decreases-loop-next
decreases-loop-next l = place l.next
