use Rattle.std.proofs.Common.{ℕ, List, Option, length}
use Rattle.graph_algorithms.specs.Keys.{AreChains}
use Rattle.least_cycles.specs.Tables.{AreOwnerKeys}
use Rattle.graph_algorithms.proofs.Laws.{place}
use Rattle.least_cycles.proofs.PriceLaws.{IsBucketFrom}
use Rattle.least_cycles.proofs.buckets.nodes_of.Given as goal

abbrev pub invariant-loop-next : goal.invariant-loop-next
invariant-loop-next l = (keys : List (Option ℕ)) → AreOwnerKeys l.graph (length l.graph.code.nodes) keys → AreChains keys (length l.graph.code.functions) l.chains → IsBucketFrom l.graph keys l.f l.next l.bucket.items

abbrev pub decreases-loop-next : goal.decreases-loop-next
decreases-loop-next l = place l.next
