use Rattle.std.proofs.Common.{◌≡◌, ◌≢◌, ◌≤◌, ◌<◌, ℕ, List, Option, length}
use Rattle.graph_algorithms.specs.Arcs.{number_in_place}
use Rattle.graph_algorithms.specs.Keys.{AreChains, IsLastBelow}
use Rattle.graph_algorithms.proofs.Laws.{place}
use Rattle.cycle_laws.specs.Charged.{Charged}
use Rattle.least_cycles.specs.Charging.{AreChargeMarks, AreCharges, AreChargedTo, AreHeaderKeys, IsHeaderFrom, loop_owner}
use Rattle.least_cycles.specs.Passes.{AreCostsKnown}
use Rattle.least_cycles.proofs.walks.charge_loops.Given as goal

abbrev pub invariant-loop-next : goal.invariant-loop-next
invariant-loop-next l = record {
  charged : (keys : List (Option ℕ)) → AreHeaderKeys l.priced.graph.now l.priced.tree.now.order l.plan.heads.items (length l.priced.tree.now.order) keys → AreChains keys (length l.priced.graph.now.code.functions) l.plan.headers →
      (from : ℕ) × (from ≤ length l.priced.tree.now.order) × IsLastBelow keys from l.priced.number l.next × ((w : ℕ → ℕ) (n : Charged) → AreCostsKnown l.priced w n → AreChargedTo l.priced.graph.now l.priced.tree.now n (IsHeaderFrom l.priced.graph.now l.priced.tree.now l.priced.number from) l.charges.found.items);
  others : (k : ℕ) → k < length l.priced.tree.now.headers → loop_owner l.priced.graph.now l.priced.tree.now k ≢ l.priced.number → number_in_place l.charges.found.items k ≡ number_in_place l.fn.charges.found.items k;
  charges : AreCharges l.priced.graph.now l.priced.tree.now l.charges;
  marks : AreChargeMarks l.priced.graph.now l.marks;
}

abbrev pub decreases-loop-next : goal.decreases-loop-next
decreases-loop-next l = place l.next
