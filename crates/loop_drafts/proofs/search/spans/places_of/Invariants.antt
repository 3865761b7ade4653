use Rattle.std.proofs.Common.{◌≡◌, length, vec_len}
use Rattle.loop_drafts.proofs.search.spans.places_of.Given as goal

abbrev pub invariant-loop-node : goal.invariant-loop-node
invariant-loop-node l = (vec_len l.places ≡ l.node) × (vec_len l.counts ≡ length l.graph.code.functions)
