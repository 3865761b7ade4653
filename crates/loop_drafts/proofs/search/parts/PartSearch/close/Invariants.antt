use Rattle.std.proofs.Common.{◌≡◌, ◌<◌, vec_len}
use Rattle.loop_drafts.proofs.search.parts.PartSearch.close.Given as goal

abbrev pub invariant-loop-node : goal.invariant-loop-node
invariant-loop-node l = (vec_len l.self.met ≡ vec_len l.initial.self.met) × (l.root < vec_len l.self.met)

abbrev pub decreases-loop-node : goal.decreases-loop-node
decreases-loop-node l = goal.left-loop-node l
