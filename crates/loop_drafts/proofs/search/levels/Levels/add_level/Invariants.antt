use Rattle.std.proofs.Common.{◌≡◌, vec_len}
use Rattle.loop_drafts.proofs.search.levels.Levels.add_level.Given as goal

abbrev pub invariant-loop-root : goal.invariant-loop-root
invariant-loop-root l = (l.self.graph.now ≡ l.graph) × (vec_len l.heads ≡ l.count)
