use Rattle.std.proofs.Common.{ℕ, ◌<◌}
use Rattle.shown_bounds.specs.Certified.{IsEdgeCertified}
use Rattle.shown_bounds.proofs.edges.are_edges_certified.Given as goal

abbrev pub invariant-loop-e : goal.invariant-loop-e
invariant-loop-e l = (e : ℕ) → e < l.e → IsEdgeCertified l.case e
