use Rattle.std.proofs.Common.{◌≤◌, ◌+◌, length}
use Rattle.std.specs.Prelude.{slice_index}
use Rattle.rewritten_runs.specs.Stubs.{fragments_with}
use Rattle.marked_images.specs.Wanted.{marked_where}
use Rattle.marked_images.specs.Markings.{AreMarkedEdges, Whichever, test_of}
use Rattle.marked_images.proofs.stubs.stub_edges.Given as goal

abbrev pub invariant-loop-e : goal.invariant-loop-e
invariant-loop-e l = (l.first + length l.edges.items ≤ l.e) × Whichever l.power l.marked.graph l.marked.tree l.marked.marking (λ image wanted stored least.
    AreMarkedEdges l.marked.graph (fragments_with l.power (test_of l.power l.marked.marking) image l.marked.graph l.marked.tree (marked_where l.marked.graph l.marked.tree wanted) stored least) (slice_index l.marked.graph.code.nodes l.k) l.e l.edges.items)
