use Rattle.std.proofs.Common.{◌≡◌, map, take}
use Rattle.loop_forest.specs.Tree.{loops}
use Rattle.scale_sites.specs.Counters.{counted_loops}
use Rattle.scale_sites.specs.Sites.{marks_at_edge}
use Rattle.rewritten_runs.specs.Stubs.{told_at, fragment_by}
use Rattle.marked_images.specs.Wanted.{marked_where}
use Rattle.marked_images.specs.Markings.{Whichever, test_of}
use Rattle.marked_images.proofs.stubs.fragments_at.Given as goal

abbrev pub invariant-loop-mark : goal.invariant-loop-mark
invariant-loop-mark l = Whichever l.power l.marked.graph l.marked.tree l.marked.marking (λ image wanted stored least.
    l.fragments.items ≡ map (fragment_by l.power (test_of l.power l.marked.marking) (loops l.marked.graph l.marked.tree) (counted_loops l.marked.tree) stored (told_at l.power image l.marked.graph l.marked.tree (marked_where l.marked.graph l.marked.tree wanted) stored least l.e)) (take l.mark-index (marks_at_edge l.marked.marking.sites l.e)))
