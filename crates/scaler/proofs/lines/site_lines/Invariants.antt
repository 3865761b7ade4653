use Rattle.std.proofs.Common.{◌≡◌, take}
use Rattle.scale_sites.specs.Counters.{counted_loops}
use Rattle.rewritten_runs.specs.Stubs.{fragments_with}
use Rattle.marked_images.specs.Markings.{test_of, Whichever}
use Rattle.marked_images.specs.Wanted.{marked_where}
use Rattle.scaler.specs.Planned.{lines_from}
use Rattle.scaler.proofs.lines.site_lines.Given as goal

abbrev pub invariant-loop-e : goal.invariant-loop-e
invariant-loop-e l = Whichever l.power l.marked.graph l.marked.tree l.marked.marking (λ image wanted stored least.
    l.lines.items ≡ lines_from (counted_loops l.marked.tree) (fragments_with l.power (test_of l.power l.marked.marking) image l.marked.graph l.marked.tree (marked_where l.marked.graph l.marked.tree wanted) stored least) 0 (take l.e l.marked.graph.code.edges))
