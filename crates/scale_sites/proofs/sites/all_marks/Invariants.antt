use Rattle.std.proofs.Common.{map, Vec, Global}
use Rattle.scale_base.specs.declared.fragments.Mark.{Mark}
use Rattle.scale_sites.specs.Sites.{AreMarks}
use Rattle.scale_sites.proofs.sites.all_marks.Given as goal

abbrev pub invariant-loop-e : goal.invariant-loop-e
invariant-loop-e l = AreMarks l.marking.graph.now l.marking.tree.now l.marking.counted.now l.slacks l.marking.min_gain l.e (map (λ (m : Vec Mark Global). m.items) l.marks.items)
