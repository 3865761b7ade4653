use Rattle.std.proofs.Common.{map, Vec, Global}
use Rattle.scale_base.specs.declared.fragments.Mark.{Mark}
use Rattle.scale_sites.specs.Sites.{AreMarksBy, marks_where, flag_at}
use Rattle.scale_sites.proofs.sites.wanted_marks.Given as goal

abbrev pub invariant-loop-e : goal.invariant-loop-e
invariant-loop-e l = AreMarksBy (marks_where l.marking.graph.now l.marking.tree.now l.marking.counted.now (flag_at l.wanted)) l.e (map (λ (m : Vec Mark Global). m.items) l.marks.items)
