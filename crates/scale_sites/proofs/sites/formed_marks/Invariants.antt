use Rattle.std.proofs.Common.{map, Vec, Global}
use Rattle.scale_base.specs.declared.fragments.Mark.{Mark}
use Rattle.scale_sites.specs.Forms.{formed_where}
use Rattle.scale_sites.specs.Sites.{AreMarksBy, marks_at_edge}
use Rattle.scale_sites.proofs.sites.formed_marks.Given as goal

abbrev pub invariant-loop-e : goal.invariant-loop-e
invariant-loop-e l = AreMarksBy (formed_where l.lowest l.tallied (marks_at_edge l.sites)) l.e (map (λ (m : Vec Mark Global). m.items) l.marks.items)
