use Rattle.std.proofs.Common.{◌≡◌, ◌++◌, [], ◌∷◌, map, Vec, Global, ap, ◌∙◌}
use Rattle.scale_base.specs.declared.fragments.Mark.{Mark}
use Rattle.flow_graph.specs.FlowGraph.{graph}
use Rattle.loop_forest.specs.Tree.{loops}
use Rattle.scale_sites.specs.Marks.{marks_of}
use Rattle.scale_sites.specs.Sites.{flag_at, marks_where}
use Rattle.scale_sites.proofs.SiteLaws.{map_push, marks_push}
use Rattle.scale_sites.proofs.sites.wanted_marks.Goals as goal

pub loop-e-preserved : goal.loop-e-preserved
loop-e-preserved c =
    let v = c.args.marking.now.graph.now in
    let t = c.args.marking.now.tree.now in
    let counted = c.args.marking.now.counted.now in
    let items : map (λ (m : Vec Mark Global). m.items) c.push.new.self.items ≡ map (λ (m : Vec Mark Global). m.items) c.loop-e.marks.items ++ c.in_ok-marks_of_edge.field-0.items ∷ [] =
    ap (map (λ (m : Vec Mark Global). m.items)) c.in_ok-push.ensures.items ∙ map_push c.loop-e.marks.items c.in_ok-marks_of_edge.field-0 in
    let made : c.in_ok-marks_of_edge.field-0.items ≡ marks_where v t counted (flag_at c.args.wanted.now) c.loop-e.e =
    c.in_ok-marks_of_edge.ensures.marks
    ∙ ap (λ k. marks_of (graph v) (loops v t) counted (flag_at c.args.wanted.now c.loop-e.e) 0 k c.loop-e.e) c.requires.no_gain in
    rw items (marks_push (marks_where v t counted (flag_at c.args.wanted.now)) c.loop-e.e (map (λ (m : Vec Mark Global). m.items) c.loop-e.marks.items) c.in_ok-marks_of_edge.field-0.items
    c.loop-e.invariant made c.in_ok-marks_of_edge.ensures.few)
