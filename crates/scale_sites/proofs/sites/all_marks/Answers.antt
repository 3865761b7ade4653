use Rattle.std.proofs.Common.{◌≡◌, ◌++◌, [], ◌∷◌, map, slice_index, Vec, Global, sym, ap, ◌∙◌}
use Rattle.scale_base.specs.declared.fragments.Mark.{Mark}
use Rattle.flow_graph.specs.FlowGraph.{graph}
use Rattle.loop_forest.specs.Tree.{loops}
use Rattle.scale_sites.specs.Marks.{marks_of}
use Rattle.scale_sites.specs.Sites.{edge_branches, is_branch, marks_by}
use Rattle.scale_sites.proofs.SiteLaws.{map_push, marks_push}
use Rattle.scale_sites.proofs.sites.all_marks.Goals as goal

pub loop-e-preserved : goal.loop-e-preserved
loop-e-preserved c =
    let v = c.args.marking.now.graph.now in
    let t = c.args.marking.now.tree.now in
    let items : map (λ (m : Vec Mark Global). m.items) c.push.new.self.items ≡ map (λ (m : Vec Mark Global). m.items) c.loop-e.marks.items ++ c.in_ok-marks_of_edge.field-0.items ∷ [] =
    ap (map (λ (m : Vec Mark Global). m.items)) c.in_ok-push.ensures.items ∙ map_push c.loop-e.marks.items c.in_ok-marks_of_edge.field-0 in
    let branch : c.is_branch-branch.result ≡ is_branch v c.loop-e.e = c.is_branch-branch.ensures ∙ sym (ap edge_branches c.edge.ensures) in
    let made = c.in_ok-marks_of_edge.ensures.marks ∙ ap (λ b. marks_of (graph v) (loops v t) c.args.marking.now.counted.now b (slice_index c.args.slacks.now c.loop-e.e) c.args.marking.now.min_gain c.loop-e.e) branch in
    rw items (marks_push (marks_by v t c.args.marking.now.counted.now c.args.slacks.now c.args.marking.now.min_gain) c.loop-e.e (map (λ (m : Vec Mark Global). m.items) c.loop-e.marks.items) c.in_ok-marks_of_edge.field-0.items
    c.loop-e.invariant made c.in_ok-marks_of_edge.ensures.few)
