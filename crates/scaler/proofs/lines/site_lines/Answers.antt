use Rattle.std.proofs.Common.{◌<◌, ◌≤◌, length, arith, ap, ◌∙◌}
use Rattle.scale_sites.specs.Counters.{counted_loops}
use Rattle.rewritten_runs.specs.Stubs.{fragments_with}
use Rattle.marked_images.specs.Markings.{test_of}
use Rattle.marked_images.specs.Wanted.{marked_where}
use Rattle.scaler.specs.Planned.{lines_from}
use Rattle.marked_images.proofs.Laws.{take_all}
use Rattle.scaler.proofs.LineFacts.{lines_more}
use Rattle.scaler.proofs.lines.site_lines.Goals as goal

pub loop-e-init : goal.loop-e-init
loop-e-init c = λ image wanted stored least is. c.new-lines.ensures.items

pub loop-e-preserved : goal.loop-e-preserved
loop-e-preserved c = λ image wanted stored least is.
    let frags = fragments_with c.args.power.now (test_of c.args.power.now c.args.marked.now.marking) image c.args.marked.now.graph c.args.marked.now.tree (marked_where c.args.marked.now.graph c.args.marked.now.tree wanted) stored least in
    let lt : c.loop-e.e < length c.args.marked.now.graph.code.edges = (let a = c.loop-e-test.true in let b = c.edge_count-e-end.ensures.count in omega (arith, a, b)) in
    lines_more (counted_loops c.args.marked.now.tree) frags c.args.marked.now.graph.code.edges c.loop-e.e c.loop-e.lines.items c.push_lines.new.lines.items lt (c.loop-e.invariant image wanted stored least is) (c.in_ok-push_lines.ensures image wanted stored least is)

pub returns : goal.returns
returns c = λ image wanted stored least is.
    let frags = fragments_with c.args.power.now (test_of c.args.power.now c.args.marked.now.marking) image c.args.marked.now.graph c.args.marked.now.tree (marked_where c.args.marked.now.graph c.args.marked.now.tree wanted) stored least in
    let long : length c.args.marked.now.graph.code.edges ≤ c.loop-e.e = (let a = c.loop-e-test.false in let b = c.edge_count-e-end.ensures.count in omega (arith, a, b)) in
    c.loop-e.invariant image wanted stored least is ∙ ap (lines_from (counted_loops c.args.marked.now.tree) frags 0) (take_all c.args.marked.now.graph.code.edges c.loop-e.e long)
