use Rattle.std.proofs.Common.{◌≤◌, ◌+◌, ◌++◌, map, take, length, slice_get, get_or, arith, sym, ap, ◌∙◌, subst}
use Rattle.std.proofs.lemmas.List.{append-nil}
use Rattle.scale_base.specs.declared.fragments.Mark.TheVariants as marks
use Rattle.loop_forest.specs.Tree.{loops}
use Rattle.scale_sites.specs.Counters.{counted_loops}
use Rattle.scale_sites.specs.Sites.{marks_at_edge}
use Rattle.rewritten_runs.specs.Stubs.{told_at, fragment_by}
use Rattle.marked_images.specs.Markings.{test_of}
use Rattle.marked_images.specs.Wanted.{marked_where}
use Rattle.scaler.specs.Lines.{IsOfLoop}
use Rattle.scaler.specs.Planned.{line_of, loop_number}
use Rattle.marked_images.proofs.Laws.{get_some, take_all}
use Rattle.scaler.proofs.LineFacts.{line_more, of_loop, some_same}
use Rattle.scaler.proofs.lines.push_lines.Goals as goal

pub loop-mark-init : goal.loop-mark-init
loop-mark-init c = λ image wanted stored least is. sym (append-nil c.args.lines.now.items)

pub fragment_of-fragment-requires-clause-mark : goal.fragment_of-fragment-requires-clause-mark
fragment_of-fragment-requires-clause-mark c =
    (c.loop-mark.mark-index, ap (λ xs. slice_get xs c.loop-mark.mark-index) (sym c.marks-mark-items.ensures) ∙ get_some c.marks-mark-items.result.now c.loop-mark.mark-index marks.Switch c.loop-mark-test.true)

pub loop_number-requires : goal.loop_number-requires
loop_number-requires c =
    let h = c.requires.marking in
    let i = c.loop-mark.mark-index in
    let xs = c.marks-mark-items.result.now in
    let told = told_at c.args.power.now h.0 c.args.marked.now.graph c.args.marked.now.tree (marked_where c.args.marked.now.graph c.args.marked.now.tree h.1) h.2 h.3 c.args.e in
    subst (IsOfLoop c.args.marked.now.marking.counters) (sym (c.fragment_of-fragment.ensures h.0 h.1 h.2 h.3 h.4))
    (of_loop c.args.power.now h.0 c.args.marked.now.graph c.args.marked.now.tree h.1 h.2 h.3 c.args.marked.now.marking h.4 c.requires.few (test_of c.args.power.now c.args.marked.now.marking) c.args.e i (get_or xs i marks.Switch) told c.requires.edge
    (ap (λ ys. slice_get ys i) (sym c.marks-mark-items.ensures) ∙ get_some xs i marks.Switch c.loop-mark-test.true))

pub loop-mark-preserved : goal.loop-mark-preserved
loop-mark-preserved c = λ image wanted stored least is.
    let f = fragment_by c.args.power.now (test_of c.args.power.now c.args.marked.now.marking) (loops c.args.marked.now.graph c.args.marked.now.tree) (counted_loops c.args.marked.now.tree) stored (told_at c.args.power.now image c.args.marked.now.graph c.args.marked.now.tree (marked_where c.args.marked.now.graph c.args.marked.now.tree wanted) stored least c.args.e) in
    let i = c.loop-mark.mark-index in
    let xs = c.marks-mark-items.result.now in
    let here = c.marks-mark-items.ensures in
    let g = line_of (counted_loops c.args.marked.now.tree) c.edge-edge.result in
    line_more (counted_loops c.args.marked.now.tree) c.edge-edge.result f xs i marks.Switch c.fragment_of-fragment.result c.loop_number.result c.args.lines.now.items c.loop-mark.lines.items c.push.new.self.items c.loop-mark-test.true
    (c.loop-mark.invariant image wanted stored least is ∙ ap (λ ms. c.args.lines.now.items ++ map g (map f (take i ms))) (sym here)) (c.fragment_of-fragment.ensures image wanted stored least is)
    (c.loop_number.ensures ∙ ap (λ cs. loop_number cs c.fragment_of-fragment.result) is.counters) c.in_ok-push.ensures.items
    ∙ ap (λ ms. c.args.lines.now.items ++ map g (map f (take (i + 1) ms))) here

pub returns : goal.returns
returns c = λ image wanted stored least is edge at.
    let f = fragment_by c.args.power.now (test_of c.args.power.now c.args.marked.now.marking) (loops c.args.marked.now.graph c.args.marked.now.tree) (counted_loops c.args.marked.now.tree) stored (told_at c.args.power.now image c.args.marked.now.graph c.args.marked.now.tree (marked_where c.args.marked.now.graph c.args.marked.now.tree wanted) stored least c.args.e) in
    let xs = marks_at_edge c.args.marked.now.marking.sites c.args.e in
    let old = c.args.lines.now.items in
    let counted = counted_loops c.args.marked.now.tree in
    let long : length xs ≤ c.loop-mark.mark-index = (let n = ap length c.marks-mark-items.ensures in let t = c.loop-mark-test.false in omega (arith, n, t)) in
    c.loop-mark.invariant image wanted stored least is
    ∙ (ap (λ x. old ++ map (line_of counted x) (map f (take c.loop-mark.mark-index xs))) (some_same (sym c.edge-edge.ensures ∙ at))
    ∙ ap (λ ms. old ++ map (line_of counted edge) (map f ms)) (take_all xs c.loop-mark.mark-index long ∙ is.marks c.args.e c.requires.edge))
