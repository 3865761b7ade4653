use Rattle.std.proofs.Common.{◌≤◌, ◌+◌, ◌++◌, ◌∷◌, [], map, take, length, slice_get, get_or, arith, sym, ap, ◌∙◌}
use Rattle.scale_sites.specs.Sites.{marks_at_edge}
use Rattle.scale_sites.specs.Counters.{counted_loops}
use Rattle.scale_base.specs.declared.fragments.Mark.TheVariants as marks
use Rattle.loop_forest.specs.Tree.{loops}
use Rattle.rewritten_runs.specs.Stubs.{told_at, fragment_by}
use Rattle.marked_images.specs.Wanted.{marked_where}
use Rattle.marked_images.specs.Markings.{test_of}
use Rattle.marked_images.proofs.Lists.{get_some, map_take_more, step_is, take_all}
use Rattle.marked_images.proofs.stubs.fragments_at.Goals as goal

pub loop-mark-init : goal.loop-mark-init
loop-mark-init c = λ image wanted stored least is. c.new-fragments.ensures.items

pub fragment_of-requires-clause-mark : goal.fragment_of-requires-clause-mark
fragment_of-requires-clause-mark c =
    (c.loop-mark.mark-index, ap (λ xs. slice_get xs c.loop-mark.mark-index) (sym c.marks-mark-items.ensures) ∙ get_some c.marks-mark-items.result.now c.loop-mark.mark-index marks.Switch c.loop-mark-test.true)

pub loop-mark-preserved : goal.loop-mark-preserved
loop-mark-preserved c = λ image wanted stored least is.
    let f = fragment_by c.args.power.now (test_of c.args.power.now c.args.marked.now.marking) (loops c.args.marked.now.graph c.args.marked.now.tree) (counted_loops c.args.marked.now.tree) stored (told_at c.args.power.now image c.args.marked.now.graph c.args.marked.now.tree (marked_where c.args.marked.now.graph c.args.marked.now.tree wanted) stored least c.args.e) in
    let i = c.loop-mark.mark-index in
    let xs = c.marks-mark-items.result.now in
    c.in_ok-push.ensures.items
    ∙ (ap (λ ys. ys ++ c.fragment_of.result ∷ []) (c.loop-mark.invariant image wanted stored least is)
    ∙ (ap (λ y. map f (take i (marks_at_edge c.args.marked.now.marking.sites c.args.e)) ++ y ∷ []) (c.fragment_of.ensures image wanted stored least is)
    ∙ (ap (λ ys. map f (take i ys) ++ f (get_or xs i marks.Switch) ∷ []) (sym c.marks-mark-items.ensures)
    ∙ (sym (map_take_more f xs i marks.Switch c.loop-mark-test.true)
    ∙ (ap (λ n. map f (take n xs)) (sym (step_is i)) ∙ ap (λ ys. map f (take (i + 1) ys)) c.marks-mark-items.ensures)))))

pub returns : goal.returns
returns c = λ image wanted stored least is.
    let f = fragment_by c.args.power.now (test_of c.args.power.now c.args.marked.now.marking) (loops c.args.marked.now.graph c.args.marked.now.tree) (counted_loops c.args.marked.now.tree) stored (told_at c.args.power.now image c.args.marked.now.graph c.args.marked.now.tree (marked_where c.args.marked.now.graph c.args.marked.now.tree wanted) stored least c.args.e) in
    let xs = marks_at_edge c.args.marked.now.marking.sites c.args.e in
    let long : length xs ≤ c.loop-mark.mark-index = (let n = ap length c.marks-mark-items.ensures in let t = c.loop-mark-test.false in omega (arith, n, t)) in
    c.from_vec.ensures ∙ (c.loop-mark.invariant image wanted stored least is ∙ (ap (map f) (take_all xs c.loop-mark.mark-index long) ∙ ap (map f) (is.marks c.args.e c.requires.edge)))
