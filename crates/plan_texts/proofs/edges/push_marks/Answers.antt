use Rattle.std.proofs.Common.{List, ◌++◌, ap, take_all, string_bytes, append-nil, sym, ◌∙◌}
use Rattle.std.specs.List.{flat_map}
use Rattle.plan_graphs.specs.declared.plan.DrawnMark.{DrawnMark}
use Rattle.plan_texts.specs.Words.{mark_line}
use Rattle.plan_texts.proofs.Lines.{copies-more}
use Rattle.plan_texts.proofs.edges.push_marks.Goals as goal

pub loop-mark-init : goal.loop-mark-init
loop-mark-init c = sym (append-nil (string_bytes c.args.text.now))

pub loop-mark-preserved : goal.loop-mark-preserved
loop-mark-preserved c =
    copies-more mark_line (string_bytes c.args.text.now) (string_bytes c.loop-mark.text) (string_bytes c.push_mark.new.text) c.args.marks.now c.loop-mark.mark-index _ c.loop-mark-test.true c.in_ok-push_mark.ensures c.loop-mark.invariant

pub returns : goal.returns
returns c =
    c.loop-mark.invariant
    ∙ ap (λ (xs : List DrawnMark). string_bytes c.args.text.now ++ flat_map mark_line xs) (take_all c.loop-mark.mark-index c.args.marks.now c.loop-mark-test.false)
