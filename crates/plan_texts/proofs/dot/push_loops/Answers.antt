use Rattle.std.proofs.Common.{List, ◌++◌, ap, take_all, string_bytes, append-nil, sym, ◌∙◌}
use Rattle.std.specs.List.{flat_map}
use Rattle.plan_graphs.specs.declared.plan.DrawnLoop.{DrawnLoop}
use Rattle.plan_texts.specs.Dot.{loop_line}
use Rattle.plan_texts.proofs.Lines.{lines-more}
use Rattle.plan_texts.proofs.dot.push_loops.Goals as goal

pub loop-drawn-init : goal.loop-drawn-init
loop-drawn-init c = sym (append-nil (string_bytes c.args.text.now))

pub loop-drawn-preserved : goal.loop-drawn-preserved
loop-drawn-preserved c =
    lines-more loop_line (string_bytes c.args.text.now) (string_bytes c.loop-drawn.text) (string_bytes c.push_loop.new.text) c.args.loops.now c.loop-drawn.drawn-index c.drawn-item.result c.loop-drawn-test.true c.drawn-item.is c.in_ok-push_loop.ensures c.loop-drawn.invariant

pub returns : goal.returns
returns c =
    c.loop-drawn.invariant
    ∙ ap (λ (xs : List DrawnLoop). string_bytes c.args.text.now ++ flat_map loop_line xs) (take_all c.loop-drawn.drawn-index c.args.loops.now c.loop-drawn-test.false)
