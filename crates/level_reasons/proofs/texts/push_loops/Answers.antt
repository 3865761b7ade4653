use Rattle.std.proofs.Common.{List, ◌++◌, ap, take_all, string_bytes, append-nil, sym, ◌∙◌}
use Rattle.std.specs.List.{flat_map}
use Rattle.level_reasons.specs.ReasonTexts.{loop_line}
use Rattle.level_reasons.specs.declared.shown.LoopLine.{LoopLine}
use Rattle.level_reasons.proofs.TextLines.{lines-more}
use Rattle.level_reasons.proofs.texts.push_loops.Goals as goal

pub loop-line-init : goal.loop-line-init
loop-line-init c = sym (append-nil (string_bytes c.args.text.now))

pub loop-line-preserved : goal.loop-line-preserved
loop-line-preserved c =
    lines-more loop_line (string_bytes c.args.text.now) (string_bytes c.loop-line.text) (string_bytes c.push_loop.new.text) c.args.lines.now c.loop-line.line-index _ c.loop-line-test.true c.in_ok-push_loop.ensures c.loop-line.invariant

pub returns : goal.returns
returns c =
    c.loop-line.invariant
    ∙ ap (λ (lines : List LoopLine). string_bytes c.args.text.now ++ flat_map loop_line lines) (take_all c.loop-line.line-index c.args.lines.now c.loop-line-test.false)
