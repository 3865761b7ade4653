use Rattle.std.proofs.Common.{List, ◌++◌, ap, take_all, string_bytes, append-nil, sym, ◌∙◌}
use Rattle.std.specs.List.{flat_map}
use Rattle.level_reasons.specs.ReasonTexts.{edge_line}
use Rattle.level_reasons.specs.declared.shown.EdgeLine.{EdgeLine}
use Rattle.level_reasons.proofs.TextLines.{lines-more}
use Rattle.level_reasons.proofs.texts.push_edges.Goals as goal

pub loop-line-init : goal.loop-line-init
loop-line-init c = sym (append-nil (string_bytes c.args.text.now))

pub loop-line-preserved : goal.loop-line-preserved
loop-line-preserved c =
    lines-more edge_line (string_bytes c.args.text.now) (string_bytes c.loop-line.text) (string_bytes c.push_edge.new.text) c.args.lines.now c.loop-line.line-index _ c.loop-line-test.true c.in_ok-push_edge.ensures c.loop-line.invariant

pub returns : goal.returns
returns c =
    c.loop-line.invariant
    ∙ ap (λ (lines : List EdgeLine). string_bytes c.args.text.now ++ flat_map edge_line lines) (take_all c.loop-line.line-index c.args.lines.now c.loop-line-test.false)
