use Rattle.std.proofs.Common.{List, ◌++◌, ap, take_all, string_bytes, append-nil, sym, ◌∙◌}
use Rattle.std.specs.List.{flat_map}
use Rattle.worst_lines.specs.LineTexts.{line_text}
use Rattle.worst_lines.specs.declared.shown.Line.{Line}
use Rattle.worst_lines.proofs.TextLines.{lines-more}
use Rattle.worst_lines.proofs.texts.push_lines.Goals as goal

pub loop-line-init : goal.loop-line-init
loop-line-init c = sym (append-nil (string_bytes c.args.text.now))

pub loop-line-preserved : goal.loop-line-preserved
loop-line-preserved c =
    lines-more line_text (string_bytes c.args.text.now) (string_bytes c.loop-line.text) (string_bytes c.push_line.new.text) c.args.lines.now c.loop-line.line-index c.line-item.result c.loop-line-test.true c.line-item.is
    c.in_ok-push_line.ensures c.loop-line.invariant

pub returns : goal.returns
returns c =
    c.loop-line.invariant
    ∙ ap (λ (lines : List Line). string_bytes c.args.text.now ++ flat_map line_text lines) (take_all c.loop-line.line-index c.args.lines.now c.loop-line-test.false)
