use Rattle.std.proofs.Common.{List, ℕ, ◌+◌, ◌++◌, ap, ◌∙◌}
use Rattle.power_model.specs.Survey.{line_view}
use Rattle.scale_report.specs.Texts.{input_line}
use Rattle.scale_report.proofs.Numbered.{no-inputs, inputs-more}
use Rattle.scale_report.proofs.surveys.inputs_text.Goals as goal

pub loop-index-init : goal.loop-index-init
loop-index-init c = c.new-text.ensures.bytes ∙ no-inputs

pub loop-index-preserved : goal.loop-index-preserved
loop-index-preserved c =
    c.in_ok-push_input.ensures
    ∙ ap (λ (text : List ℕ). text ++ input_line (c.loop-index.index + 1) (line_view c.index-lines-index.result)) c.loop-index.invariant
    ∙ inputs-more c.args.lines.now c.loop-index.index c.index-lines-index.result c.loop-index-test.true c.index-lines-index.is
