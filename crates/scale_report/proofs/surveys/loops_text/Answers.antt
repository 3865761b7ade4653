use Rattle.std.proofs.Common.{List, ℕ, ◌+◌, ◌++◌, get_or, ap, ◌∙◌}
use Rattle.scale_report.specs.Texts.{most_line}
use Rattle.scale_report.proofs.Numbered.{no-loops, loops-more}
use Rattle.scale_report.proofs.surveys.loops_text.Goals as goal

pub loop-index-init : goal.loop-index-init
loop-index-init c = c.new-text.ensures.bytes ∙ no-loops

pub loop-index-preserved : goal.loop-index-preserved
loop-index-preserved c =
    c.in_ok-push_most.ensures
    ∙ ap (λ (text : List ℕ). text ++ most_line (c.loop-index.index + 1) (get_or c.args.most.now c.loop-index.index 0)) c.loop-index.invariant
    ∙ loops-more c.args.most.now c.loop-index.index c.loop-index-test.true
