use Rattle.std.proofs.Common.{◌<◌, length, arith, rules}
use Rattle.std.proofs.Output.{has_written_append, has_written_of_eq}
use Rattle.scale_report.proofs.Spaced.{spaced_words-more}
use Rattle.scale_report.proofs.words.SpacedWordsDisplay.fmt.Goals as goal

pub loop-row-preserved : goal.loop-row-preserved
loop-row-preserved g c = λ plain.
    let there : c.loop-row.row < length c.args.self.now.0.now = omega arith in
    has_written_of_eq _ _ _ _ _ (spaced_words-more _ c.loop-row.row c.get.result there c.get.ensures) (has_written_append _ _ _ _ _ _ (c.loop-row.invariant plain) (search rules))
