use Rattle.std.proofs.Common.{◌∙◌}
use Rattle.walk_checks.proofs.rows.word_at.Goals as goal

pub returns : goal.returns
returns c = c.word_of.ensures ∙ c.words_at.ensures c.args.number
