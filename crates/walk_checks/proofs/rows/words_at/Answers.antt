use Rattle.std.proofs.Common.{◌∙◌, ap, List}
use Rattle.walk_checks.specs.declared.tables.WordTrace.{WordTrace}
use Rattle.walk_checks.specs.Walked.{word_in}
use Rattle.walk_checks.proofs.Seen.{word_seen}
use Rattle.walk_checks.proofs.rows.words_at.Goals as goal

pub returns : goal.returns
returns c number = ap (λ (row : List WordTrace). word_in row number) c.words_of_node.ensures ∙ word_seen c.args.case.now c.requires.case c.args.k number c.requires.node
