use Rattle.std.proofs.Common.{◌∙◌}
use Rattle.stack_tables.specs.Tables.{address}
use Rattle.stack_tables.proofs.Seen.{unknown, words_seen}
use Rattle.stack_tables.proofs.reading.word_count.Goals as goal

pub returns-clause-none : goal.returns-clause-none
returns-clause-none c j past = unknown c.args.claim.now (address c.args.claim.now c.args.k) j c.words_row.result.now (c.words_row.ensures.row ∙ words_seen c.args.claim.now c.requires.claim c.args.k c.requires.node) past
