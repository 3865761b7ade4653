use Rattle.std.proofs.Common.{◌∙◌}
use Rattle.stack_tables.specs.Tables.{address}
use Rattle.stack_tables.proofs.Seen.{word_seen, word_name_seen, word_span_seen, words_seen}
use Rattle.stack_tables.proofs.reading.word.Goals as goal

pub returns-clause-arc : goal.returns-clause-arc
returns-clause-arc c = c.word_in.ensures.arc ∙ word_seen c.args.claim.now (address c.args.claim.now c.args.k) c.args.number c.words_row.result.now (c.words_row.ensures.row ∙ words_seen c.args.claim.now c.requires.claim c.args.k c.requires.node)

pub returns-clause-name : goal.returns-clause-name
returns-clause-name c = c.word_in.ensures.name ∙ word_name_seen c.args.claim.now (address c.args.claim.now c.args.k) c.args.number c.words_row.result.now (c.words_row.ensures.row ∙ words_seen c.args.claim.now c.requires.claim c.args.k c.requires.node)

pub returns-clause-span : goal.returns-clause-span
returns-clause-span c = c.word_in.ensures.span ∙ word_span_seen c.args.claim.now (address c.args.claim.now c.args.k) c.args.number c.words_row.result.now (c.words_row.ensures.row ∙ words_seen c.args.claim.now c.requires.claim c.args.k c.requires.node)
