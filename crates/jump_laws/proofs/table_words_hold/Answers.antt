use Rattle.jump_laws.proofs.Runs.{image_words_hold, words_hold}
use Rattle.jump_laws.proofs.table_words_hold.Goals as goal

pub returns-clause-table : goal.returns-clause-table
returns-clause-table c = words_hold c.stack_values_hold.ensures.values

pub returns-clause-image : goal.returns-clause-image
returns-clause-image c = image_words_hold c.stack_values_hold.ensures.values
