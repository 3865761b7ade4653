use Rattle.code_text.proofs.StoredWords.{kind_stored, instruction_stored}
use Rattle.code_text.proofs.words_are_stored.Goals as goal

pub returns-clause-kind : goal.returns-clause-kind
returns-clause-kind c = kind_stored

pub returns-clause-instruction : goal.returns-clause-instruction
returns-clause-instruction c = instruction_stored
