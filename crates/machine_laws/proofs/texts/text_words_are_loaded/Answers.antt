use Rattle.machine_laws.proofs.TextWords.{word_loaded, word_fetched}
use Rattle.machine_laws.proofs.texts.text_words_are_loaded.Goals as goal

pub returns-clause-loaded : goal.returns-clause-loaded
returns-clause-loaded c = word_loaded

pub returns-clause-fetched : goal.returns-clause-fetched
returns-clause-fetched c = word_fetched
