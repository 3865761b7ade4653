use Rattle.flat_memory.specs.Lists.{list_bytes}
use Rattle.image_check.specs.LastRows.{words_from, AreLastBefore}
use Rattle.image_check.proofs.last_rows.LastPlaces.with_words.Given as goal

abbrev pub invariant-loop-number : goal.invariant-loop-number
invariant-loop-number l = AreLastBefore (words_from (list_bytes l.memory) l.first) l.number l.places
