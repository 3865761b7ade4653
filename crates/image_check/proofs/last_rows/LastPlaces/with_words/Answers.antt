use Rattle.flat_memory.specs.Lists.{list_bytes}
use Rattle.image_check.specs.LastRows.{words_from}
use Rattle.image_check.proofs.LastLaws.{one_more}
use Rattle.image_check.proofs.last_rows.LastPlaces.with_words.Goals as goal

pub loop-number-preserved : goal.loop-number-preserved
loop-number-preserved c =
    one_more (words_from (list_bytes c.args.memory.now) c.args.first) c.word.result c.loop-number.number c.loop-number.places c.add.new.self c.word.ensures c.loop-number.invariant c.add.ensures
