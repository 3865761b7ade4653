use Rattle.foreign_scan.proofs.KeyLaws.{are_key_words}
use Rattle.foreign_scan.proofs.key.read_key.Goals as goal

pub invariant_of-result : goal.invariant_of-result
invariant_of-result c =
    are_key_words c.args.view.now _ c.word_numbers-first.result.0 c.word_numbers-first.result.1 c.in_ok-words.words.items c.in_ok-memory.ensures.bytes c.word_numbers-first.ensures.first c.word_numbers-first.ensures.end c.in_ok-words.ensures
