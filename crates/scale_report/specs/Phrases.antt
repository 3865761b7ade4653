-- Scaffold: what the phrases of refusals say: words, and what they name.
use Rattle.std.specs.Prelude.{codes, ℕ, List, ◌++◌}
use Rattle.std.specs.Fmt.{decimal}
use Rattle.scale_report.specs.declared.refusals.Phrase.{Phrase}
use Rattle.scale_report.specs.declared.refusals.Phrase.TheVariants as phrase
use Rattle.scale_report.specs.Texts.{address, field_name, side_entry, spaced}

abbrev pub phrase_text : Phrase → List ℕ
phrase_text (phrase.Words words) = words.now
phrase_text (phrase.Number words n) = words.now ++ decimal n
phrase_text (phrase.At words a) = words.now ++ address a
phrase_text (phrase.Field words f) = words.now ++ field_name f
phrase_text (phrase.Name words name) = words.now ++ name.now
phrase_text (phrase.Cycle words cycle) = words.now ++ spaced cycle.now
phrase_text (phrase.NumberWords words k more) = words.now ++ decimal k ++ more.now
phrase_text (phrase.NumberName words k more name) = words.now ++ decimal k ++ more.now ++ name.now
phrase_text (phrase.NumberAt words k more a) = words.now ++ decimal k ++ more.now ++ address a
phrase_text (phrase.Numbers words j more k last) = words.now ++ decimal j ++ more.now ++ decimal k ++ last.now
phrase_text (phrase.Level level levels) = codes "9 start level " ++ decimal level ++ codes " of " ++ decimal levels
phrase_text (phrase.Deadline need have) = codes "41 deadline missed: need " ++ decimal need ++ codes " have " ++ decimal have
phrase_text (phrase.SideEntry k a b) = side_entry k a b
