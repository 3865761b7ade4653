use Rattle.std.proofs.Common.{sym, ap, ◌∙◌}
use Rattle.code_text.specs.Text.{text_of, word_kind}
use Rattle.code_text.proofs.StoredWords.{kind_stored}
use Rattle.code_text.proofs.words.kind_at.Goals as goal

pub returns-in-Some : goal.returns-in-Some
returns-in-Some c =
    let image = c.args.view.now in
    c.instr_kind.ensures (text_of image) c.known_for.ensures ∙ ap (word_kind (text_of image) c.args.at) c.in-Some.ensures.read ∙ sym (kind_stored image.file image c.args.at c.requires.range.read)

pub returns-in-None : goal.returns-in-None
returns-in-None c =
    let image = c.args.view.now in
    ap (word_kind (text_of image) c.args.at) c.in-None.ensures.read ∙ sym (kind_stored image.file image c.args.at c.requires.range.read)
