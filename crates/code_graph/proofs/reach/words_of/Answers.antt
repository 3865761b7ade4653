use Rattle.std.proofs.Common.{◌≡◌, sym, subst}
use Rattle.code_text.specs.Text.{text_of, kind_at}
use Rattle.code_text.specs.Table.{word_table}
use Rattle.code_text.proofs.Laws.{addresses_rise}
use Rattle.code_graph.specs.Steps.{IsWordTableOf}
use Rattle.code_graph.proofs.Tables.{text_table, if_ok-map}
use Rattle.code_graph.proofs.reach.words_of.Goals as goal

pub returns-clause-table : goal.returns-clause-table
returns-clause-table c =
    let image = c.args.view.now in
    if_ok-map c.read_words.result (λ words. words ≡ word_table (text_of image)) (λ words. IsWordTableOf (kind_at (text_of image)) words)
    (λ words e. subst (λ w. IsWordTableOf (kind_at (text_of image)) w) (sym e) (text_table image.file image c.text-ranges.ensures.image (addresses_rise image.text c.text-ranges.ensures.ascending))) c.read_words.ensures
