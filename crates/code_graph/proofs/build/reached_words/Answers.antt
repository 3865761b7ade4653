use Rattle.std.proofs.Common.{◌≤◌, length, sym, subst}
use Rattle.code_text.specs.Text.{text_of, kind_at}
use Rattle.code_text.proofs.Laws.{addresses_rise}
use Rattle.code_graph.specs.Reach.{IsReachOf}
use Rattle.code_graph.specs.Steps.{IsWordTableOf}
use Rattle.code_graph.proofs.Tables.{text_table, if_ok-map}
use Rattle.code_graph.specs.Finding.{IsReachIn, reach_of}
use Rattle.code_graph.proofs.FewWords.{few_words}
use Rattle.code_graph.proofs.build.reached_words.Goals as goal

pub returns-clause-reach : goal.returns-clause-reach
returns-clause-reach c =
    let image = c.args.view.now in
    if_ok-map c.reach_text.result (λ r. IsReachOf (text_of image) (reach_of r)) (λ r. IsReachIn (text_of image) (reach_of r))
    (λ r is. record {
      reach = is;
      table = subst (λ w. IsWordTableOf (kind_at (text_of image)) w) (sym is.words) (text_table image.file image c.text-ranges.ensures.image (addresses_rise image.text c.text-ranges.ensures.ascending));
    })
    c.reach_text.ensures

pub returns-clause-few : goal.returns-clause-few
returns-clause-few c =
    let image = c.args.view.now in
    if_ok-map c.reach_text.result (λ r. IsReachOf (text_of image) (reach_of r)) (λ r. length r.words.addresses ≤ 131072)
    (λ r is. subst (λ w. length w.addresses ≤ 131072) (sym is.words) (few_words image.file image c.text-ranges.ensures.image))
    c.reach_text.ensures
