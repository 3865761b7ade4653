use Rattle.std.proofs.Common.{length, Some, None, refl, subst}
use Rattle.code_text.specs.Text.{text_of}
use Rattle.code_graph.specs.Finding.{reach_of, IsFirstBelow, IsRefusedWord}
use Rattle.code_graph.proofs.Reaching.{least_with, least_without}
use Rattle.code_graph.proofs.refusals.least_refused.Goals as goal

pub returns-in-Some : goal.returns-in-Some
returns-in-Some c =
    let r = reach_of c.args.reach.now in
    let first : IsFirstBelow (length c.args.reach.now.words.addresses) (IsRefusedWord (reach_of c.args.reach.now)) (Some c.in-Some.k) =
    subst (IsFirstBelow (length c.args.reach.now.words.addresses) (IsRefusedWord (reach_of c.args.reach.now))) c.in-Some.is c.first_refused.ensures in
    least_with (text_of c.args.view.now) r c.requires.reach c.requires.table c.in-Some.k c.address.result c.lesser.result first c.address.ensures c.lesser.ensures

pub returns-in-None : goal.returns-in-None
returns-in-None c =
    let first : IsFirstBelow (length c.args.reach.now.words.addresses) (IsRefusedWord (reach_of c.args.reach.now)) None =
    subst (IsFirstBelow (length c.args.reach.now.words.addresses) (IsRefusedWord (reach_of c.args.reach.now))) c.in-None.is c.first_refused.ensures in
    least_without (text_of c.args.view.now) (reach_of c.args.reach.now) c.requires.reach c.requires.table c.args.reach.now.outside refl first
