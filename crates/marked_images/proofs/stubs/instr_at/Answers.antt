use Rattle.std.proofs.Common.{sym, ap, ◌∙◌}
use Rattle.std.specs.Prelude.{is_some}
use Rattle.flow_graph.proofs.Laws.{instr_stored}
use Rattle.marked_images.proofs.SiteLists.{decoded}
use Rattle.marked_images.proofs.stubs.instr_at.Goals as goal

pub returns-clause-some : goal.returns-clause-some
returns-clause-some c = decoded c.args.view.now c.args.at c.in_ok-word.word c.decode.result c.requires (sym c.word_at.ensures.value ∙ c.in_ok-word.was) (sym c.word_at.ensures.present ∙ ap is_some c.in_ok-word.was) c.decode.ensures.read c.decode.ensures.found

pub returns-clause-none : goal.returns-clause-none
returns-clause-none c = λ none here. instr_stored c.args.view.now c.args.at c.in_ok-word.word c.decode.result c.requires (sym c.word_at.ensures.value ∙ c.in_ok-word.was) c.decode.ensures.read ∙ none
