use Rattle.std.proofs.Common.{ap, ◌∙◌, sym}
use Rattle.std.specs.Prelude.{is_some}
use Rattle.code_text.specs.Text.{text_of}
use Rattle.code_graph.proofs.Causes.{cause_misaligned, cause_none_stored, cause_stored, bad_stored}
use Rattle.code_graph.proofs.refusals.refusal_at.Goals as goal

pub returns-then-at-ne0 : goal.returns-then-at-ne0
returns-then-at-ne0 c = cause_misaligned (text_of c.args.view.now) c.args.at c.if-at-ne0.true

pub instr_refusal-requires : goal.instr_refusal-requires
instr_refusal-requires c = bad_stored c.args.view.now c.args.at c.in-Some.word c.decode.result c.requires.image (sym c.word_at.ensures.value ∙ c.in-Some.is) c.decode.ensures.read c.requires.bad

pub returns-in-Some : goal.returns-in-Some
returns-in-Some c = cause_stored c.args.view.now c.args.at c.in-Some.word c.decode.result c.requires.image (sym c.word_at.ensures.value ∙ c.in-Some.is) c.decode.ensures.read ∙ c.instr_refusal.ensures

pub returns-in-None : goal.returns-in-None
returns-in-None c = cause_none_stored c.args.view.now c.args.at c.if-at-ne0.false (sym c.word_at.ensures.present ∙ ap is_some c.in-None.is)
