use Rattle.std.proofs.Common.{sym, ◌∙◌}
use Rattle.code_text.proofs.StoredWords.{instruction_stored}
use Rattle.code_text.proofs.instructions.instr_at.Goals as goal

pub returns-in-Some-clause-text : goal.returns-in-Some-clause-text
returns-in-Some-clause-text c is = c.decode.ensures.read ∙ sym (instruction_stored c.args.view.now.file c.args.view.now c.args.at c.in-Some.word c.requires (sym c.in-Some.ensures.value))
