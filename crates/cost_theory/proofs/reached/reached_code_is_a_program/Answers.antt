use Rattle.std.proofs.Common.{sym, ◌∙◌}
use Rattle.cost_theory.proofs.Nesting.{some_same}
use Rattle.cost_theory.proofs.Programs.{is_program}
use Rattle.cost_theory.proofs.reached.reached_code_is_a_program.Goals as goal

pub returns-clause-program : goal.returns-clause-program
returns-clause-program c = λ word first code is fine no_recursion. is_program word first code is fine no_recursion

pub returns-clause-not_shared : goal.returns-clause-not_shared
returns-clause-not_shared c = λ word first code is f h v in_f in_h. some_same f h (sym (is.owner f v in_f) ∙ is.owner h v in_h)
