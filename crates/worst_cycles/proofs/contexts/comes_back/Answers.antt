use Rattle.std.proofs.Common.{sym, ◌∙◌}
use Rattle.worst_cycles.proofs.ContextLaws.{returning_call}
use Rattle.worst_cycles.proofs.contexts.comes_back.Goals as goal

pub returns-in-Some-clause-some : goal.returns-in-Some-clause-some
returns-in-Some-clause-some c = λ f some. returning_call c.args.graph.now c.args.e f c.in-Some.field-0 c.requires.edge (sym c.callee.ensures ∙ some) (c.target.ensures.some c.in-Some.field-0 c.in-Some.is) (c.target.ensures.within c.in-Some.field-0 c.in-Some.is)
