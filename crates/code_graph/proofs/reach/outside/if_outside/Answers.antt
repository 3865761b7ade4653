use Rattle.code_graph.proofs.OutsideLaws.{inside_least}
use Rattle.code_graph.proofs.reach.outside.if_outside.Goals as goal

pub returns-in-Some : goal.returns-in-Some
returns-in-Some c = inside_least c.args.words.now c.args.at c.in-Some.field-0 ((c.find.ensures c.in-Some.field-0).0 c.in-Some.is)
