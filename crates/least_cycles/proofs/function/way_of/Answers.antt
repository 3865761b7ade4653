use Rattle.least_cycles.proofs.FunctionLaws.{way_to}
use Rattle.least_cycles.proofs.function.way_of.Goals as goal

pub returns-in-Some : goal.returns-in-Some
returns-in-Some c = way_to c.args.runs.now c.args.e c.in-Some.k c.requires.runs c.requires.edge c.requires.from c.if-runs-e.false c.if-not-runs-e.false (c.target.ensures.some c.in-Some.k c.in-Some.is) (c.target.ensures.within c.in-Some.k c.in-Some.is)
