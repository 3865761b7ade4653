use Rattle.std.proofs.Common.{inr}
use Rattle.lower_bounds.proofs.Cases.{start_in}
use Rattle.lower_bounds.proofs.edges.is_start_so.Goals as goal

pub returns : goal.returns
returns c so = inr (start_in c.args.case.now c.args.step c.of.result c.from.result c.from.ensures c.of.ensures (c.is_counted_in.ensures so))
