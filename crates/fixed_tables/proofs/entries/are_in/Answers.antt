use Rattle.std.proofs.Common.{below_more}
use Rattle.fixed_tables.proofs.entries.are_in.Goals as goal

pub loop-number-preserved : goal.loop-number-preserved
loop-number-preserved c = below_more _ _ c.loop-number.invariant (c.is_in.ensures c.if-not-is_in.false)
