use Rattle.std.proofs.Common.{refl}
use Rattle.stack_checks.specs.Checked.{IsLineBehind}
use Rattle.stack_checks.proofs.Loops.{line_so_far}
use Rattle.stack_checks.proofs.lines.are_behind.Goals as goal

pub loop-known-preserved : goal.loop-known-preserved
loop-known-preserved c = line_so_far (IsLineBehind c.args.way.now c.args.h) c.args.row.now c.loop-known.known-index c.known-item.result c.loop-known-test.true c.known-item.is (c.if-not-is_line_behind.ensures refl) c.loop-known.invariant
