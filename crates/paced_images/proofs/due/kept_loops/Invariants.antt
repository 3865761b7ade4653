use Rattle.std.proofs.Common.{take}
use Rattle.paced_images.specs.Useful.{AreLoopsKeptBy}
use Rattle.paced_images.proofs.due.kept_loops.Given as goal

abbrev pub invariant-loop-header : goal.invariant-loop-header
invariant-loop-header l = AreLoopsKeptBy l.power l.marked (take l.header-index l.tallied) l.kept.items
