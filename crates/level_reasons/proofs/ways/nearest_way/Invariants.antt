use Rattle.std.proofs.Common.{◌<◌, ◌^◌, IfSome}
use Rattle.level_reasons.specs.Kept.{HoldsNumbers}
use Rattle.level_reasons.specs.Reasons.{ProgramNumbers}
use Rattle.level_reasons.specs.Ways.{IsWayAmong, IsNearestKept}
use Rattle.level_reasons.proofs.ways.nearest_way.Given as goal

abbrev pub invariant-loop-i : goal.invariant-loop-i
invariant-loop-i l = record {
  small : IfSome l.nearest (λ way. way.lack < 2 ^ 98);
  kept : (n : ProgramNumbers) → HoldsNumbers l.program n → IsNearestKept l.program.power.now l.program.start n.told (IsWayAmong l.program.graph.now l.program.tree.now l.l l.i) l.nearest;
}
