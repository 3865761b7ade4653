use Rattle.std.proofs.Common.{◌<◌, ◌^◌, IfSome}
use Rattle.level_reasons.specs.Kept.{HoldsNumbers}
use Rattle.level_reasons.specs.Reasons.{ProgramNumbers}
use Rattle.level_reasons.specs.Ways.{IsWayAmong, IsWaySoFar, IsNearestKept}
use Rattle.level_reasons.proofs.ways.nearest_at.Given as goal

abbrev pub invariant-loop-e : goal.invariant-loop-e
invariant-loop-e l = record {
  small : IfSome l.nearest (λ way. way.lack < 2 ^ 98);
  kept : (n : ProgramNumbers) → HoldsNumbers l.program n → IsNearestKept l.program.power.now l.program.start n.told (IsWayAmong l.program.graph.now l.program.tree.now l.l l.i) l.initial.nearest
      → IsNearestKept l.program.power.now l.program.start n.told (IsWaySoFar l.program.graph.now l.program.tree.now l.l l.i l.first l.e) l.nearest;
}
