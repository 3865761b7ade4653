use Rattle.std.proofs.Common.{◌≡◌, take}
use Rattle.std.specs.List.{fold}
use Rattle.run_stretches.specs.Recorded.{put}
use Rattle.run_stretches.proofs.recording.BarRoom.put_all.Given as goal

abbrev pub invariant-loop-k : goal.invariant-loop-k
invariant-loop-k l = l.self ≡ fold put l.initial.self (take l.k l.ends)
