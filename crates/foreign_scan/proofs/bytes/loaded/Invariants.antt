use Rattle.std.proofs.Common.{◌≡◌, drop}
use Rattle.std.specs.List.{find}
use Rattle.scale_base.specs.Image.{covers}
use Rattle.foreign_scan.proofs.bytes.loaded.Given as goal

abbrev pub invariant-loop-k : goal.invariant-loop-k
invariant-loop-k l = find (covers l.at) (drop l.k l.view.segments) ≡ find (covers l.at) l.view.segments
