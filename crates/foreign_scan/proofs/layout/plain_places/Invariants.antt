use Rattle.std.proofs.Common.{◌≡◌, take, map}
use Rattle.std.specs.List.{filter}
use Rattle.scale_base.specs.Layout.{is_plain_segment}
use Rattle.foreign_scan.specs.Scanned.{segment_place}
use Rattle.foreign_scan.proofs.layout.plain_places.Given as goal

abbrev pub invariant-loop-k : goal.invariant-loop-k
invariant-loop-k l = l.places.items ≡ map segment_place (filter is_plain_segment (take l.k l.view.segments))
