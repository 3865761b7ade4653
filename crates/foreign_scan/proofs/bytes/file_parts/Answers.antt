use Rattle.std.proofs.Common.{◌<◌, length, arith}
use Rattle.foreign_scan.specs.Least.{file_range}
use Rattle.foreign_scan.proofs.ListLaws.{get_there, map_more}
use Rattle.foreign_scan.proofs.bytes.file_parts.Goals as goal

pub loop-k-preserved : goal.loop-k-preserved
loop-k-preserved c =
    let lt : c.loop-k.k < length c.args.view.now.segments = omega (arith, c.segment_count-k-end.ensures) in
    let s = get_there c.args.view.now.segments c.loop-k.k lt in
    map_more file_range c.args.view.now.segments c.loop-k.k s.0 c.part_of.result c.loop-k.parts.items c.push.new.self.items s.1 c.loop-k.invariant (c.part_of.ensures s.0 s.1) c.in_ok-push.ensures.items
