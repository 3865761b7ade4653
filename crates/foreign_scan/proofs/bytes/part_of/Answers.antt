use Rattle.std.proofs.Common.{◌+◌, ◌≤◌, length, arith}
use Rattle.elf_image.specs.Segment.{segment_value}
use Rattle.foreign_scan.proofs.LoadedLaws.{part_fits}
use Rattle.foreign_scan.proofs.bytes.part_of.Goals as goal

pub overflow_cast-result : goal.overflow_cast-result
overflow_cast-result c =
    let h : c.segment-segment.result.from + length c.segment-segment.result.file.now ≤ 0xFFFFF800 = part_fits c.args.view.now.file c.args.view.now c.args.k (segment_value c.segment-segment.result) c.file-file.ensures.image c.segment-segment.ensures in
    omega (arith, h)

pub overflow_add-result : goal.overflow_add-result
overflow_add-result c =
    let h : c.segment-segment.result.from + length c.segment-segment.result.file.now ≤ 0xFFFFF800 = part_fits c.args.view.now.file c.args.view.now c.args.k (segment_value c.segment-segment.result) c.file-file.ensures.image c.segment-segment.ensures in
    omega (arith, h)
