use Rattle.std.proofs.Common.{◌<◌, length, arith}
use Rattle.elf_image.proofs.Stored.{length-segments, segment_at}
use Rattle.elf_image.proofs.view.ImageView.segment.Goals as goal

pub index-requires : goal.index-requires
index-requires c =
    let below = rw (← c.self.view_is) at c.requires in
    omega (arith, below, c.self.inside.segments.ok.0, length-segments c.self.inside.bytes.now c.self.inside.segments.items c.self.invariant.segments_are)

pub segment_of-requires : goal.segment_of-requires
segment_of-requires c =
    let below = rw (← c.self.view_is) at c.requires in
    let lt : c.args.k < length c.self.inside.segments.items = omega (arith, below, length-segments c.self.inside.bytes.now c.self.inside.segments.items c.self.invariant.segments_are) in
    rw c.index.ensures (c.self.invariant.in_file c.args.k c.index.result.now lt)

pub returns : goal.returns
returns c =
    let below = rw (← c.self.view_is) at c.requires in
    let lt : c.args.k < length c.self.inside.segments.items = omega (arith, below, length-segments c.self.inside.bytes.now c.self.inside.segments.items c.self.invariant.segments_are) in
    rw (← c.self.view_is, c.segment_of.ensures) (segment_at c.self.inside.bytes.now c.self.inside.segments.items c.args.k c.index.result.now c.self.invariant.segments_are lt c.index.ensures)
