use Rattle.elf_image.specs.Segment.{segment_value}
use Rattle.foreign_scan.proofs.LayoutLaws.{places_more}
use Rattle.foreign_scan.proofs.layout.plain_places.Goals as goal

pub loop-k-preserved : goal.loop-k-preserved
loop-k-preserved c =
    places_more c.args.view.now.segments c.loop-k.k (segment_value c.segment.result) c.loop-k.places.items c.add_if_plain.new.places.items c.segment.ensures c.loop-k.invariant c.in_ok-add_if_plain.ensures
