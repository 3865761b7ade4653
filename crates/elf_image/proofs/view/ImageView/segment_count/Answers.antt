use Rattle.std.proofs.Common.{sym, ◌∙◌}
use Rattle.elf_image.proofs.Stored.{length-segments}
use Rattle.elf_image.proofs.view.ImageView.segment_count.Goals as goal

pub returns : goal.returns
returns c =
    rw (← c.self.view_is) (c.len.ensures ∙ c.self.inside.segments.ok.0 ∙ sym (length-segments c.self.inside.bytes.now c.self.inside.segments.items c.self.invariant.segments_are))
