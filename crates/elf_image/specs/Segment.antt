-- Scaffold: a segment of a view as the image has it.
use Rattle.scale_base.specs.Image.{LoadSegment}
use Rattle.elf_image.specs.declared.view.Segment.{Segment}

abbrev pub segment_value : Segment → LoadSegment
segment_value s = record { from = s.from; len = s.len; flags = s.flags; file_at = s.file_at; file = s.file.now }
