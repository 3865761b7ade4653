use Rattle.std.proofs.Common.{take}
use Rattle.std.specs.List.{filter_map}
use Rattle.scale_base.specs.Image.{text_of_segment}
use Rattle.elf_image.specs.Ascending.{AscendFrom}
use Rattle.elf_view.specs.Beside.{ranges_by}
use Rattle.elf_view.proofs.TextLemmas.{IsTextOf}
use Rattle.elf_view.proofs.text.segment_ends.Given as goal

abbrev pub invariant-loop-header : goal.invariant-loop-header
invariant-loop-header l = record {
  parts : IsTextOf l.bytes l.segments (filter_map text_of_segment (take l.header-index l.segments)) (ranges_by l.text.ends) l.text.bytes;
  ascending : AscendFrom 0 (ranges_by l.text.ends);
}
