use Rattle.std.proofs.Common.{◌≡◌, drop}
use Rattle.std.specs.List.{find}
use Rattle.scale_base.specs.Image.{header_has_word}
use Rattle.elf_image.proofs.view.place_in.Given as goal

abbrev pub invariant-loop-header : goal.invariant-loop-header
invariant-loop-header l = find (header_has_word l.at) (drop l.header-index l.segments) ≡ find (header_has_word l.at) l.segments
