use Rattle.std.proofs.Common.{◌≡◌, drop}
use Rattle.std.specs.List.{find}
use Rattle.scale_base.specs.Image.{has_key}
use Rattle.elf_view.proofs.segments.keyed_of.Given as goal

abbrev pub invariant-loop-header : goal.invariant-loop-header
invariant-loop-header l = find has_key (drop l.header-index l.segments) ≡ find has_key l.segments
