use Rattle.std.proofs.Common.{◌≡◌, false, take}
use Rattle.std.specs.Prelude.{map}
use Rattle.std.specs.List.{list_any}
use Rattle.scale_base.specs.Spans.{overlap}
use Rattle.scale_base.specs.Image.{addresses_of}
use Rattle.elf_patch.proofs.place.blocked_until.Given as goal

abbrev pub invariant-loop-k : goal.invariant-loop-k
invariant-loop-k l = list_any (overlap l.place) (map addresses_of (take l.k l.view.segments)) ≡ false
