use Rattle.std.proofs.Common.{◌≡◌, drop}
use Rattle.std.specs.List.{list_all}
use Rattle.run_pictures.specs.PictureTexts.{is_plain}
use Rattle.run_pictures.proofs.names.are_plain.Given as goal

abbrev pub invariant-loop-b : goal.invariant-loop-b
invariant-loop-b l = list_all is_plain (drop l.b-index l.bytes) ≡ list_all is_plain l.bytes
