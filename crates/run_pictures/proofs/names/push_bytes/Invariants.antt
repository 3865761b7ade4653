use Rattle.std.proofs.Common.{◌≡◌, ◌++◌, take, string_bytes}
use Rattle.std.specs.List.{flat_map}
use Rattle.run_pictures.specs.PictureTexts.{escaped_byte}
use Rattle.run_pictures.proofs.names.push_bytes.Given as goal

abbrev pub invariant-loop-b : goal.invariant-loop-b
invariant-loop-b l = string_bytes l.text ≡ string_bytes l.initial.text ++ flat_map escaped_byte (take l.b-index l.bytes)
