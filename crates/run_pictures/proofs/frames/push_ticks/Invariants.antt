use Rattle.std.proofs.Common.{◌≡◌, ◌++◌, string_bytes}
use Rattle.std.specs.List.{flat_map, range_with_len}
use Rattle.run_pictures.specs.PictureTexts.{tick_text}
use Rattle.run_pictures.proofs.frames.push_ticks.Given as goal

abbrev pub invariant-loop-j : goal.invariant-loop-j
invariant-loop-j l = string_bytes l.text ≡ string_bytes l.initial.text ++ flat_map (tick_text l.axis l.y) (range_with_len 0 l.j)
