use Rattle.std.proofs.Common.{◌≡◌, ◌++◌, string_bytes}
use Rattle.std.specs.List.{flat_map, range_with_len}
use Rattle.run_pictures.specs.PictureTexts.{level_text}
use Rattle.run_pictures.proofs.frames.push_levels.Given as goal

abbrev pub invariant-loop-i : goal.invariant-loop-i
invariant-loop-i l = string_bytes l.text ≡ string_bytes l.initial.text ++ flat_map (level_text l.levels l.y) (range_with_len 0 l.i)
