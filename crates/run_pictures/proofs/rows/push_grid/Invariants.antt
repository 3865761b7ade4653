use Rattle.std.proofs.Common.{◌≡◌, ◌++◌, string_bytes}
use Rattle.std.specs.List.{flat_map, range_with_len}
use Rattle.run_pictures.specs.PictureTexts.{grid_line, tick_place}
use Rattle.run_pictures.proofs.rows.push_grid.Given as goal

abbrev pub invariant-loop-j : goal.invariant-loop-j
invariant-loop-j l = string_bytes l.text ≡ string_bytes l.initial.text ++ flat_map (λ i. grid_line (tick_place l.axis i) l.y) (range_with_len 0 l.j)
