use Rattle.std.proofs.Common.{ℕ, ◌++◌, ◌∙◌, ap, string_bytes}
use Rattle.run_pictures.specs.PictureTexts.{grid_line, tick_place}
use Rattle.run_pictures.proofs.TextLoops.{range-none, range-more}
use Rattle.run_pictures.proofs.rows.push_grid.Goals as goal

pub loop-j-init : goal.loop-j-init
loop-j-init c = range-none (λ i. grid_line (tick_place c.args.axis.now i) c.args.y) (string_bytes c.args.text.now)

pub loop-j-preserved : goal.loop-j-preserved
loop-j-preserved c = range-more (λ i. grid_line (tick_place c.args.axis.now i) c.args.y) c.loop-j.j _ (string_bytes c.loop-j.text) (string_bytes c.push_grid_line.new.text) (c.in_ok-push_grid_line.ensures ∙ ap (λ x. string_bytes c.loop-j.text ++ grid_line x c.args.y) c.tick_place.ensures) c.loop-j.invariant
