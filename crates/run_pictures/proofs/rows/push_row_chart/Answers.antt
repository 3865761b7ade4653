use Rattle.std.proofs.Common.{ℕ, ◌+◌, ◌++◌, ◌∙◌, List, ap, string_bytes}
use Rattle.run_stretches.specs.declared.bars.BarEnd.{BarEnd}
use Rattle.run_pictures.specs.Places.{row_base, row_top}
use Rattle.run_pictures.specs.PictureTexts.{band_text, bars_text, frame_text, row_chart}
use Rattle.run_pictures.proofs.TextLoops.{on-ok-three}
use Rattle.run_pictures.proofs.rows.push_row_chart.Goals as goal

pub returns : goal.returns
unfolding row_chart
returns c =
    let axis = c.args.axis.now in
    let levels = c.args.levels.now in
    let base = row_base c.args.k in
    on-ok-three c.push_frame.result (string_bytes c.push_frame.new.text) (string_bytes c.push_bars.new.text) (string_bytes c.push_band.new.text) (string_bytes c.args.text.now)
    (band_text axis (row_top c.args.k + 190)) (bars_text axis levels base c.args.run.now.bars.items) (frame_text axis base c.args.run.now.report)
    (c.in_ok-push_band.ensures ∙ ap (λ (y : ℕ). string_bytes c.args.text.now ++ band_text axis (y + 190)) c.row_top.ensures)
    (c.in_ok-push_bars.ensures ∙ ap (λ (y : ℕ). string_bytes c.push_band.new.text ++ bars_text axis levels y c.deref.result.now) c.row_base.ensures
    ∙ ap (λ (ends : List BarEnd). string_bytes c.push_band.new.text ++ bars_text axis levels base ends) c.deref.ensures.value) c.push_frame.ensures
