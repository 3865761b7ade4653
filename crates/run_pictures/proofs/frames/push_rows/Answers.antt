use Rattle.std.proofs.Common.{ℕ, ◌≡◌, ◌+◌, string_bytes, arith}
use Rattle.run_pictures.specs.PictureTexts.{row_text}
use Rattle.run_pictures.proofs.TextLoops.{lines-none, lines-more, lines-all}
use Rattle.run_pictures.proofs.frames.push_rows.Goals as goal

pub loop-index-init : goal.loop-index-init
loop-index-init c = lines-none (row_text c.args.axis.now c.args.levels.now) 0 (string_bytes c.args.text.now)

pub loop-index-preserved : goal.loop-index-preserved
loop-index-preserved c =
    lines-more (row_text c.args.axis.now c.args.levels.now) 0 c.loop-index.index c.loop-index.index c.args.runs.now c.index-runs-index.result _ (string_bytes c.loop-index.text) (string_bytes c.push_row.new.text) c.loop-index-test.true c.index-runs-index.is
    (let e : c.loop-index.index ≡ 0 + c.loop-index.index = omega arith in e) c.in_ok-push_row.ensures c.loop-index.invariant

pub returns : goal.returns
returns c = lines-all (row_text c.args.axis.now c.args.levels.now) 0 c.loop-index.index c.args.runs.now _ (string_bytes c.loop-index.text) c.loop-index-test.false c.loop-index.invariant
