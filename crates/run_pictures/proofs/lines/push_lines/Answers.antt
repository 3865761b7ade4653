use Rattle.std.proofs.Common.{ℕ, ◌≡◌, ◌+◌, string_bytes, arith}
use Rattle.run_pictures.specs.PictureTexts.{run_line}
use Rattle.run_pictures.proofs.TextLoops.{lines-none, lines-more, lines-all}
use Rattle.run_pictures.proofs.lines.push_lines.Goals as goal

pub loop-index-init : goal.loop-index-init
loop-index-init c = lines-none run_line 1 (string_bytes c.args.text.now)

pub loop-index-preserved : goal.loop-index-preserved
loop-index-preserved c =
    lines-more run_line 1 c.loop-index.index (c.loop-index.index + 1) c.args.runs.now c.index-runs-index.result _ (string_bytes c.loop-index.text) (string_bytes c.push_line.new.text) c.loop-index-test.true c.index-runs-index.is
    (let e : (c.loop-index.index + 1) ≡ 1 + c.loop-index.index = omega arith in e) c.in_ok-push_line.ensures c.loop-index.invariant

pub returns : goal.returns
returns c = lines-all run_line 1 c.loop-index.index c.args.runs.now _ (string_bytes c.loop-index.text) c.loop-index-test.false c.loop-index.invariant
