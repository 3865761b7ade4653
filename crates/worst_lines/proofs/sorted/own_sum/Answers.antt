use Rattle.std.proofs.Common.{◌≡◌, ℕ, ◌+◌, List, take, take_all, ap, ◌∙◌, arith}
use Rattle.std.specs.List.{sum_by}
use Rattle.worst_lines.specs.declared.shown.Line.{Line}
use Rattle.worst_lines.proofs.SortLaws.{sum_more}
use Rattle.worst_lines.proofs.sorted.own_sum.Goals as goal

pub loop-line-preserved : goal.loop-line-preserved
loop-line-preserved c =
    let i : ℕ = c.loop-line.line-index in
    let step : sum_by (λ (line : Line). line.own) (take (i + 1) c.args.lines.now) ≡ sum_by (λ (line : Line). line.own) (take i c.args.lines.now) + c.line-item.result.own =
    sum_more c.args.lines.now i c.line-item.result c.loop-line-test.true c.line-item.is in
    omega (arith, step, c.loop-line.invariant, c.in-Some.ensures)
