use Rattle.worst_lines.proofs.SortLaws.{next_before}
use Rattle.worst_lines.proofs.sorted.is_before_next.Goals as goal

pub returns : goal.returns
returns c = λ before. next_before c.args.lines.now c.args.i c.index-lines-i.result c.index-lines-next.result c.index-lines-i.is c.index-lines-next.is (c.is_before.ensures before)
