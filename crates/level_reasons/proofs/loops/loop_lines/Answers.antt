use Rattle.level_reasons.specs.Reasons.{IsLoopLine}
use Rattle.level_reasons.proofs.Lines.{line_more}
use Rattle.level_reasons.proofs.loops.loop_lines.Goals as goal

pub loop-l-preserved : goal.loop-l-preserved
loop-l-preserved c = λ n holds. line_more (IsLoopLine c.args.program.now.power.now c.args.program.now.graph.now c.args.program.now.tree.now n c.args.program.now.start) c.loop-l.l c.loop-l.lines.items c.push.new.self.items c.loop_line.result
    c.in_ok-push.ensures.items (c.loop-l.invariant n holds) (c.loop_line.ensures n holds)
