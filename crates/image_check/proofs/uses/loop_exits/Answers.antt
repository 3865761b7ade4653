use Rattle.std.proofs.Common.{◌∙◌, arith}
use Rattle.image_check.proofs.TreeFacts.{body_exits, exit_lists}
use Rattle.image_check.proofs.uses.loop_exits.Goals as goal

pub loop-k-preserved : goal.loop-k-preserved
loop-k-preserved c =
    let is = c.requires.3 in
    let count = c.loop_count-k-end.ensures.count in
    exit_lists c.args.graph.now c.args.tree.now c.loop-k.k c.exits_of.result c.loop-k.exits.items c.push.new.self.items c.loop-k.invariant c.in_ok-push.ensures.items
    (c.exits_of.ensures ∙ body_exits c.args.graph.now c.args.tree.now is.tree.0 is.code.flow is.tree.1 c.loop-k.k (omega (arith, count)))
