use Rattle.std.proofs.Common.{sym, ◌∙◌, arith}
use Rattle.image_lower.proofs.TreeLaws.{depth_alike}
use Rattle.image_lower.proofs.trees.+tree_depth.Goals as goal

pub returns-then-are_alike-clause-depth : goal.returns-then-are_alike-clause-depth
returns-then-are_alike-clause-depth n c =
    let some = c.if-bits-eq0.false in
    rw (depth_alike c.args.bits c.args.targets.now (omega (arith, some)) (sym c.are_alike.ensures ∙ c.if-are_alike.true)) c.tree_depth.ensures.depth
