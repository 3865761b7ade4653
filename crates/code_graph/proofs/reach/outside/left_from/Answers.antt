use Rattle.std.proofs.Common.{ap, ◌∙◌, Some}
use Rattle.code_graph.proofs.OutsideLaws.{branch_least}
use Rattle.code_graph.proofs.reach.outside.left_from.Goals as goal

pub returns-in-Branch : goal.returns-in-Branch
returns-in-Branch c =
    branch_least c.args.words.now c.args.returning.now c.args.k c.address-at.result c.in-Branch.to c.if_outside.result c.if_outside-in-Branch.result c.lower.result
    c.address-at.ensures (c.kind.ensures ∙ ap Some c.in-Branch.is) c.if_outside.ensures c.if_outside-in-Branch.ensures c.lower.ensures
