use Rattle.std.proofs.Common.{◌≡◌, Bool, false, subst}
use Rattle.std.specs.List.{All}
use Rattle.stack_tables.proofs.Doubts.{none_beside}
use Rattle.stack_tables.proofs.certain.is_certain.Goals as goal

pub returns : goal.returns
returns c so a =
    none_beside c.args.claim.now.stack.now.doubtful.items c.args.claim.now.graph.now.code.nodes a
    (subst (All (λ (is : Bool). is ≡ false)) c.deref.ensures.value (c.are_none.ensures so))
