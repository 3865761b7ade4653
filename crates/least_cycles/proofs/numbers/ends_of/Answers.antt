use Rattle.std.proofs.Common.{◌+◌, ◌<◌, List, Option, ℕ, length, sym, subst, arith}
use Rattle.least_cycles.specs.Tables.{least_by}
use Rattle.least_cycles.specs.Found.{AreEndsTo}
use Rattle.least_cycles.proofs.FoundLaws.{ends_more}
use Rattle.least_cycles.proofs.numbers.ends_of.Goals as goal

pub loop-k-preserved : goal.loop-k-preserved
loop-k-preserved c =
    let v = c.args.graph.now in
    let n = least_by v c.args.walks.now.returns.items c.args.walks.now.exits.items c.args.behind.now in
    let kl : c.loop-k.k < length v.code.nodes = omega arith in
    subst (λ (ends : List (Option ℕ)). AreEndsTo v n (c.loop-k.k + 1) ends) (sym c.in_ok-push.ensures.items)
    (ends_more v n c.loop-k.k c.loop-k.ends.items c.end_at.result c.loop-k.invariant c.end_at.ensures kl)
