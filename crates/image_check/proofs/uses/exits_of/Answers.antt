use Rattle.std.proofs.Common.{◌≤◌, arith, sym, subst, length}
use Rattle.std.specs.List.{sum_by}
use Rattle.std.proofs.lemmas.List.Sums.{sum_by_more_le}
use Rattle.image_check.specs.Uses.{exits_at}
use Rattle.image_check.proofs.TreeFacts.{body_small}
use Rattle.image_check.proofs.uses.exits_of.Goals as goal

pub overflow_add-found : goal.overflow_add-found
overflow_add-found c =
    let is = c.requires.found.3 in
    let f = exits_at c.args.graph.now c.args.tree.now c.args.k in
    let items = c.body-n-items.result.now in
    let more = sum_by_more_le f items c.loop-n.n-index 0 c.loop-n-test.true in
    let all : sum_by f c.body-n-items.result.now ≤ length c.args.graph.now.code.edges = subst (λ xs. sum_by f xs ≤ length c.args.graph.now.code.edges) (sym c.body-n-items.ensures) (body_small c.args.graph.now c.args.tree.now is.tree.0 is.code.flow is.tree.1 c.args.k c.requires.within) in
    let few = c.edge_count-few.ensures.few in
    let count = c.edge_count-few.ensures.count in
    let so_far = c.loop-n.invariant.total in
    let here = c.exits_from-found.ensures.value in
    omega (arith, more, all, few, count, so_far, here)
