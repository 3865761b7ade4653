use Rattle.std.proofs.Common.{◌<◌, length, slice_get, sym, ap, ◌∙◌, arith}
use Rattle.std.proofs.lemmas.Option.{get_or_from_slice_get}
use Rattle.cost_theory.proofs.Laws.{some_get}
use Rattle.marked_images.proofs.Laws.{counted_loop}
use Rattle.paced_images.proofs.wanted.tallied_flags.Goals as goal

pub is_tallied-requires-clause-within : goal.is_tallied-requires-clause-within
is_tallied-requires-clause-within c =
    let lt : c.loop-k.k < length c.args.counters.now = (let test = c.loop-k-test.true in let count = c.count-k-end.ensures in omega (arith, test, count)) in
    let at = some_get c.args.counters.now c.loop-k.k lt in
    let small = counted_loop c.args.graph.now c.args.tree.now c.requires.tree.0 c.loop-k.k at.0 c.requires.tree.1 (ap (λ cs. slice_get cs c.loop-k.k) (sym c.requires.counters) ∙ at.1) in
    let same = c.get.ensures ∙ get_or_from_slice_get c.args.counters.now c.loop-k.k at.0 0 at.1 in
    omega (arith, small, same)
