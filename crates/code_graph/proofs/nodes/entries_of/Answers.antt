use Rattle.std.proofs.Common.{get_or, sym, ◌∙◌}
use Rattle.std.specs.Prelude.{slice_index}
use Rattle.std.proofs.lemmas.Option.{get_or_from_slice_get}
use Rattle.code_graph.proofs.Lists.{map_next}
use Rattle.code_graph.proofs.nodes.entries_of.Goals as goal

pub loop-k-preserved : goal.loop-k-preserved
loop-k-preserved c =
    c.in_ok-push.ensures.items ∙ map_next (slice_index c.args.reach.now.words.addresses) c.deref-k-items.result.now c.loop-k.entries.items c.loop-k.k-index 0 c.address.result c.loop-k-test.true c.loop-k.invariant
    (sym (get_or_from_slice_get c.args.reach.now.words.addresses (get_or c.deref-k-items.result.now c.loop-k.k-index 0) c.address.result 0 c.address.ensures))
