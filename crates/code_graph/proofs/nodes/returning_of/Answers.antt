use Rattle.std.proofs.Common.{false, ◌∙◌}
use Rattle.std.proofs.lemmas.List.{get_or_read}
use Rattle.code_graph.specs.Finding.{reach_of}
use Rattle.code_graph.specs.Assembling.{flag_of}
use Rattle.code_graph.proofs.Lists.{map_next}
use Rattle.code_graph.proofs.NodeLaws.{function_within}
use Rattle.code_graph.proofs.nodes.returning_of.Goals as goal

pub loop-k-preserved : goal.loop-k-preserved
loop-k-preserved c =
    c.in_ok-push.ensures.items ∙ map_next (flag_of c.args.reach.now.returning.items) c.deref-k-items.result.now c.loop-k.flags.items c.loop-k.k-index 0 c.index.result.now c.loop-k-test.true c.loop-k.invariant
    (get_or_read c.args.reach.now.returning.items _ c.index.result.now
    (function_within c.requires.0 (reach_of c.args.reach.now) c.requires.1 c.deref-k-items.result.now c.loop-k.k-index c.deref-k-items.ensures.value c.loop-k-test.true) c.index.ensures false)
