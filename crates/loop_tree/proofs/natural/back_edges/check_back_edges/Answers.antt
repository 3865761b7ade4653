use Rattle.std.proofs.Common.{ap}
use Rattle.std.proofs.lemmas.Bool.{both_ways}
use Rattle.scale_base.specs.declared.refusal.Refusal.TheVariants.{NoBackEdge}
use Rattle.loop_tree.proofs.ReadyLaws.{back_edges_next, back_edge_refused}
use Rattle.loop_tree.proofs.natural.back_edges.check_back_edges.Goals as goal

pub returns-then-not-branch : goal.returns-then-not-branch
returns-then-not-branch c =
    back_edge_refused c.args.graph.now c.args.notes.now c.loop-k.k c.note.result.now _ c.requires.apart c.note.ensures.note
    (λ turn. both_ways c.in_ok-goes_back.field-0 c.if-not-branch.true (c.in_ok-goes_back.ensures.1 turn)) c.loop-k.invariant (ap NoBackEdge c.number_of.ensures)

pub loop-k-preserved : goal.loop-k-preserved
loop-k-preserved c =
    back_edges_next c.args.graph.now c.args.notes.now c.loop-k.k c.note.result.now c.note.ensures.note (c.in_ok-goes_back.ensures.0 c.if-not-branch.false) c.loop-k.invariant
