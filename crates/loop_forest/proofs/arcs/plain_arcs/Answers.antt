use Rattle.std.proofs.Common.{◌<◌, length, Some, None, ap, ◌∙◌, arith}
use Rattle.std.proofs.lemmas.Option.{slice_get-get_or, get_or_from_slice_get}
use Rattle.loop_forest.proofs.ArcLaws.{arc_skipped, arc_added}
use Rattle.loop_forest.proofs.arcs.plain_arcs.Goals as goal
use Rattle.loop_forest.proofs.arcs.plain_arcs.Goals.{in-Some+in_ok-push, in_default}

pub loop-e-preserved : goal.loop-e-preserved
loop-e-preserved c =
    let lt : c.loop-e.e < length c.args.backs.now = omega arith in
    elim c.match-plain_arc.branch [
      | in-Some+in_ok-push w ↦ rw (w.arcs-is, w.in_ok-push.ensures.items)
          (arc_added c.args.graph.now c.args.backs.now c.loop-e.e c.loop-e.arcs.items w.in-Some.arc c.loop-e.invariant (slice_get-get_or c.args.backs.now c.loop-e.e None lt ∙ ap Some w.in-Some.ensures.0) w.in-Some.ensures.1)
      | in_default w ↦ rw w.arcs-is
          (arc_skipped c.args.graph.now c.args.backs.now c.loop-e.e c.loop-e.arcs.items c.loop-e.invariant (λ plain. w.in_default.ensures (get_or_from_slice_get c.args.backs.now c.loop-e.e None None plain)))
    ]
