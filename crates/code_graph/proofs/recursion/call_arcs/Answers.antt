use Rattle.std.proofs.Common.{◌+◌, length, get_or, Some, None, ap, sym, ◌∙◌, subst, arith}
use Rattle.std.proofs.lemmas.Option.{slice_get-get_or}
use Rattle.code_graph.specs.Assembling.{AreCallArcs}
use Rattle.code_graph.proofs.Lists.{none_is, length_pushed}
use Rattle.code_graph.proofs.CallLaws.{arcs_one, arcs_none}
use Rattle.code_graph.proofs.recursion.call_arcs.Goals as goal
use Rattle.code_graph.proofs.recursion.call_arcs.Goals.{in-Some+in_ok-push, in_default}

pub loop-k-preserved : goal.loop-k-preserved
loop-k-preserved c =
    let lt = c.loop-k-test.true in
    let size = c.requires in
    let few = c.loop-k.invariant.few in
    let read = slice_get-get_or c.args.callees.now c.loop-k.k None (omega arith) in
    elim c.match-callees-k.branch [
      | in-Some+in_ok-push w ↦
          let items = ap (λ v. v.items) w.arcs-is ∙ w.in_ok-push.ensures.items in
          let more = ap length items ∙ length_pushed c.loop-k.arcs.items (record { from = get_or c.args.owners.now c.loop-k.k 0; to = w.in-Some.to }) in record {
            arcs = arcs_one c.loop-k.k (get_or c.args.owners.now c.loop-k.k 0) w.in-Some.to c.args.owners.now c.args.callees.now c.loop-k.arcs.items c.match-callees-k.arcs.items c.loop-k.invariant.arcs
                (slice_get-get_or c.args.owners.now c.loop-k.k 0 lt) (read ∙ ap Some w.in-Some.is) items;
            few = omega arith;
          }
      | in_default w ↦
          let items = ap (λ v. v.items) w.arcs-is in
          let more = ap length items in record {
            arcs = subst (AreCallArcs (c.loop-k.k + 1) c.args.owners.now c.args.callees.now) (sym items)
                (arcs_none c.loop-k.k c.args.owners.now c.args.callees.now c.loop-k.arcs.items c.loop-k.invariant.arcs (read ∙ ap Some (none_is (get_or c.args.callees.now c.loop-k.k None) w.in_default.not-Some)));
            few = omega arith;
          }
    ]
