use Rattle.std.proofs.Common.{◌≤◌, ◌^◌, ◌∙◌, sym, subst, arith}
use Rattle.power_model.specs.Numbers.{RunPrice}
use Rattle.run_stretches.proofs.PayLaws.{finish_more, finish_same}
use Rattle.run_stretches.proofs.recording.Recorder.finish.Goals as goal
use Rattle.run_stretches.proofs.recording.Recorder.finish.Goals.{then-closed-end, else-closed-end}

pub overflow_add-meter-inside : goal.overflow_add-meter-inside
overflow_add-meter-inside c =
    let steps : c.meter.inside.steps ≤ 2 ^ 40 = subst (λ (n : RunPrice). n.steps ≤ 2 ^ 40) (sym c.meter.view_is) c.self.invariant.1 in
    let less = c.meter.invariant.switches in
    omega (arith, steps, less)

pub returns : goal.returns
returns c =
    elim c.if-closed-end.branch [
      | then-closed-end w ↦ finish_more _ _ _ _ _ _ _ c.self.view_is c.end.view_is c.meter.view_is w.if-closed-end.true (w.room-is ∙ w.add.ensures) c.bars.ensures
      | else-closed-end w ↦ finish_same _ _ _ _ _ _ c.self.view_is c.end.view_is w.if-closed-end.false w.room-is c.bars.ensures
    ]
