use Rattle.gain_tuner.proofs.Steps.{items_of, step_in, step_out, step_none, small_more, small_same}
use Rattle.std.proofs.Common.{subst, sym, take, ◌≤◌, ◌*◌, ◌+◌, ◌^◌}
use Rattle.gain_tuner.specs.Spending.{counting, IsSpent}
use Rattle.gain_tuner.proofs.spending.spent_over.Goals as goal
use Rattle.gain_tuner.proofs.spending.spent_over.Goals.{then-files-k+in_ok-more+in-Some, else-files-k}

pub returns-in-None : goal.returns-in-None
returns-in-None g c = step_none c.args.files.now.image.now c.args.files.now.machine.now c.args.files.now.loops.now c.args.stored.now c.args.files.now.inputs.now c.args.files.now.flags.now c.requires.flags c.loop-k.k c.input-item.result c.loop-k-test.true c.input-item.is
    _ c.if-files-k.true c.deref.result.now c.in_ok-more.field-0 c.deref.ensures.value c.in_ok-more.ensures.spent c.in-None.is

pub loop-k-preserved : goal.loop-k-preserved
loop-k-preserved g c =
    elim c.if-files-k.branch [
      | then-files-k+in_ok-more+in-Some w ↦ record {
        spent = subst (λ e. IsSpent c.args.stored.now c.args.files.now.machine.now (counting c.args.files.now.image.now c.args.files.now.machine.now c.args.files.now.loops.now (take (c.loop-k.k + 1) (items_of c.args.files.now.inputs.now))) e) (sym w.energy-is)
            (step_in c.args.files.now.image.now c.args.files.now.machine.now c.args.files.now.loops.now c.args.stored.now c.args.files.now.inputs.now c.args.files.now.flags.now c.requires.flags c.loop-k.k c.input-item.result c.loop-k-test.true c.input-item.is
            _ w.if-files-k.true w.deref.result.now w.in_ok-more.field-0 w.in-Some.more c.loop-k.energy w.deref.ensures.value w.in_ok-more.ensures.spent w.in-Some.is c.loop-k.invariant.spent);
        small = subst (λ e. e ≤ (c.loop-k.k + 1) * 2 ^ 113) (sym w.energy-is) (small_more c.loop-k.k c.loop-k.energy w.in-Some.more w.in_ok-more.field-0 c.loop-k.invariant.small w.in_ok-more.ensures.small w.in-Some.is);
      }
      | else-files-k w ↦ record {
        spent = subst (λ e. IsSpent c.args.stored.now c.args.files.now.machine.now (counting c.args.files.now.image.now c.args.files.now.machine.now c.args.files.now.loops.now (take (c.loop-k.k + 1) (items_of c.args.files.now.inputs.now))) e) (sym w.energy-is)
            (step_out c.args.files.now.image.now c.args.files.now.machine.now c.args.files.now.loops.now c.args.stored.now c.args.files.now.inputs.now c.args.files.now.flags.now c.requires.flags c.loop-k.k c.input-item.result c.loop-k-test.true c.input-item.is
            _ w.if-files-k.false c.loop-k.energy c.loop-k.invariant.spent);
        small = subst (λ e. e ≤ (c.loop-k.k + 1) * 2 ^ 113) (sym w.energy-is) (small_same c.loop-k.k c.loop-k.energy c.loop-k.invariant.small);
      }
    ]
