use Rattle.std.proofs.Common.{◌+◌, ap, sym, ◌∙◌, subst}
use Rattle.code_graph.specs.Assembling.{AreUp}
use Rattle.code_graph.proofs.StepLaws.{up_more, up_same, flag_here, flag_down}
use Rattle.code_graph.proofs.blocks.numbers_up.Goals as goal
use Rattle.code_graph.proofs.blocks.numbers_up.Goals.{then-flags-k+in_ok-push, else-flags-k}

pub loop-k-preserved : goal.loop-k-preserved
loop-k-preserved c =
    elim c.if-flags-k.branch [
      | then-flags-k+in_ok-push w ↦ up_more c.loop-k.k c.args.flags.now c.loop-k.numbers.items _ (ap (λ v. v.items) w.numbers-is ∙ w.in_ok-push.ensures.items) (flag_here c.args.flags.now c.loop-k.k _ c.loop-k-test.true w.if-flags-k.true) c.loop-k.invariant
      | else-flags-k w ↦ subst (λ v. AreUp (c.loop-k.k + 1) c.args.flags.now v.items) (sym w.numbers-is) (up_same c.loop-k.k c.args.flags.now c.loop-k.numbers.items (flag_down c.args.flags.now c.loop-k.k _ w.if-flags-k.false) c.loop-k.invariant)
    ]
