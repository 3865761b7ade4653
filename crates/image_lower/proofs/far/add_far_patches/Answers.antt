use Rattle.std.proofs.Common.{◌+◌, ◌*◌}
use Rattle.image_lower.specs.FarJumps.{far_patch}
use Rattle.image_lower.proofs.Rows.{next_some}
use Rattle.image_lower.proofs.far.add_far_patches.Goals as goal

pub loop-k-preserved : goal.loop-k-preserved
loop-k-preserved c =
    let from = c.args.range.from in
    next_some (λ i. from + 4 * i) (far_patch c.args.view.now c.args.notes.now) c.args.patches.now.items c.loop-k.patches.items c.push_some.new.patches.items c.loop-k.k c.far_patch-patch.result
    c.far_patch-patch.ensures c.loop-k.invariant c.in_ok-push_some.ensures
