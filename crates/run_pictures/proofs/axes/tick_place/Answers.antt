use Rattle.std.proofs.Common.{◌≤◌, ◌*◌, ◌^◌, arith}
use Rattle.run_pictures.proofs.PlaceFacts.{product_most}
use Rattle.run_pictures.proofs.axes.tick_place.Goals as goal

pub overflow_mul-time : goal.overflow_mul-time
overflow_mul-time c =
    let most = product_most c.args.j c.tick_step-step.result 8 (5 * 10 ^ 36) c.requires.few c.tick_step-step.ensures.small in
    omega (arith, most)
