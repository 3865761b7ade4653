use Rattle.std.proofs.Common.{◌≡◌, ◌≤◌, ◌*◌, ◌^◌, ◌/◌, arith, ap, subst, sym}
use Rattle.run_pictures.proofs.PlaceFacts.{tens_small, tens_some, product_most, product_some}
use Rattle.run_pictures.proofs.axes.tick_step.Goals as goal

pub pow-tens-requires : goal.pow-tens-requires
pow-tens-requires c = let le = tens_small c.args.k c.requires in omega (arith, le)

pub overflow_mul-result : goal.overflow_mul-result
overflow_mul-result c =
    let le = tens_small c.args.k c.requires in
    let is = c.pow-tens.ensures in
    let small : c.pow-tens.result ≤ 10 ^ 36 = omega (arith, le, is) in
    let most = product_most c.mantissa-first.result c.pow-tens.result 5 (10 ^ 36) c.mantissa-first.ensures.few small in
    omega (arith, most)

pub returns-clause-some : goal.returns-clause-some
returns-clause-some c =
    let one = tens_some c.args.k in
    let is = c.pow-tens.ensures in
    product_some c.mantissa-first.result c.pow-tens.result c.mantissa-first.ensures.some (omega (arith, one, is))

pub returns-clause-small : goal.returns-clause-small
returns-clause-small c =
    let le = tens_small c.args.k c.requires in
    let is = c.pow-tens.ensures in
    let small : c.pow-tens.result ≤ 10 ^ 36 = omega (arith, le, is) in
    product_most c.mantissa-first.result c.pow-tens.result 5 (10 ^ 36) c.mantissa-first.ensures.few small
