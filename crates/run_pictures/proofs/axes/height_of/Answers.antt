use Rattle.std.proofs.Common.{◌≡◌, ◌≤◌, ◌<◌, ◌*◌, ◌^◌, arith}
use Rattle.run_pictures.proofs.PlaceFacts.{product_most, product_some}
use Rattle.run_pictures.proofs.axes.height_of.Goals as goal

pub overflow_mul-scaled : goal.overflow_mul-scaled
overflow_mul-scaled c =
    let is = c.min-energy.ensures in
    let small : 480 * c.min-energy.result ≤ 480 * 2 ^ 86 = omega (arith, is) in
    let period : c.args.top.period ≤ 2 ^ 32 = omega arith in
    let most = product_most (480 * c.min-energy.result) c.args.top.period (480 * 2 ^ 86) (2 ^ 32) small period in
    omega (arith, most)

pub overflow_mul-whole : goal.overflow_mul-whole
overflow_mul-whole c =
    let least = c.min.ensures in
    let is = c.max-time.ensures in
    let small : c.max-time.result ≤ 2 ^ 90 = omega (arith, least, is) in
    let one = c.max-unit.ensures in
    let unit : c.max-unit.result ≤ 2 ^ 32 = omega (arith, one) in
    let most = product_most c.max-time.result c.max-unit.result (2 ^ 90) (2 ^ 32) small unit in
    omega (arith, most)

pub nonzero_div-height : goal.nonzero_div-height
nonzero_div-height c =
    let is = c.max-time.ensures in
    let one = c.max-unit.ensures in
    let a : 1 ≤ c.max-time.result = omega (arith, is) in
    let b : 1 ≤ c.max-unit.result = omega (arith, one) in
    let some = product_some c.max-time.result c.max-unit.result a b in
    omega (arith, some)
