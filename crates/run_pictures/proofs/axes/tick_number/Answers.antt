use Rattle.std.proofs.Common.{◌≤◌, ◌*◌, arith}
use Rattle.run_pictures.proofs.PlaceFacts.{product_most}
use Rattle.run_pictures.proofs.axes.tick_number.Goals as goal

pub overflow_mul-digits : goal.overflow_mul-digits
overflow_mul-digits c =
    let most = product_most c.mantissa-first.result c.power_of_ten-tens.result 5 100 c.mantissa-first.ensures.few c.power_of_ten-tens.ensures.small in
    omega (arith, most)

pub overflow_mul-result : goal.overflow_mul-result
overflow_mul-result c =
    let most = product_most c.mantissa-first.result c.power_of_ten-tens.result 5 100 c.mantissa-first.ensures.few c.power_of_ten-tens.ensures.small in
    let all = product_most c.args.j (c.mantissa-first.result * c.power_of_ten-tens.result) 8 500 c.requires most in
    omega (arith, all)
