use Rattle.std.proofs.Common.{ℕ, ◌<◌, length, arith}
use Rattle.std.proofs.lemmas.Option.{slice_get_within}
use Rattle.worst_lines.proofs.sorted.are_in_order.Goals as goal

pub returns : goal.returns
returns c = λ yes i a b at_a at_b.
    let within : i < length c.args.lines.now = slice_get_within c.args.lines.now i a at_a in
    c.loop-i.invariant i (omega arith) a b at_a at_b
