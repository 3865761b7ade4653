use Rattle.std.proofs.Common.{◌-◌, ◌<◌, length, None, arith, ◌∙◌}
use Rattle.worst_cycles.proofs.SearchLaws.{value_at}
use Rattle.worst_cycles.proofs.rests.Rests.at.Goals as goal

pub returns-then-index-place-clause-small : goal.returns-then-index-place-clause-small
returns-then-index-place-clause-small c = λ b some.
    let some_found = c.if-count-gt0.true in
    let count = c.len-count.ensures in
    let lt : c.len-count.result - 1 < length c.args.self.now.found.items = omega arith in
    c.requires.rests.small (c.len-count.result - 1) b (value_at c.args.self.now.found.items (c.len-count.result - 1) c.index-then-index-place.result.now None lt c.index-then-index-place.ensures ∙ some)
