use Rattle.std.proofs.Common.{◌<◌, length, arith}
use Rattle.foreign_scan.proofs.CountLaws.{taken_one, within_one}
use Rattle.foreign_scan.proofs.counts.take_count.Goals as goal

pub returns-in-Count-clause-taken : goal.returns-in-Count-clause-taken
returns-in-Count-clause-taken c =
    let fits = rw c.in-Count.is at c.requires.foreign in
    let low : c.from.result < length c.args.firsts.now = omega (arith, fits.1, c.from.ensures, c.requires.size) in
    taken_one c.args.edges.now c.args.firsts.now c.take_first.new.firsts c.args.fragment.now c.in-Count.counter c.from.result c.args.e c.in-Count.is c.from.ensures low c.take_first.ensures

pub returns-in-Count-clause-within : goal.returns-in-Count-clause-within
returns-in-Count-clause-within c =
    let fits = rw c.in-Count.is at c.requires.foreign in
    let low : c.from.result < length c.args.firsts.now = omega (arith, fits.1, c.from.ensures, c.requires.size) in
    within_one c.args.edges.now c.args.firsts.now c.take_first.new.firsts c.from.result c.args.e c.requires.within low c.requires.edge c.take_first.ensures
