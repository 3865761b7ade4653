use Rattle.std.proofs.Common.{◌<◌, ltb-true}
use Rattle.rv_machine.proofs.PlaceLaws.{met}
use Rattle.rv_machine.proofs.decoding.meets.Goals as goal

pub returns-then-range-last-clause-some : goal.returns-then-range-last-clause-some
returns-then-range-last-clause-some c = λ full yes.
    let above : c.args.from < c.args.range.now.to = ltb-true _ _ yes in
    met c.args.range.now c.args.from c.args.last c.requires full c.if-range-last.true above
