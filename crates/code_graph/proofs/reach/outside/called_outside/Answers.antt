use Rattle.std.proofs.Common.{arith}
use Rattle.std.proofs.lemmas.Option.{slice_get_within}
use Rattle.code_graph.proofs.OutsideLaws.{flagged_least, unflagged_least}
use Rattle.code_graph.proofs.reach.outside.called_outside.Goals as goal

pub bounds-returning-callee : goal.bounds-returning-callee
bounds-returning-callee c =
    let lt = slice_get_within c.args.words.now.addresses c.in-Some.callee c.args.to ((c.find.ensures c.in-Some.callee).0 c.in-Some.is) in
    let size = c.requires.size in
    omega (arith, lt, size)

pub returns-then-returning-callee : goal.returns-then-returning-callee
returns-then-returning-callee c =
    flagged_least c.args.words.now c.args.returning.now c.args.at c.args.to c.in-Some.callee c.if_outside.result ((c.find.ensures c.in-Some.callee).0 c.in-Some.is) c.if-returning-callee.true c.if_outside.ensures

pub returns-else-returning-callee : goal.returns-else-returning-callee
returns-else-returning-callee c =
    unflagged_least c.args.words.now c.args.returning.now c.args.at c.args.to c.in-Some.callee c.find.result c.in-Some.is c.find.ensures c.if-returning-callee.false
