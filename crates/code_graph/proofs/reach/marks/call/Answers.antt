use Rattle.std.proofs.Common.{refl, inl}
use Rattle.code_graph.proofs.MarkLaws.{grows_on}
use Rattle.code_graph.proofs.reach.marks.call.Goals as goal

pub returns-clause-grows : goal.returns-clause-grows
returns-clause-grows c =
    let a = c.args.marking.now in
    let b = c.number.new.marking in
    let d = c.reach.new.marking in
    grows_on a.marks.items b.marks.items d.marks.items a.numbers.items b.numbers.items d.numbers.items a.queue.items b.queue.items d.queue.items c.in_ok-number.ensures.grows c.in_ok-reach.ensures.grows

pub returns-clause-covered : goal.returns-clause-covered
returns-clause-covered c = c.in_ok-reach.ensures.reached c.args.h (inl refl)
