use Rattle.std.proofs.Common.{◌≡◌, subst, arith}
use Rattle.code_graph.specs.Marks.{mark_at, Covers}
use Rattle.code_graph.proofs.LinkLaws.{some_same, none_some}
use Rattle.code_graph.proofs.MarkLaws.{grows_same}
use Rattle.code_graph.proofs.reach.marks.reach_some.Goals as goal

pub reach-requires-clause-due : goal.reach-requires-clause-due
reach-requires-clause-due c = c.requires.due c.in-Some.k c.in-Some.is c.if-k-program.true

pub returns-in_ok-reach-clause-reached : goal.returns-in_ok-reach-clause-reached
returns-in_ok-reach-clause-reached c k at lt f cov =
    let same : c.in-Some.k ≡ k = some_same c.in-Some.k k c.args.word c.in-Some.is at in
    subst (λ x. Covers (mark_at c.reach.new.marking.marks.items x) f) same (c.in_ok-reach.ensures.reached f cov)

pub returns-else-k-program-clause-reached : goal.returns-else-k-program-clause-reached
returns-else-k-program-clause-reached c k at lt =
    let same : c.in-Some.k ≡ k = some_same c.in-Some.k k c.args.word c.in-Some.is at in
    absurd (omega (arith, same, lt))

pub returns-else-k-program-clause-grows : goal.returns-else-k-program-clause-grows
returns-else-k-program-clause-grows c = grows_same c.args.marking.now.marks.items c.args.marking.now.numbers.items c.args.marking.now.queue.items

pub returns-in_default-clause-grows : goal.returns-in_default-clause-grows
returns-in_default-clause-grows c = grows_same c.args.marking.now.marks.items c.args.marking.now.numbers.items c.args.marking.now.queue.items

pub returns-in_default-clause-reached : goal.returns-in_default-clause-reached
returns-in_default-clause-reached c k at lt = absurd (none_some k c.args.word c.in_default.is at)
