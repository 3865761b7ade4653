use Rattle.std.proofs.Common.{◌≡◌, ℕ, subst, arith, Some}
use Rattle.code_graph.specs.Marks.{mark_at, function_number, Covers}
use Rattle.code_graph.proofs.LinkLaws.{some_same, none_some}
use Rattle.code_graph.proofs.MarkLaws.{grows_same}
use Rattle.code_graph.proofs.reach.marks.call_some.Goals as goal

pub call-requires-clause-reached : goal.call-requires-clause-reached
call-requires-clause-reached c = c.requires.reached c.in-Some.h c.in-Some.is c.if-h-program.true

pub returns-in_ok-call-clause-called : goal.returns-in_ok-call-clause-called
returns-in_ok-call-clause-called c h at lt =
    let same : c.in-Some.h ≡ h = some_same c.in-Some.h h c.args.word c.in-Some.is at in
    subst (λ x. Covers (mark_at c.call.new.marking.marks.items x) x × ((i : ℕ) × (function_number c.call.new.marking.numbers.items x ≡ Some i))) same (c.in_ok-call.ensures.covered, c.in_ok-call.ensures.numbered)

pub returns-else-h-program-clause-called : goal.returns-else-h-program-clause-called
returns-else-h-program-clause-called c h at lt =
    let same : c.in-Some.h ≡ h = some_same c.in-Some.h h c.args.word c.in-Some.is at in
    absurd (omega (arith, same, lt))

pub returns-else-h-program-clause-grows : goal.returns-else-h-program-clause-grows
returns-else-h-program-clause-grows c = grows_same c.args.marking.now.marks.items c.args.marking.now.numbers.items c.args.marking.now.queue.items

pub returns-in_default-clause-grows : goal.returns-in_default-clause-grows
returns-in_default-clause-grows c = grows_same c.args.marking.now.marks.items c.args.marking.now.numbers.items c.args.marking.now.queue.items

pub returns-in_default-clause-called : goal.returns-in_default-clause-called
returns-in_default-clause-called c h at lt = absurd (none_some h c.args.word c.in_default.is at)
