use Rattle.std.proofs.Common.{List, Bool, None, sym, subst}
use Rattle.code_graph.specs.Steps.{AreReachMarks}
use Rattle.code_graph.proofs.Tables.{if_ok-map}
use Rattle.code_graph.proofs.MarkedLaws.{marked_is}
use Rattle.code_graph.proofs.reach.marked.mark_from.Goals as goal

pub returns-in_ok-marking-in-Some : goal.returns-in_ok-marking-in-Some
returns-in_ok-marking-in-Some c =
    let m = c.in_ok-marking-in-Some.marking in
    let found = c.in_ok-marking-in-Some.ensures in
    subst (λ o. AreReachMarks c.args.steps.now c.args.returning.now o m.marks.items m.functions.items m.numbers.items) (sym c.in-Some.is)
    (marked_is c.args.steps.now c.args.returning.now c.in-Some.entry m.functions.items m.numbers.items found.numbers found.functions m.marks.items found.size found.numbers_size found.owner found.shared found.unreached found.first)

pub returns-in-None : goal.returns-in-None
returns-in-None c =
    if_ok-map c.none_marked.result (λ m. (returns : List Bool) → AreReachMarks c.args.steps.now returns None m.marks.items m.functions.items m.numbers.items)
    (λ m. AreReachMarks c.args.steps.now c.args.returning.now c.args.entry m.marks.items m.functions.items m.numbers.items)
    (λ m h. subst (λ o. AreReachMarks c.args.steps.now c.args.returning.now o m.marks.items m.functions.items m.numbers.items) (sym c.in-None.is) (h c.args.returning.now)) c.none_marked.ensures
