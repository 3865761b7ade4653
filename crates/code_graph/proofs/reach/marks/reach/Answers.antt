use Rattle.std.proofs.Common.{◌≡◌, ◌<◌, length, sym, ◌∙◌, ap, subst, arith, slice_set, Some}
use Rattle.code_graph.specs.declared.reach.marks.Mark.TheVariants.{Unreached}
use Rattle.code_graph.specs.Marks.{raised, mark_at, IsMarkPass, MarksGrow}
use Rattle.code_graph.proofs.MarkLaws.{reach_pass, reach_grows, reach_reached, raised_none, grows_same, mark_same}
use Rattle.code_graph.proofs.reach.marks.reach.Goals as goal

pub returns-in_ok-push-clause-pass : goal.returns-in_ok-push-clause-pass
returns-in_ok-push-clause-pass c =
    let m = c.args.marking.now in
    let lt : c.args.k < length c.args.marking.now.marks.items = omega (arith, c.requires.pass.marks_size, c.requires.within) in
    let at : c.index-old.result.now ≡ mark_at c.args.marking.now.marks.items c.args.k = c.index-old.ensures ∙ mark_same c.args.marking.now.marks.items c.args.k c.index-old.result.now Unreached lt in
    let is : raised (mark_at c.args.marking.now.marks.items c.args.k) c.args.mark ≡ Some c.in-Some.new = ap (λ o. raised o c.args.mark) (sym at) ∙ sym c.raise.ensures ∙ c.in-Some.is in
    subst (λ q. IsMarkPass c.args.program.now.steps.now c.args.program.now.returning.now c.args.program.now.entry (slice_set m.marks.items c.args.k c.in-Some.new) m.functions.items m.numbers.items q) (sym c.in_ok-push.ensures.items)
    (reach_pass c.args.program.now.steps.now c.args.program.now.returning.now c.args.program.now.entry m.marks.items m.functions.items m.numbers.items m.queue.items c.requires.pass c.args.k c.args.mark c.in-Some.new c.requires.within c.requires.due is)

pub returns-in_ok-push-clause-grows : goal.returns-in_ok-push-clause-grows
returns-in_ok-push-clause-grows c =
    let m = c.args.marking.now in
    let lt : c.args.k < length c.args.marking.now.marks.items = omega (arith, c.requires.pass.marks_size, c.requires.within) in
    let at : c.index-old.result.now ≡ mark_at c.args.marking.now.marks.items c.args.k = c.index-old.ensures ∙ mark_same c.args.marking.now.marks.items c.args.k c.index-old.result.now Unreached lt in
    let is : raised (mark_at c.args.marking.now.marks.items c.args.k) c.args.mark ≡ Some c.in-Some.new = ap (λ o. raised o c.args.mark) (sym at) ∙ sym c.raise.ensures ∙ c.in-Some.is in
    subst (λ q. MarksGrow m.marks.items m.numbers.items m.queue.items (slice_set m.marks.items c.args.k c.in-Some.new) m.numbers.items q) (sym c.in_ok-push.ensures.items)
    (reach_grows c.args.program.now.steps.now c.args.program.now.returning.now c.args.program.now.entry m.marks.items m.functions.items m.numbers.items m.queue.items c.requires.pass c.args.k c.args.mark c.in-Some.new c.requires.within c.requires.due is)

pub returns-in_ok-push-clause-reached : goal.returns-in_ok-push-clause-reached
returns-in_ok-push-clause-reached c =
    let m = c.args.marking.now in
    let lt : c.args.k < length c.args.marking.now.marks.items = omega (arith, c.requires.pass.marks_size, c.requires.within) in
    let at : c.index-old.result.now ≡ mark_at c.args.marking.now.marks.items c.args.k = c.index-old.ensures ∙ mark_same c.args.marking.now.marks.items c.args.k c.index-old.result.now Unreached lt in
    let is : raised (mark_at c.args.marking.now.marks.items c.args.k) c.args.mark ≡ Some c.in-Some.new = ap (λ o. raised o c.args.mark) (sym at) ∙ sym c.raise.ensures ∙ c.in-Some.is in
    reach_reached c.args.program.now.steps.now c.args.program.now.returning.now c.args.program.now.entry m.marks.items m.functions.items m.numbers.items m.queue.items c.requires.pass c.args.k c.args.mark c.in-Some.new c.requires.within c.requires.due is

pub returns-in_default-clause-reached : goal.returns-in_default-clause-reached
returns-in_default-clause-reached c =
    let lt : c.args.k < length c.args.marking.now.marks.items = omega (arith, c.requires.pass.marks_size, c.requires.within) in
    let at : c.index-old.result.now ≡ mark_at c.args.marking.now.marks.items c.args.k = c.index-old.ensures ∙ mark_same c.args.marking.now.marks.items c.args.k c.index-old.result.now Unreached lt in
    raised_none (mark_at c.args.marking.now.marks.items c.args.k) c.args.mark (ap (λ o. raised o c.args.mark) (sym at) ∙ sym c.raise.ensures ∙ c.in_default.is)

pub returns-in_default-clause-grows : goal.returns-in_default-clause-grows
returns-in_default-clause-grows c = grows_same c.args.marking.now.marks.items c.args.marking.now.numbers.items c.args.marking.now.queue.items
