use Rattle.std.proofs.Common.{◌≡◌, ◌<◌, length, sym, ◌∙◌, ap, subst, arith}
use Rattle.code_graph.specs.declared.reach.step.Step.TheVariants.{Return, Stop}
use Rattle.code_graph.specs.declared.reach.marks.Mark.TheVariants.{Unreached}
use Rattle.code_graph.specs.Marks.{mark_at, jumped_word, called_word, next_of, IsDue}
use Rattle.code_graph.proofs.LinkLaws.{step_same}
use Rattle.code_graph.proofs.MarkLaws.{mark_same, due_jump, due_next_of, reached_call, go_grows, go_settled}
use Rattle.code_graph.proofs.reach.marks.go_on.Goals as goal

pub call_some-requires-clause-reached : goal.call_some-requires-clause-reached
call_some-requires-clause-reached c h at lt =
    reached_call c.args.program.now.steps.now c.args.program.now.returning.now c.args.program.now.entry c.args.u (mark_at c.args.marking.now.marks.items c.args.u) (c.requires.pass.due c.args.u) c.requires.covered.0 h c.requires.covered.1
    (ap called_word (step_same c.args.program.now.steps.now c.args.u Stop Return c.requires.within) ∙ sym c.callee-callee.ensures ∙ at) lt

pub reach_some-requires-clause-due : goal.reach_some-requires-clause-due
reach_some-requires-clause-due c k at lt =
    let ml : c.args.u < length c.args.marking.now.marks.items = omega (arith, c.requires.pass.marks_size, c.requires.within) in
    let is : c.index-mark.result.now ≡ mark_at c.args.marking.now.marks.items c.args.u = c.index-mark.ensures ∙ mark_same c.args.marking.now.marks.items c.args.u c.index-mark.result.now Unreached ml in
    subst (λ x. IsDue c.args.program.now.steps.now c.args.program.now.returning.now c.args.program.now.entry x k) (sym is)
    (due_jump c.args.program.now.steps.now c.args.program.now.returning.now c.args.program.now.entry c.args.u (mark_at c.args.marking.now.marks.items c.args.u) (c.requires.pass.due c.args.u) k
    (ap jumped_word (step_same c.args.program.now.steps.now c.args.u Stop Return c.requires.within) ∙ sym c.jump-jump.ensures ∙ at) lt)

pub reach_some-requires-2-clause-due : goal.reach_some-requires-2-clause-due
reach_some-requires-2-clause-due c k at lt =
    let ml : c.args.u < length c.args.marking.now.marks.items = omega (arith, c.requires.pass.marks_size, c.requires.within) in
    let is : c.index-mark.result.now ≡ mark_at c.args.marking.now.marks.items c.args.u = c.index-mark.ensures ∙ mark_same c.args.marking.now.marks.items c.args.u c.index-mark.result.now Unreached ml in
    subst (λ x. IsDue c.args.program.now.steps.now c.args.program.now.returning.now c.args.program.now.entry x k) (sym is)
    (due_next_of c.args.program.now.steps.now c.args.program.now.returning.now c.args.program.now.entry c.args.u (mark_at c.args.marking.now.marks.items c.args.u) (c.requires.pass.due c.args.u) k
    (ap (λ s. next_of s c.args.program.now.returning.now c.args.u) (step_same c.args.program.now.steps.now c.args.u Stop Return c.requires.within) ∙ sym c.next_word-next.ensures ∙ at) lt)

pub returns-clause-grows : goal.returns-clause-grows
returns-clause-grows c =
    let a = c.args.marking.now in
    let b = c.call_some.new.marking in
    let d = c.reach_some.new.marking in
    let e = c.reach_some-2.new.marking in
    go_grows c.args.program.now.steps.now c.args.program.now.returning.now c.args.u c.index-mark.result.now a.marks.items b.marks.items d.marks.items e.marks.items a.numbers.items b.numbers.items d.numbers.items e.numbers.items a.queue.items b.queue.items d.queue.items e.queue.items c.in_ok-call_some.ensures.grows c.in_ok-reach_some.ensures.grows c.in_ok-reach_some-2.ensures.grows

pub returns-clause-settled : goal.returns-clause-settled
returns-clause-settled c =
    let a = c.args.marking.now in
    let b = c.call_some.new.marking in
    let d = c.reach_some.new.marking in
    let e = c.reach_some-2.new.marking in
    let ml : c.args.u < length c.args.marking.now.marks.items = omega (arith, c.requires.pass.marks_size, c.requires.within) in
    let is : c.index-mark.result.now ≡ mark_at c.args.marking.now.marks.items c.args.u = c.index-mark.ensures ∙ mark_same c.args.marking.now.marks.items c.args.u c.index-mark.result.now Unreached ml in
    let st = step_same c.args.program.now.steps.now c.args.u Stop Return c.requires.within in
    go_settled c.args.program.now.steps.now c.args.program.now.returning.now c.args.u c.index-mark.result.now a.marks.items b.marks.items d.marks.items e.marks.items a.numbers.items b.numbers.items d.numbers.items e.numbers.items a.queue.items b.queue.items d.queue.items e.queue.items c.in_ok-call_some.ensures.grows c.in_ok-reach_some.ensures.grows c.in_ok-reach_some-2.ensures.grows
    (sym is)
    (λ h at lt. c.in_ok-call_some.ensures.called h (c.callee-callee.ensures ∙ sym (ap called_word st) ∙ at) lt)
    (λ k at lt. c.in_ok-reach_some.ensures.reached k (c.jump-jump.ensures ∙ sym (ap jumped_word st) ∙ at) lt)
    (λ k at lt. c.in_ok-reach_some-2.ensures.reached k (c.next_word-next.ensures ∙ sym (ap (λ s. next_of s c.args.program.now.returning.now c.args.u) st) ∙ at) lt)
