use Rattle.std.proofs.Common.{◌≡◌, ◌&&◌, arith, sym, ap, ◌∙◌}
use Rattle.std.specs.Prelude.{slice_index}
use Rattle.scale_base.specs.declared.fragments.Mark.TheVariants as marks
use Rattle.paced_images.proofs.DueFacts.{due_here}
use Rattle.marked_images.proofs.Laws.{marking_switches, tally_is}
use Rattle.paced_images.proofs.due.is_due.Goals as goal

pub told_at-told-requires-clause-switches : goal.told_at-told-requires-clause-switches
told_at-told-requires-clause-switches c = let h = c.requires.marking in let m = c.args.marked.now in
    marking_switches c.args.power.now h.0 m.graph m.tree h.1 h.2 h.3 m.marking h.4 c.args.e c.requires.mark.0 (marks.Tally c.args.counter) c.requires.edge c.requires.mark.1 tt

pub overflow_sub-counter : goal.overflow_sub-counter
overflow_sub-counter c = let h = c.requires.marking in let m = c.args.marked.now in
    let x = tally_is c.args.power.now h.0 m.graph m.tree h.1 h.2 h.3 m.marking h.4 c.args.e c.requires.mark.0 c.args.counter c.requires.edge c.requires.mark.1 in
    let e = x.counter_is in omega (arith, e)

pub get-l-requires : goal.get-l-requires
get-l-requires c = let h = c.requires.marking in let m = c.args.marked.now in
    let x = tally_is c.args.power.now h.0 m.graph m.tree h.1 h.2 h.3 m.marking h.4 c.args.e c.requires.mark.0 c.args.counter c.requires.edge c.requires.mark.1 in
    let e = x.counter_is in let f = c.from.ensures in let w = x.within in omega (arith, e, f, w)

pub bound-bound-requires : goal.bound-bound-requires
bound-bound-requires c = let h = c.requires.marking in let m = c.args.marked.now in
    let x = tally_is c.args.power.now h.0 m.graph m.tree h.1 h.2 h.3 m.marking h.4 c.args.e c.requires.mark.0 c.args.counter c.requires.edge c.requires.mark.1 in
    let e = x.counter_is in let f = c.from.ensures in
    let place : c.from.result ≡ x.place = omega (arith, e, f) in
    let loop : c.get-l.result.now ≡ x.loop = c.get-l.ensures ∙ (ap (slice_index m.marking.counters) place ∙ x.get) in
    let small = x.small in omega (arith, loop, small)

pub iteration-iteration-requires : goal.iteration-iteration-requires
iteration-iteration-requires c = let h = c.requires.marking in let m = c.args.marked.now in
    let x = tally_is c.args.power.now h.0 m.graph m.tree h.1 h.2 h.3 m.marking h.4 c.args.e c.requires.mark.0 c.args.counter c.requires.edge c.requires.mark.1 in
    let e = x.counter_is in let f = c.from.ensures in
    let place : c.from.result ≡ x.place = omega (arith, e, f) in
    let loop : c.get-l.result.now ≡ x.loop = c.get-l.ensures ∙ (ap (slice_index m.marking.counters) place ∙ x.get) in
    let small = x.small in let size = h.4.iterations_size in omega (arith, loop, small, size)

pub is_header-requires-clause-within : goal.is_header-requires-clause-within
is_header-requires-clause-within c = let h = c.requires.marking in let m = c.args.marked.now in
    let x = tally_is c.args.power.now h.0 m.graph m.tree h.1 h.2 h.3 m.marking h.4 c.args.e c.requires.mark.0 c.args.counter c.requires.edge c.requires.mark.1 in
    let e = x.counter_is in let f = c.from.ensures in
    let place : c.from.result ≡ x.place = omega (arith, e, f) in
    let loop : c.get-l.result.now ≡ x.loop = c.get-l.ensures ∙ (ap (slice_index m.marking.counters) place ∙ x.get) in
    let small = x.small in omega (arith, loop, small)

pub returns-then-is_header : goal.returns-then-is_header
returns-then-is_header c = λ image wanted stored least is.
    let m = c.args.marked.now in
    let x = tally_is c.args.power.now image m.graph m.tree wanted stored least m.marking is c.args.e c.requires.mark.0 c.args.counter c.requires.edge c.requires.mark.1 in
    let e = x.counter_is in let f = c.from.ensures in
    let place : c.from.result ≡ x.place = omega (arith, e, f) in
    let loop : c.get-l.result.now ≡ x.loop = c.get-l.ensures ∙ (ap (slice_index m.marking.counters) place ∙ x.get) in
    let small = x.small in
    sym (ap (λ a. a && c.comes_due-due.result) c.if-is_header.true)
    ∙ due_here c.args.power.now image m.graph m.tree wanted stored least m.marking is m.start c.args.header c.args.e c.requires.edge c.args.counter c.get-l.result.now c.bound-bound.result c.iteration-iteration.result c.told_at-told.result c.is_header.result c.comes_due-due.result
    (omega (arith, loop, small)) (x.loop_is ∙ sym loop) c.bound-bound.ensures c.iteration-iteration.ensures (c.told_at-told.ensures.told image wanted stored least is) c.is_header.ensures c.comes_due-due.ensures

pub returns-else-is_header : goal.returns-else-is_header
returns-else-is_header c = λ image wanted stored least is.
    let m = c.args.marked.now in
    let x = tally_is c.args.power.now image m.graph m.tree wanted stored least m.marking is c.args.e c.requires.mark.0 c.args.counter c.requires.edge c.requires.mark.1 in
    let e = x.counter_is in let f = c.from.ensures in
    let place : c.from.result ≡ x.place = omega (arith, e, f) in
    let loop : c.get-l.result.now ≡ x.loop = c.get-l.ensures ∙ (ap (slice_index m.marking.counters) place ∙ x.get) in
    let small = x.small in
    c.if-is_header.false ∙ (sym (ap (λ a. a && c.comes_due-due.result) c.if-is_header.false)
    ∙ due_here c.args.power.now image m.graph m.tree wanted stored least m.marking is m.start c.args.header c.args.e c.requires.edge c.args.counter c.get-l.result.now c.bound-bound.result c.iteration-iteration.result c.told_at-told.result c.is_header.result c.comes_due-due.result
    (omega (arith, loop, small)) (x.loop_is ∙ sym loop) c.bound-bound.ensures c.iteration-iteration.ensures (c.told_at-told.ensures.told image wanted stored least is) c.is_header.ensures c.comes_due-due.ensures)
