use Rattle.std.proofs.Common.{◌≡◌, arith, sym, ap, ◌∙◌}
use Rattle.std.specs.Prelude.{slice_index}
use Rattle.marked_images.proofs.MarkingLaws.{marking_switches, exit_is, turns_fit, exit_fragment}
use Rattle.scale_base.specs.declared.fragments.Mark.TheVariants as marks
use Rattle.marked_images.proofs.stubs.exit_of.Goals as goal

pub told_at-told-requires-clause-switches : goal.told_at-told-requires-clause-switches
told_at-told-requires-clause-switches c = let h = c.requires.marking in
    marking_switches c.args.power.now h.0 c.args.marked.now.graph c.args.marked.now.tree h.1 h.2 h.3 c.args.marked.now.marking h.4 c.args.e c.requires.mark.0 (marks.Exit c.args.counter) c.requires.edge c.requires.mark.1 tt

pub overflow_sub-counter : goal.overflow_sub-counter
overflow_sub-counter c = let h = c.requires.marking in
    let x = exit_is c.args.power.now h.0 c.args.marked.now.graph c.args.marked.now.tree h.1 h.2 h.3 c.args.marked.now.marking h.4 c.args.e c.requires.mark.0 c.args.counter c.requires.edge c.requires.mark.1 in
    let e = x.counter_is in omega (arith, e)

pub get-l-requires : goal.get-l-requires
get-l-requires c = let h = c.requires.marking in
    let x = exit_is c.args.power.now h.0 c.args.marked.now.graph c.args.marked.now.tree h.1 h.2 h.3 c.args.marked.now.marking h.4 c.args.e c.requires.mark.0 c.args.counter c.requires.edge c.requires.mark.1 in
    let e = x.counter_is in let f = c.from.ensures in let w = x.within in omega (arith, e, f, w)

pub bound-bound-requires : goal.bound-bound-requires
bound-bound-requires c = let h = c.requires.marking in
    let x = exit_is c.args.power.now h.0 c.args.marked.now.graph c.args.marked.now.tree h.1 h.2 h.3 c.args.marked.now.marking h.4 c.args.e c.requires.mark.0 c.args.counter c.requires.edge c.requires.mark.1 in
    let e = x.counter_is in let f = c.from.ensures in
    let place : c.from.result ≡ x.place = omega (arith, e, f) in
    let loop : c.get-l.result.now ≡ x.loop = c.get-l.ensures ∙ (ap (slice_index c.args.marked.now.marking.counters) place ∙ x.get) in
    let small = x.small in omega (arith, loop, small)

pub iteration-iteration-requires : goal.iteration-iteration-requires
iteration-iteration-requires c = let h = c.requires.marking in
    let x = exit_is c.args.power.now h.0 c.args.marked.now.graph c.args.marked.now.tree h.1 h.2 h.3 c.args.marked.now.marking h.4 c.args.e c.requires.mark.0 c.args.counter c.requires.edge c.requires.mark.1 in
    let e = x.counter_is in let f = c.from.ensures in
    let place : c.from.result ≡ x.place = omega (arith, e, f) in
    let loop : c.get-l.result.now ≡ x.loop = c.get-l.ensures ∙ (ap (slice_index c.args.marked.now.marking.counters) place ∙ x.get) in
    let small = x.small in let size = h.4.iterations_size in omega (arith, loop, small, size)

pub exit_rows_within-requires-clause-trips : goal.exit_rows_within-requires-clause-trips
exit_rows_within-requires-clause-trips c = let h = c.requires.marking in
    let x = exit_is c.args.power.now h.0 c.args.marked.now.graph c.args.marked.now.tree h.1 h.2 h.3 c.args.marked.now.marking h.4 c.args.e c.requires.mark.0 c.args.counter c.requires.edge c.requires.mark.1 in
    let e = x.counter_is in let f = c.from.ensures in
    let place : c.from.result ≡ x.place = omega (arith, e, f) in
    let loop : c.get-l.result.now ≡ x.loop = c.get-l.ensures ∙ (ap (slice_index c.args.marked.now.marking.counters) place ∙ x.get) in
    let small = x.small in
    turns_fit c.args.power.now h.0 c.args.marked.now.graph c.args.marked.now.tree h.1 h.2 h.3 c.args.marked.now.marking h.4 c.get-l.result.now c.bound-bound.result c.iteration-iteration.result (omega (arith, loop, small)) c.bound-bound.ensures c.iteration-iteration.ensures

pub returns : goal.returns
returns c = λ image wanted stored least is.
    let x = exit_is c.args.power.now image c.args.marked.now.graph c.args.marked.now.tree wanted stored least c.args.marked.now.marking is c.args.e c.requires.mark.0 c.args.counter c.requires.edge c.requires.mark.1 in
    let e = x.counter_is in let f = c.from.ensures in
    let place : c.from.result ≡ x.place = omega (arith, e, f) in
    let loop : c.get-l.result.now ≡ x.loop = c.get-l.ensures ∙ (ap (slice_index c.args.marked.now.marking.counters) place ∙ x.get) in
    let small = x.small in
    exit_fragment c.args.power.now image c.args.marked.now.graph c.args.marked.now.tree wanted stored least c.args.marked.now.marking is c.args.e c.args.counter c.get-l.result.now c.bound-bound.result c.iteration-iteration.result c.shift.result c.exit_rows_within.result
    c.told_at-told.result (omega (arith, loop, small)) (x.loop_is ∙ sym loop) c.bound-bound.ensures c.iteration-iteration.ensures c.shift.ensures.shift c.exit_rows_within.ensures (c.told_at-told.ensures.told image wanted stored least is)
