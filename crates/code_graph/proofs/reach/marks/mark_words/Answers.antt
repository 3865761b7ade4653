use Rattle.std.proofs.Common.{rules, refl, ◌≡◌, ◌+◌, ◌-◌, ◌*◌, ◌<◌, ◌≤◌, length, sym, ◌∙◌, ap, subst, arith, Some, slice_index, replicate, None}
use Rattle.code_graph.specs.declared.reach.marks.Mark.TheVariants.{Unreached}
use Rattle.code_graph.specs.Marks.{mark_at, Covers}
use Rattle.code_graph.specs.Marks.ReachedAt.{enters}
use Rattle.code_graph.proofs.ChainLaws.{same_index}
use Rattle.code_graph.proofs.MarkLaws.{start_waits, no_number, all_settled, queue_below, wait_next, owner_exactly, shared_exactly, unreached_exactly, numbered_all, size_marks, size_numbers}
use Rattle.code_graph.proofs.reach.marks.mark_words.Goals as goal

pub call-requires-clause-reached : goal.call-requires-clause-reached
call-requires-clause-reached c = enters refl refl c.requires.within

pub loop-done-smaller : goal.loop-done-smaller
loop-done-smaller c =
    let m = c.loop-done.marking in
    let w : length c.loop-done.marking.queue.items ≤ 2 * length c.args.steps.now = queue_below c.args.steps.now c.args.returning.now c.args.entry m.marks.items m.functions.items m.numbers.items m.queue.items c.loop-done.invariant.pass in
    let lt : c.loop-done.done < length c.loop-done.marking.queue.items = search rules in
    let r : 2 * length c.args.steps.now - (c.loop-done.done + 1) < 2 * length c.args.steps.now - c.loop-done.done = omega arith in
    r

pub go_on-requires-clause-covered : goal.go_on-requires-clause-covered
go_on-requires-clause-covered c =
    let lt : c.loop-done.done < length c.loop-done.marking.queue.items = search rules in
    let at : slice_index c.loop-done.marking.queue.items c.loop-done.done ≡ c.index-u.result.now = same_index c.loop-done.marking.queue.items c.loop-done.done 0 c.index-u.result.now lt ∙ sym c.index-u.ensures in
    let w = c.loop-done.invariant.pass.covered c.loop-done.done lt in
    (w.0, subst (λ x. Covers (mark_at c.loop-done.marking.marks.items x) w.0) at w.1)

pub loop-done-preserved : goal.loop-done-preserved
loop-done-preserved c =
    let lt : c.loop-done.done < length c.loop-done.marking.queue.items = search rules in
    let at : slice_index c.loop-done.marking.queue.items c.loop-done.done ≡ c.index-u.result.now = same_index c.loop-done.marking.queue.items c.loop-done.done 0 c.index-u.result.now lt ∙ sym c.index-u.ensures in
    let a = c.loop-done.marking in
    let b = c.go_on.new.marking in
    let g = c.in_ok-go_on.ensures.grows in
    record {
      pass = c.in_ok-go_on.ensures.pass;
      reached = (let l = g.longer in omega arith);
      waits = wait_next c.args.steps.now c.args.returning.now a.marks.items a.numbers.items a.queue.items b.marks.items b.numbers.items b.queue.items g c.loop-done.done c.index-u.result.now at lt c.in_ok-go_on.ensures.settled c.loop-done.invariant.waits;
      start = g.above c.args.entry c.args.entry c.loop-done.invariant.start;
      first = g.numbered c.args.entry 0 c.loop-done.invariant.first;
    }

pub returns-clause-owner : goal.returns-clause-owner
returns-clause-owner c =
    let m = c.loop-done.marking in
    let end : length c.loop-done.marking.queue.items ≤ c.loop-done.done = search rules in
    owner_exactly c.args.steps.now c.args.returning.now c.args.entry m.marks.items m.numbers.items (all_settled c.args.steps.now c.args.returning.now m.marks.items m.numbers.items m.queue.items c.loop-done.done end c.loop-done.invariant.waits) c.loop-done.invariant.start c.loop-done.invariant.pass.due

pub returns-clause-shared : goal.returns-clause-shared
returns-clause-shared c =
    let m = c.loop-done.marking in
    let end : length c.loop-done.marking.queue.items ≤ c.loop-done.done = search rules in
    shared_exactly c.args.steps.now c.args.returning.now c.args.entry m.marks.items m.numbers.items (all_settled c.args.steps.now c.args.returning.now m.marks.items m.numbers.items m.queue.items c.loop-done.done end c.loop-done.invariant.waits) c.loop-done.invariant.start c.loop-done.invariant.pass.due

pub returns-clause-unreached : goal.returns-clause-unreached
returns-clause-unreached c =
    let m = c.loop-done.marking in
    let end : length c.loop-done.marking.queue.items ≤ c.loop-done.done = search rules in
    unreached_exactly c.args.steps.now c.args.returning.now c.args.entry m.marks.items m.numbers.items (all_settled c.args.steps.now c.args.returning.now m.marks.items m.numbers.items m.queue.items c.loop-done.done end c.loop-done.invariant.waits) c.loop-done.invariant.start c.loop-done.invariant.pass.due

pub returns-clause-functions : goal.returns-clause-functions
returns-clause-functions c h =
    let m = c.loop-done.marking in
    let end : length c.loop-done.marking.queue.items ≤ c.loop-done.done = search rules in (
      λ w. c.loop-done.invariant.pass.called h w.0 w.1,
      λ r. numbered_all c.args.steps.now c.args.returning.now c.args.entry m.marks.items m.numbers.items (all_settled c.args.steps.now c.args.returning.now m.marks.items m.numbers.items m.queue.items c.loop-done.done end c.loop-done.invariant.waits) c.loop-done.invariant.start 0 c.loop-done.invariant.first h h r,
    )

pub loop-done-init : goal.loop-done-init
loop-done-init c =
    let n = length c.args.steps.now in
    let me : c.in_ok-marks.marks.items ≡ replicate (length c.args.steps.now) Unreached = search rules in
    let ne : c.in_ok-numbers.numbers.items ≡ replicate (length c.args.steps.now) None = search rules in
    let d = c.call.new.marking in
    record {
      pass = c.in_ok-call.ensures.pass;
      reached = omega arith;
      waits = start_waits c.args.steps.now c.args.returning.now c.args.entry c.in_ok-marks.marks.items c.new.result.items c.in_ok-numbers.numbers.items c.new-2.result.items
          (ap length me ∙ size_marks n) (ap length ne ∙ size_numbers n None) me c.new.ensures.items ne c.new-2.ensures.items d.marks.items d.numbers.items d.queue.items c.in_ok-call.ensures.grows;
      start = c.in_ok-call.ensures.covered;
      first = c.in_ok-call.ensures.added (no_number n c.in_ok-numbers.numbers.items ne c.args.entry) ∙ ap (λ xs. Some (length xs)) c.new.ensures.items;
    }
