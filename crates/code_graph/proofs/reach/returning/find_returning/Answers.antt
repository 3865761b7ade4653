use Rattle.std.proofs.Common.{rules, arith, ◌≡◌, ◌+◌, ◌-◌, ◌<◌, ◌≤◌, length, slice_index, sym, ◌∙◌}
use Rattle.code_graph.specs.Flow.{is_part}
use Rattle.code_graph.proofs.FlowLaws.{flags_exactly, waits_closed}
use Rattle.code_graph.proofs.ChainLaws.{pass_start, queue_within, waits_next, waits_done, same_index}
use Rattle.code_graph.proofs.reach.returning.find_returning.Goals as goal

pub seed-requires-clause-pass : goal.seed-requires-clause-pass
seed-requires-clause-pass c = pass_start c.args.steps.now c.in_ok-flags.flags.items c.new.result.items (search rules) c.new.ensures.items

pub loop-done-smaller : goal.loop-done-smaller
loop-done-smaller c =
    let w : length c.loop-done.found.queue.items ≤ length c.args.steps.now = queue_within c.args.steps.now c.loop-done.found.flags.items c.loop-done.found.queue.items c.loop-done.invariant.pass in
    let lt : c.loop-done.done < length c.loop-done.found.queue.items = search rules in
    let r : length c.args.steps.now - (c.loop-done.done + 1) < length c.args.steps.now - c.loop-done.done = omega arith in
    r

pub loop-done-preserved : goal.loop-done-preserved
loop-done-preserved c =
    let lt : c.loop-done.done < length c.loop-done.found.queue.items = search rules in
    let at : slice_index c.loop-done.found.queue.items c.loop-done.done ≡ c.index-k.result.now = same_index c.loop-done.found.queue.items c.loop-done.done 0 c.index-k.result.now lt ∙ sym c.index-k.ensures in
    record {
      pass = c.in_ok-visit_parts.ensures.pass;
      reached = (let l = c.in_ok-visit_parts.ensures.longer in omega arith);
      waits = waits_done c.args.steps.now c.visit_parts.new.found.flags.items c.visit_parts.new.found.queue.items (c.loop-done.done + 1) c.index-k.result.now
          (c.in_ok-visit_parts.ensures.waits (c.loop-done.done + 1) (is_part c.args.steps.now c.index-k.result.now) (omega arith)
          (waits_next c.args.steps.now c.loop-done.found.flags.items c.loop-done.found.queue.items c.loop-done.done c.index-k.result.now at c.loop-done.invariant.waits));
    }

pub returns-clause-flags : goal.returns-clause-flags
returns-clause-flags c = flags_exactly c.args.steps.now c.loop-done.found.flags.items c.loop-done.invariant.pass.sound
    (let end : length c.loop-done.found.queue.items ≤ c.loop-done.done = search rules in
    waits_closed c.args.steps.now c.loop-done.found.flags.items c.loop-done.found.queue.items c.loop-done.done end c.loop-done.invariant.waits)
