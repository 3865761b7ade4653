use Rattle.std.proofs.Common.{rules, arith, ◌≡◌, ◌-◌, ◌<◌, ◌≤◌, ◌∙◌, length, sym, subst}
use Rattle.std.proofs.lemmas.List.{take_at, get_or_read}
use Rattle.graph_algorithms.specs.Groups.{IsSpan}
use Rattle.graph_algorithms.proofs.InsideLaws.{AreSummed, summed_from, summed_step, summed_stop}
use Rattle.graph_algorithms.proofs.bodies.inside.find_inside.Goals as goal

pub loop-node-init : goal.loop-node-init
loop-node-init c =
    let first = c.with_end-changes.result.from in
    let size : length c.deref_mut.result.now ≡ c.args.count = search rules in
    subst (AreSummed c.args.loops.now c.args.count first) (sym (take_at c.mark_loops.new.changes _ c.in_ok-inside.inside.len (c.mark_loops.ensures.size ∙ c.deref_mut.ensures.len)))
    (subst (λ n. AreSummed c.args.loops.now n first c.mark_loops.new.changes) size
    (summed_from c.args.loops.now (length c.deref_mut.result.now) first c.args.nodes c.mark_loops.new.changes c.with_end-changes.ensures.front
    (subst (λ n. IsSpan n c.args.loops.now c.args.nodes) (sym size) c.requires.span) c.mark_loops.ensures.size c.mark_loops.ensures.bits))

pub loop-node-preserved : goal.loop-node-preserved
loop-node-preserved c =
    let items = c.loop-node.inside.items in
    let node = c.loop-node.node in
    let size = c.loop-node.invariant.size in
    let test = c.loop-node-test.true in
    let within = c.with_end-changes.ensures.within in
    let first = c.with_end-changes.ensures.first in
    let from = c.loop-node.auto.node in
    let low : c.loop-node.node < c.args.count = omega arith in
    let one : 1 ≤ c.loop-node.node = omega arith in
    summed_step c.args.loops.now c.args.count node items c.index_mut.result.now c.index.result.now c.loop-node.invariant one low
    (get_or_read items node c.index_mut.result.now (omega arith) c.index_mut.ensures.value 0)
    (get_or_read items (node - 1) c.index.result.now (omega arith) c.index.ensures 0)

pub returns : goal.returns
returns c =
    let end = c.loop-node-test.false in
    summed_stop c.args.loops.now c.args.count c.loop-node.node c.args.nodes c.loop-node.inside.items (λ v le lt. c.with_end-changes.ensures.behind v (omega arith) lt) c.requires.span c.loop-node.invariant
