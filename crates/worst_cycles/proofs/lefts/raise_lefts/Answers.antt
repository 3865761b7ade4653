use Rattle.std.proofs.Common.{◌≡◌, ℕ, ◌^◌, ◌<◌, ◌≤◌, length, length-set, set, None, Vec, Global, arith, refl, sym, ap, ◌∙◌, subst}
use Rattle.graph_algorithms.specs.Arcs.{number_in_place}
use Rattle.worst_cycles.proofs.SearchLaws.{value_at}
use Rattle.worst_cycles.proofs.IterationLaws.{step_node}
use Rattle.worst_cycles.proofs.LeftLaws.{AreRaisedTo, raised_first, raised_more, raised_past, small_set}
use Rattle.worst_cycles.proofs.lefts.raise_lefts.Goals as goal
use Rattle.worst_cycles.proofs.lefts.raise_lefts.Goals.{then-k-header, else-k-header}

pub loop-m-init : goal.loop-m-init
loop-m-init c = record {
  size = refl;
  small = λ k kl. let low = c.requires.small k kl in omega arith;
  raised = raised_first c.args.plan.now c.args.rests.now c.args.header c.args.iteration c.args.left.now.items;
}

pub raised-requires-clause-left : goal.raised-requires-clause-left
raised-requires-clause-left c =
    let ml : c.loop-m.m < length c.args.rests.now.steps.items = omega arith in
    let step = c.requires.steps c.loop-m.m ml in
    let node = step_node c.args.plan.now c.args.rests.now.steps.items c.loop-m.m c.index.result.now c.index-k.result.now ml step c.index.ensures c.index-k.ensures in
    let within = c.requires.order (number_in_place c.args.rests.now.steps.items c.loop-m.m) step in
    let size = c.loop-m.invariant.size in
    let kl : c.index-k.result.now < length c.loop-m.left.items = omega arith in
    let value : number_in_place c.loop-m.left.items c.index-k.result.now ≡ c.index-then-k-header.result.now = value_at c.loop-m.left.items c.index-k.result.now c.index-then-k-header.result.now 0 kl c.index-then-k-header.ensures in
    let small = c.loop-m.invariant.small c.index-k.result.now kl in
    omega arith

pub raised-requires-clause-rest : goal.raised-requires-clause-rest
raised-requires-clause-rest c = λ b some.
    let sizes = c.requires.sizes in
    let ml : c.loop-m.m < length c.args.rests.now.found.items = omega arith in
    c.requires.rests.small c.loop-m.m b (value_at c.args.rests.now.found.items c.loop-m.m c.index-then-k-header-2.result.now None ml c.index-then-k-header-2.ensures ∙ some)

pub loop-m-preserved : goal.loop-m-preserved
loop-m-preserved c =
    let sizes = c.requires.sizes in
    let ml : c.loop-m.m < length c.args.rests.now.steps.items = omega arith in
    let mf : c.loop-m.m < length c.args.rests.now.found.items = omega arith in
    let step = c.requires.steps c.loop-m.m ml in
    let node = step_node c.args.plan.now c.args.rests.now.steps.items c.loop-m.m c.index.result.now c.index-k.result.now ml step c.index.ensures c.index-k.ensures in
    let within = c.requires.order (number_in_place c.args.rests.now.steps.items c.loop-m.m) step in
    let size = c.loop-m.invariant.size in
    let kl : c.index-k.result.now < length c.loop-m.left.items = omega arith in
    elim c.if-k-header.branch [
      | then-k-header w ↦
          let items : c.if-k-header.left.items ≡ set c.loop-m.left.items c.index-k.result.now w.raised.result = ap (λ (v : Vec ℕ Global). v.items) w.left-is in
          let value : number_in_place c.loop-m.left.items c.index-k.result.now ≡ w.index-then-k-header.result.now = value_at c.loop-m.left.items c.index-k.result.now w.index-then-k-header.result.now 0 kl w.index-then-k-header.ensures in
          let higher = w.raised.ensures.higher in
          let rises : number_in_place c.loop-m.left.items c.index-k.result.now ≤ w.raised.result = omega arith in
          record {
            size = ap length items ∙ length-set c.loop-m.left.items c.index-k.result.now w.raised.result ∙ size;
            small = small_set c.loop-m.left.items c.if-k-header.left.items c.index-k.result.now w.raised.result (2 ^ 50) items w.raised.ensures.small c.loop-m.invariant.small;
            raised = raised_more c.index-k.result.now w.raised.result c.index-whole.result.now w.index-then-k-header-2.result.now c.if-k-header.left.items
                (sym node) w.if-k-header.true ml (value_at c.args.rests.now.found.items c.loop-m.m w.index-then-k-header-2.result.now None mf w.index-then-k-header-2.ensures)
                (sym (value_at c.args.left.now.items c.args.header c.index-whole.result.now 0 c.requires.header c.index-whole.ensures)) items kl rises w.raised.ensures.over
                (rw value w.raised.ensures.either) c.loop-m.invariant.raised;
          }
      | else-k-header w ↦
          let items : c.if-k-header.left.items ≡ c.loop-m.left.items = ap (λ (v : Vec ℕ Global). v.items) w.left-is in
          record {
            size = ap length items ∙ size;
            small = rw items c.loop-m.invariant.small;
            raised = rw items (raised_past c.index-k.result.now (sym node) w.if-k-header.false c.loop-m.invariant.raised);
          }
    ]

pub returns : goal.returns
returns c =
    let last : c.loop-m.m ≡ length c.args.rests.now.steps.items = omega arith in
    let raised = subst (λ m. AreRaisedTo c.args.plan.now c.args.rests.now c.args.header c.args.iteration m c.args.left.now.items c.loop-m.left.items) last c.loop-m.invariant.raised in
    record { size = c.loop-m.invariant.size; higher = raised.higher; over = raised.over; either = raised.either }
